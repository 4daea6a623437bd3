use Rattle.flat_ref.proofs.Ends.{executed_from-taken, bad_access, bad_steps}
use Rattle.flat_ref.proofs.checking.first_bad.Goals as goal

pub returns-in-Some : goal.returns-in-Some
returns-in-Some c = bad_access _ _ _ _ _ c.in-Some.ensures

pub returns-then-not-reach_all : goal.returns-then-not-reach_all
returns-then-not-reach_all c =
    bad_steps _ _ _ _ _ c.in_default.ensures c.if-not-reach_all.ensures

pub returns : goal.returns
returns c =
    executed_from-taken _ _ _ _ _ _ c.in_default.ensures c.if-not-reach_all.ensures
