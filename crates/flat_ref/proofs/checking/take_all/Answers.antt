use Rattle.std.proofs.Common.{is_some, ap}
use Rattle.flat_ref.proofs.Runs.{taken_all_none, taken_all_next}
use Rattle.flat_ref.proofs.checking.take_all.Goals as goal

pub loop-at-init : goal.loop-at-init
loop-at-init c = taken_all_none _ _

pub returns-then-not-take : goal.returns-then-not-take
returns-then-not-take c = record {
  within = c.loop-at-test.true;
  before = ap is_some c.loop-at.invariant;
  here = taken_all_next _ _ _ _ _ _ _ c.loop-at-test.true c.loop-at.invariant c.if-not-take.ensures;
}

pub loop-at-preserved : goal.loop-at-preserved
loop-at-preserved c =
    taken_all_next _ _ _ _ _ _ _ c.loop-at-test.true c.loop-at.invariant c.if-not-take.ensures
