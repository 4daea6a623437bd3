use Rattle.std.proofs.Common.{◌≡◌, ◌+◌, refl, rules}
use Rattle.std.specs.Prelude.{slice_index, slice_set}
use Rattle.std.specs.Vec.{with_item}
use Rattle.std.proofs.lemmas.Grind.{common_steps}
use Rattle.order_tracker.proofs.Sequence.{Follows-advance}
use Rattle.order_tracker.proofs.tracker.Tracker.advance.Goals as goal

pub returns-clause-follows : goal.returns-clause-follows
returns-clause-follows c = λ windows used follows.
    let pass = c.pass_over-source.ensures in
    let counts : (with_item c.self.inside.used c.from.result (c.index_mut.result.now + 1)).items ≡ slice_set c.self.inside.used.items c.pass_over-source.result (slice_index c.self.inside.used.items c.pass_over-source.result + 1) = search (rules, common_steps) in
    let before = rw (← c.self.view_is) at follows in
    Follows-advance windows used _ _ c.pass_over-source.result pass.tile c.self.invariant.2 refl pass.count pass.left counts before
