use Rattle.std.proofs.Common.{◌≡◌, refl, sym, ◌∙◌, rules}
use Rattle.std.specs.Prelude.{slice_index}
use Rattle.std.proofs.lemmas.Grind.{common_steps}
use Rattle.order_tracker.proofs.Fronts.{front_none, next_is, next_none}
use Rattle.order_tracker.proofs.Sequence.{entry_follows}
use Rattle.order_tracker.proofs.tracker.Tracker.expected.Goals as goal

pub returns-in-None-clause-next : goal.returns-in-None-clause-next
returns-in-None-clause-next c = rw (← c.self.view_is) (sym (next_none (record { tiles = c.self.inside.tiles; windows = c.self.inside.windows.items; number = c.self.inside.number; used = c.self.inside.used.items; room = c.self.inside.windows.capacity }) (sym c.in-None.ensures)))

pub returns-in-None-clause-none : goal.returns-in-None-clause-none
returns-in-None-clause-none c = (λ _. rw (← c.self.view_is) (front_none _ (sym c.in-None.ensures)), λ _. refl)

pub returns-in-None-clause-follows : goal.returns-in-None-clause-follows
returns-in-None-clause-follows c = λ windows used follows.
    returns-in-None-clause-next c ∙ entry_follows windows used _ (rw (← c.self.view_is) c.self.invariant.0) follows

pub returns-in-Some-clause-next : goal.returns-in-Some-clause-next
returns-in-Some-clause-next c =
    let used_is : c.index.result.now ≡ slice_index c.self.inside.used.items c.source_of-source.result = search (rules, common_steps) in
    rw (← c.self.view_is, used_is) (sym (next_is (record { tiles = c.self.inside.tiles; windows = c.self.inside.windows.items; number = c.self.inside.number; used = c.self.inside.used.items; room = c.self.inside.windows.capacity }) _ c.source_of-source.result c.self.invariant.0 c.self.invariant.1 c.self.invariant.3 (sym c.in-Some.ensures) c.source_of-source.ensures.first))

pub returns-in-Some-clause-follows : goal.returns-in-Some-clause-follows
returns-in-Some-clause-follows c = λ windows used follows.
    returns-in-Some-clause-next c ∙ entry_follows windows used _ (rw (← c.self.view_is) c.self.invariant.0) follows
