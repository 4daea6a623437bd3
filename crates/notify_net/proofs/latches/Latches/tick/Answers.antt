use Rattle.std.proofs.Common.{◌≡◌, ◌++◌, take, drop, ◌∙◌, ap, length, arith}
use Rattle.std.proofs.lemmas.List.{take_at}
use Rattle.notify_net.proofs.Phases.{IsAtPhase-tick}
use Rattle.notify_net.proofs.Unions.{AreBelow-links, Ticks-union}
use Rattle.notify_net.proofs.latches.Latches.tick.Goals as goal

pub take_in-requires-clause-beside : goal.take_in-requires-clause-beside
take_in-requires-clause-beside c = λ t d within.
    let count = ap length c.deref.ensures.value ∙ c.self.invariant.0 in
    let inside = rw c.deref-2.ensures.value at within in
    rw c.deref-2.ensures.value (AreBelow-links _ _ _ t d c.self.invariant.2 count inside)

pub returns-clause-ticked : goal.returns-clause-ticked
returns-clause-ticked c =
    let count : length c.take_in.new.next ≡ c.self.inside.next.len = omega (arith, ap length c.deref_mut.ensures.value) in
    let next_is : take c.self.inside.next.len (c.take_in.new.next ++ drop (length c.take_in.new.next) c.self.inside.next.items) ≡ c.take_in.new.next = take_at c.take_in.new.next _ c.self.inside.next.len count in
    let unions = rw (c.deref.ensures.value, c.deref-2.ensures.value) at c.take_in.ensures in
    rw (← c.self.view_is, c.swap.ensures.x_after, next_is) (Ticks-union _ _ _ _ c.self.invariant.2 c.self.invariant.0 (omega arith) unions)

pub returns-clause-phase : goal.returns-clause-phase
returns-clause-phase c = λ g posts k at. IsAtPhase-tick g posts k _ _ (returns-clause-ticked c) at
