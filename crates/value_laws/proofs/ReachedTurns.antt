-- In every state that a chip reaches, whatever its cores are, the accesses are in turn; so no instruction has two.
use Rattle.std.proofs.Common.{◌≡◌, ◌≢◌, ℕ, ◌<◌, zero, suc, Some, List, [], ◌∷◌, slice_get, sym, ap, subst, inl, inr, arith}
use Rattle.std.proofs.lemmas.Bool.{cases_lt}
use Rattle.std.proofs.lemmas.Option.{same_Some}
use Rattle.report_text.specs.declared.access.Access.{Access}
use Rattle.report_text.specs.declared.event.Event.{Event}
use Rattle.doc_text.specs.Doc.{Doc}
use Rattle.chip_model.specs.Chip.{chip_of}
use Rattle.chip_model.specs.Units.{UnitState, Behaviour, BufferedStore}
use Rattle.chip_model.specs.ChipState.{ChipState, opening}
use Rattle.chip_model.specs.Events.{step}
use Rattle.chip_model.specs.Runs.{noted, after, run}
use Rattle.chip_model.specs.BehaviourLaws.{KeepsLaws}
use Rattle.chip_laws.specs.DocFits.{DocFits}
use Rattle.chip_laws.proofs.Each.{each_at}
use Rattle.chip_laws.proofs.EventSteps.{event_does, noted_after}
use Rattle.chip_laws.proofs.Opening.{opened_unit}
use Rattle.chip_laws.proofs.Options.{none_some, bind}
use Rattle.supply_laws.specs.Reachable.{StateHolds}
use Rattle.supply_laws.proofs.NotedStates.{noted_state}
use Rattle.supply_laws.proofs.ReachedStates.{IsKept}
use Rattle.value_laws.specs.Sequences.{AllPairs, Differs}
use Rattle.value_laws.specs.Numbers.{StoresRise, AreInTurn}
use Rattle.value_laws.proofs.TurnsKept.{turns_after}

-- before any event no store is buffered
pub turns_opened : (d : Doc) → AreInTurn (opening d)
turns_opened d = record {
  succeed = tt;
  differ = tt;
  numbers = λ t unit at. record {
    early = tt;
    stores = subst (λ (xs : List BufferedStore). StoresRise unit.core.steps xs) (ap (λ (u : UnitState). u.buffered) (opened_unit d t unit at)) tt;
    apart = tt;
  };
}

-- an event
pub turn_kept : (b : Behaviour) (laws : KeepsLaws b) (d : Doc) (s new : ChipState) (event : Event) → StateHolds b laws d s → AreInTurn s
    → step b (chip_of d) s event ≡ Some new → AreInTurn new
turn_kept b laws d s new event holds turn e = turns_after b laws d s new holds.protocol holds.fit turn event (event_does b (chip_of d) s new event e)

-- it is noted
pub turn_noted : (s : ChipState) (event : Event) → AreInTurn s → AreInTurn (noted event s)
turn_noted s event turn = record { succeed = turn.succeed; differ = turn.differ; numbers = turn.numbers }

-- a run
pub turns_reached : IsKept → (b : Behaviour) (laws : KeepsLaws b) (d : Doc) (events : List Event) (s last : ChipState) → DocFits d → StateHolds b laws d s
    → AreInTurn s → run b (chip_of d) s events ≡ Some last → AreInTurn last
unfolding run
turns_reached kept b laws d [] s last fits holds turn e = subst AreInTurn (same_Some s last e) turn
turns_reached kept b laws d (event ∷ events) s last fits holds turn e =
    bind (after b (chip_of d) s event) (λ new. run b (chip_of d) new events) last e (λ new first rest.
    let (left, stepped, noted_is) = noted_after b (chip_of d) s new event first in
    turns_reached kept b laws d events new last fits
    (subst (StateHolds b laws d) noted_is (noted_state b laws d left event (kept b laws d s left event fits holds stepped)))
    (subst AreInTurn noted_is (turn_noted left event (turn_kept b laws d s left event holds turn stepped))) rest)

-- ---- one instruction each

-- what is so for each pair is so for two places
pairs_at : (R : Access → Access → Type 0) (xs : List Access) (i j : ℕ) (a b : Access) → AllPairs R xs → i < j → slice_get xs i ≡ Some a
    → slice_get xs j ≡ Some b → R a b
pairs_at R [] i j a b all less here there = none_some a here
pairs_at R (x ∷ xs) zero zero a b all less here there = absurd (omega (arith, less))
pairs_at R (x ∷ xs) zero (suc j) a b all less here there = subst (λ (y : Access). R y b) (same_Some x a here) (each_at (R x) xs j b all.0 there)
pairs_at R (x ∷ xs) (suc i) zero a b all less here there = absurd (omega (arith, less))
pairs_at R (x ∷ xs) (suc i) (suc j) a b all less here there = pairs_at R xs i j a b all.1 (omega (arith, less)) here there

-- no two accesses are of one instruction
pub numbers_apart : (s : ChipState) → AreInTurn s → (i j : ℕ) (a b : Access) → i ≢ j → slice_get s.accesses i ≡ Some a
    → slice_get s.accesses j ≡ Some b → a.tile ≡ b.tile → a.number ≢ b.number
numbers_apart s turn i j a b away here there tile number = elim (cases_lt i j) [
  | inl before ↦ absurd (pairs_at Differs s.accesses i j a b turn.differ before here there tile number)
  | inr beyond ↦ absurd (pairs_at Differs s.accesses j i b a turn.differ (omega (arith, beyond, away)) there here (sym tile) (sym number))
]
