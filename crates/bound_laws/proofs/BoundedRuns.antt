-- A run has at most as many events as the measure falls by: so no more than the bound, and one that has as many leaves nothing.
use Rattle.std.proofs.Common.{◌≡◌, ◌+◌, ◌≤◌, Some, List, [], ◌∷◌, length, refl, ap, subst, arith}
use Rattle.std.proofs.lemmas.Option.{same_Some}
use Rattle.report_text.specs.declared.event.Event.{Event}
use Rattle.doc_text.specs.Doc.{Doc}
use Rattle.chip_model.specs.Chip.{Chip, chip_of}
use Rattle.chip_model.specs.Units.{in_order}
use Rattle.chip_model.specs.ChipState.{ChipState}
use Rattle.chip_model.specs.Events.{step}
use Rattle.chip_model.specs.Runs.{noted, after, run}
use Rattle.chip_model.specs.BehaviourLaws.{KeepsLaws}
use Rattle.chip_model.specs.ChipInvariant.{ProtocolHolds, CoresInOrder}
use Rattle.chip_laws.specs.DocFits.{DocFits}
use Rattle.chip_laws.proofs.Options.{bind}
use Rattle.chip_laws.proofs.EventSteps.{noted_after}
use Rattle.supply_laws.specs.Reachable.{StateHolds}
use Rattle.supply_laws.proofs.NotedStates.{noted_state, noted_cores}
use Rattle.supply_laws.proofs.ReachedStates.{IsKept, AreKeptInOrder}
use Rattle.bound_laws.specs.Measure.{answers_to_go, measure, Falls}

-- the journal does not count
noted_measure : (chip : Chip) (s : ChipState) (event : Event) → measure chip (noted event s) ≡ measure chip s
unfolding answers_to_go
noted_measure chip s event = refl

-- each event of a state in which all holds lowers the measure
abbrev pub AllFall : Doc → Type 0
AllFall d = (s new : ChipState) (event : Event) → ProtocolHolds d s → CoresInOrder s → step in_order (chip_of d) s event ≡ Some new → Falls (chip_of d) s new

-- what is kept along runs
pub record RunLaws (d : Doc) : Type 0 where
  pub fits : DocFits d
  pub laws : KeepsLaws in_order
  pub kept : IsKept
  pub in_turn : AreKeptInOrder
  pub fall : AllFall d

pub run_falls : (d : Doc) (events : List Event) (s last : ChipState) → RunLaws d → (laws : KeepsLaws in_order) → StateHolds in_order laws d s → CoresInOrder s
    → run in_order (chip_of d) s events ≡ Some last
    → length events + measure (chip_of d) last ≤ measure (chip_of d) s
unfolding run
run_falls d [] s last known laws holds cores e = let same = ap (measure (chip_of d)) (same_Some s last e) in omega arith
run_falls d (event ∷ events) s last known laws holds cores e =
    bind (after in_order (chip_of d) s event) (λ new. run in_order (chip_of d) new events) last e (λ new first rest.
    let made = noted_after in_order (chip_of d) s new event first in
    let next = known.kept in_order laws d s made.0 event known.fits holds made.1 in
    let cores_next = known.in_turn d s made.0 event holds.protocol cores made.1 in
    let less = known.fall s made.0 event holds.protocol cores made.1 in
    let same = noted_measure (chip_of d) made.0 event in
    let new_is = ap (measure (chip_of d)) made.2 in
    let later = run_falls d events new last known laws
    (subst (StateHolds in_order laws d) made.2 (noted_state in_order laws d made.0 event next))
    (subst CoresInOrder made.2 (noted_cores made.0 event cores_next)) rest in
    omega arith)
