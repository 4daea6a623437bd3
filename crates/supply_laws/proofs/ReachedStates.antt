-- Every state that a chip reaches: what holds of the opening, and of each event what it keeps, part by part.
use Rattle.std.proofs.Common.{◌≡◌, subst, Some, List, [], ◌∷◌}
use Rattle.std.proofs.lemmas.Option.{same_Some}
use Rattle.report_text.specs.declared.event.Event.{Event}
use Rattle.doc_text.specs.Doc.{Doc}
use Rattle.chip_model.specs.Chip.{Chip, chip_of}
use Rattle.chip_model.specs.Units.{Behaviour, in_order}
use Rattle.chip_model.specs.ChipState.{ChipState}
use Rattle.chip_model.specs.Events.{step}
use Rattle.chip_model.specs.Runs.{noted, after, run}
use Rattle.chip_model.specs.BehaviourLaws.{KeepsLaws}
use Rattle.chip_model.specs.ChipInvariant.{ProtocolHolds, CoresInOrder}
use Rattle.chip_laws.specs.DocFits.{DocFits}
use Rattle.chip_laws.proofs.EventSteps.{noted_after}
use Rattle.chip_laws.proofs.Options.{bind}
use Rattle.supply_laws.specs.Reachable.{StateHolds}
use Rattle.supply_laws.proofs.NotedStates.{noted_state, noted_cores}

-- every event keeps it
abbrev pub IsKept : Type 0
IsKept = (b : Behaviour) (laws : KeepsLaws b) (d : Doc) (s new : ChipState) (event : Event) → DocFits d → StateHolds b laws d s → step b (chip_of d) s event ≡ Some new → StateHolds b laws d new

-- also where the event is noted
pub noted_holds : IsKept → (b : Behaviour) (laws : KeepsLaws b) (d : Doc) (s new : ChipState) (event : Event) → DocFits d → StateHolds b laws d s → after b (chip_of d) s event ≡ Some new
    → StateHolds b laws d new
noted_holds kept b laws d s new event fits holds e =
    let made = noted_after b (chip_of d) s new event e in
    subst (StateHolds b laws d) made.2 (noted_state b laws d made.0 event (kept b laws d s made.0 event fits holds made.1))

-- a run from a state of which it holds leads to one of which it holds
pub run_holds : IsKept → (b : Behaviour) (laws : KeepsLaws b) (d : Doc) (events : List Event) (s last : ChipState) → DocFits d → StateHolds b laws d s
    → run b (chip_of d) s events ≡ Some last → StateHolds b laws d last
unfolding run
run_holds kept b laws d [] s last fits holds e = subst (StateHolds b laws d) (same_Some s last e) holds
run_holds kept b laws d (event ∷ events) s last fits holds e =
    bind (after b (chip_of d) s event) (λ new. run b (chip_of d) new events) last e (λ new first rest.
    run_holds kept b laws d events new last fits (noted_holds kept b laws d s new event fits holds first) rest)

-- the same of in-order cores, beside it
abbrev pub AreKeptInOrder : Type 0
AreKeptInOrder = (d : Doc) (s new : ChipState) (event : Event) → ProtocolHolds d s → CoresInOrder s → step in_order (chip_of d) s event ≡ Some new → CoresInOrder new

pub cores_run : IsKept → AreKeptInOrder → (laws : KeepsLaws in_order) (d : Doc) (events : List Event) (s last : ChipState) → DocFits d → StateHolds in_order laws d s → CoresInOrder s
    → run in_order (chip_of d) s events ≡ Some last → CoresInOrder last
unfolding run
cores_run kept in_turn laws d [] s last fits holds cores e = subst CoresInOrder (same_Some s last e) cores
cores_run kept in_turn laws d (event ∷ events) s last fits holds cores e =
    bind (after in_order (chip_of d) s event) (λ new. run in_order (chip_of d) new events) last e (λ new first rest.
    let made = noted_after in_order (chip_of d) s new event first in
    let cores_next = in_turn d s made.0 event holds.protocol cores made.1 in
    cores_run kept in_turn laws d events new last fits (noted_holds kept in_order laws d s new event fits holds first)
    (subst CoresInOrder made.2 (noted_cores made.0 event cores_next)) rest)
