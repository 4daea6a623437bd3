-- In every state that a chip of in-order cores reaches, each core is what its own accesses make of a new core.
use Rattle.std.proofs.Common.{◌≡◌, ◌*◌, ◌∙◌, ap, subst, Option, Some, List, [], ◌∷◌}
use Rattle.std.proofs.lemmas.Bool.{false≢true}
use Rattle.std.proofs.lemmas.Option.{same_Some}
use Rattle.core_isa.specs.Core.{CoreState, new_core}
use Rattle.report_text.specs.declared.event.Event.{Event}
use Rattle.mesh_gen.specs.Partial.{◌>>=◌}
use Rattle.doc_text.specs.Doc.{Doc}
use Rattle.flat_ref.specs.Taking.{core_at}
use Rattle.flat_ref.proofs.Parts.{made_all_none}
use Rattle.chip_model.specs.Chip.{chip_of}
use Rattle.chip_model.specs.Units.{in_order}
use Rattle.chip_model.specs.ChipState.{ChipState, opening, program_of}
use Rattle.chip_model.specs.Runs.{after, run}
use Rattle.chip_model.specs.BehaviourLaws.{KeepsLaws}
use Rattle.chip_model.specs.ChipInvariant.{CoresInOrder}
use Rattle.chip_laws.specs.DocFits.{DocFits}
use Rattle.chip_laws.proofs.EventSteps.{event_does, noted_after}
use Rattle.chip_laws.proofs.Opening.{opened_unit}
use Rattle.chip_laws.proofs.Options.{bind}
use Rattle.supply_laws.specs.Reachable.{StateHolds}
use Rattle.supply_laws.proofs.NotedStates.{noted_state, noted_cores}
use Rattle.supply_laws.proofs.ReachedStates.{IsKept, AreKeptInOrder}
use Rattle.value_laws.specs.CoreRuns.{CoreRuns, CoresRun}
use Rattle.value_laws.proofs.CoreSteps.{core_at-itself}
use Rattle.value_laws.proofs.CoreEvents.{cores_run_after}

pub cores_run_opened : (d : Doc) → CoresRun (opening d)
cores_run_opened d t unit at = subst (CoreRuns [] t) (opened_unit d t unit at) (record {
  runs = ap (λ (o : Option CoreState). o >>= λ core. core_at 0 (program_of d t) core) (made_all_none (4 * d.lines) (program_of d t) (new_core t))
      ∙ core_at-itself (program_of d t) (new_core t);
  halts = λ halted. absurd (false≢true halted);
})

-- a run from a state of which it holds leads to one of which it holds
pub cores_run_reached : IsKept → AreKeptInOrder → (laws : KeepsLaws in_order) (d : Doc) (events : List Event) (s last : ChipState) → DocFits d
    → StateHolds in_order laws d s
    → CoresInOrder s → CoresRun s
    → run in_order (chip_of d) s events ≡ Some last → CoresRun last
unfolding run
cores_run_reached kept in_turn laws d [] s last fits holds cores is e = subst CoresRun (same_Some s last e) is
cores_run_reached kept in_turn laws d (event ∷ events) s last fits holds cores is e =
    bind (after in_order (chip_of d) s event) (λ new. run in_order (chip_of d) new events) last e (λ new first rest.
    let (left, stepped, noted_is) = noted_after in_order (chip_of d) s new event first in
    let next = kept in_order laws d s left event fits holds stepped in
    let cores_next = in_turn d s left event holds.protocol cores stepped in
    let is_next : CoresRun left = cores_run_after d s left event holds.protocol cores is (event_does in_order (chip_of d) s left event stepped) in
    cores_run_reached kept in_turn laws d events new last fits
    (subst (StateHolds in_order laws d) noted_is (noted_state in_order laws d left event next))
    (subst CoresInOrder noted_is (noted_cores left event cores_next))
    (subst CoresRun noted_is is_next) rest)
