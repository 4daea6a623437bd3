-- In every state that a chip of in-order cores reaches all copies have their values, and each read received what was written
-- last before it.
use Rattle.std.proofs.Common.{◌≡◌, Some, List, [], ◌∷◌, refl, subst}
use Rattle.std.proofs.lemmas.Option.{same_Some}
use Rattle.report_text.specs.declared.event.Event.{Event}
use Rattle.doc_text.specs.Doc.{Doc}
use Rattle.chip_model.specs.Chip.{chip_of}
use Rattle.chip_model.specs.Units.{Behaviour, in_order}
use Rattle.chip_model.specs.ChipState.{ChipState, opening}
use Rattle.chip_model.specs.Events.{step}
use Rattle.chip_model.specs.Runs.{noted, after, run}
use Rattle.chip_model.specs.BehaviourLaws.{KeepsLaws}
use Rattle.chip_model.specs.Values.{ValuesHold}
use Rattle.chip_model.specs.ChipInvariant.{CoresInOrder}
use Rattle.chip_laws.specs.DocFits.{DocFits}
use Rattle.chip_laws.specs.DocLaws.{DocLaws}
use Rattle.chip_laws.specs.MessageLaws.{MessageLaws}
use Rattle.chip_laws.proofs.EventSteps.{event_does, noted_after}
use Rattle.chip_laws.proofs.Options.{none_some, bind}
use Rattle.chip_laws.proofs.OrderedTiles.{tiles_some}
use Rattle.chip_laws.proofs.RequestsInside.{tile_of}
use Rattle.supply_laws.specs.Reachable.{StateHolds}
use Rattle.supply_laws.proofs.NotedStates.{noted_state, noted_cores}
use Rattle.supply_laws.proofs.ReachedStates.{IsKept, AreKeptInOrder}
use Rattle.value_laws.specs.CoreRuns.{CoresRun}
use Rattle.value_laws.specs.Reads.{ReadsHold, AccessesHold}
use Rattle.value_laws.proofs.Executions.{cores_rising}
use Rattle.value_laws.proofs.QuietValues.{no_change}
use Rattle.value_laws.proofs.OpenedValues.{values_opened}
use Rattle.value_laws.proofs.EventReads.{quiet, reads_after}
use Rattle.value_laws.proofs.KeptValues.{values_kept, orders_noted, values_noted}
use Rattle.value_laws.proofs.Sequences.{all_succeeding}
use Rattle.value_laws.proofs.InOrderHits.{in_order_tries}

-- ---- an event

-- what holds of a chip of in-order cores
pub record InOrderState (laws : KeepsLaws in_order) (d : Doc) (s : ChipState) : Type 0 where
  pub state : StateHolds in_order laws d s
  pub cores : CoresInOrder s
  pub values : ValuesHold d s
  pub reads : ReadsHold d s

pub state_kept : IsKept → AreKeptInOrder → MessageLaws → (laws : KeepsLaws in_order) (d : Doc) (s new : ChipState) (event : Event) → DocLaws d
    → InOrderState laws d s
    → step in_order (chip_of d) s event ≡ Some new → InOrderState laws d new
state_kept kept in_turn messages laws d s new event fits is e =
    let left = kept in_order laws d s new event fits.doc is.state e in
    let cores = in_turn d s new event is.state.protocol is.cores e in
    let rising = cores_rising d s is.state.protocol is.cores in
    let rises = cores_rising d new left.protocol cores in
    record {
      state = left;
      cores = cores;
      values = values_kept kept messages in_order laws d s new event fits is.state (all_succeeding new.accesses rises)
          is.values e;
      reads = reads_after messages in_order laws d s new fits is.state left rising rises is.values is.reads
          (in_order_tries laws d s new fits.doc is.state.protocol is.state.fit) event (event_does in_order (chip_of d) s new event e);
    }

-- ---- the event is noted

pub noted_holds : (laws : KeepsLaws in_order) (d : Doc) (s : ChipState) (event : Event) → DocFits d → InOrderState laws d s
    → InOrderState laws d (noted event s)
noted_holds laws d s event fits is =
    let tile = tile_of d s 0 is.state.protocol (tiles_some d fits) in
    record {
      state = noted_state in_order laws d s event is.state;
      cores = noted_cores s event is.cores;
      values = values_noted in_order laws d s event fits is.state is.values;
      reads = quiet d s (noted event s) (orders_noted in_order laws d s event fits is.state) is.reads 0 tile.unit tile.unit
          (no_change s (noted event s) 0 tile.unit tile.unit_at refl) (λ line only. only) refl refl;
    }

-- ---- runs

pub state_reached : IsKept → AreKeptInOrder → MessageLaws → (laws : KeepsLaws in_order) (d : Doc) (events : List Event) (s last : ChipState) → DocLaws d
    → InOrderState laws d s
    → run in_order (chip_of d) s events ≡ Some last → InOrderState laws d last
unfolding run
state_reached kept in_turn messages laws d [] s last fits is e = subst (InOrderState laws d) (same_Some s last e) is
state_reached kept in_turn messages laws d (event ∷ events) s last fits is e =
    bind (after in_order (chip_of d) s event) (λ new. run in_order (chip_of d) new events) last e (λ new first rest.
    let (left, stepped, noted_is) = noted_after in_order (chip_of d) s new event first in
    let next = state_kept kept in_turn messages laws d s left event fits is stepped in
    state_reached kept in_turn messages laws d events new last fits (subst (InOrderState laws d) noted_is (noted_holds laws d left event fits.doc next)) rest)

-- ---- what the laws say

pub state_opened : ((b : Behaviour) (laws : KeepsLaws b) (d : Doc) → DocFits d → StateHolds b laws d (opening d)) → ((d : Doc) → CoresInOrder (opening d))
    → (laws : KeepsLaws in_order) (d : Doc)
    → DocFits d → InOrderState laws d (opening d)
state_opened opened cores laws d fits = record {
  state = opened in_order laws d fits;
  cores = cores d;
  values = values_opened d;
  reads = λ place a at. none_some a at;
}

-- the same, as what the accesses rest on
pub accesses_hold : (laws : KeepsLaws in_order) (d : Doc) (s : ChipState) → InOrderState laws d s → CoresRun s → AccessesHold d s
accesses_hold laws d s is runs = record {
  chip = record { protocol = is.state.protocol; cores = is.cores; values = is.values };
  cores = runs;
  reads = is.reads;
}

pub of_accesses : (laws : KeepsLaws in_order) (d : Doc) (s : ChipState) → StateHolds in_order laws d s → AccessesHold d s → InOrderState laws d s
of_accesses laws d s holds is = record { state = holds; cores = is.chip.cores; values = is.chip.values; reads = is.reads }
