-- The journal has room for the core events that are left over.
use Rattle.std.proofs.Common.{◌≡◌, ℕ, ◌+◌, ◌<◌, ◌≤◌, ◌⊎◌, false, List, Some, length, length-append, sym, ◌∙◌, ap, subst, arith, inl, inr}
use Rattle.std.specs.Prelude.{slice_get, replicate}
use Rattle.std.specs.List.{flat_map}
use Rattle.std.proofs.lemmas.List.{length-replicate}
use Rattle.std.proofs.lemmas.Option.{slice_get_within}
use Rattle.order_tracker.specs.Order.{upwards}
use Rattle.report_text.specs.declared.access.Access.{Access}
use Rattle.report_text.specs.declared.event.Event.{Event}
use Rattle.report_text.specs.declared.event.Event.TheVariants.{Core}
use Rattle.report_text.specs.Journals.{events_of, recorded}
use Rattle.chip_model.specs.Chip.{Chip, chip_of}
use Rattle.chip_model.specs.Units.{Behaviour}
use Rattle.chip_model.specs.ChipState.{ChipState}
use Rattle.chip_model.specs.Runs.{run, IsReachable}
use Rattle.fabric_core.specs.Fabric.{FabricState, event_count}
use Rattle.machine_core.specs.Counts.{IsCounted}
use Rattle.machine_core.specs.Stations.{StationState, chip_state, seen_by}
use Rattle.round_laws.specs.Turns.{cores_of, has_turn, left_over}
use Rattle.round_laws.proofs.Runs.{EachIsNoted, run_counted, run_reached}
use Rattle.round_laws.proofs.RoundRuns.{left_fits}
use Rattle.round_laws.proofs.TurnLists.{turns_run}
use Rattle.tile_pool.specs.Start.{RoundStart, IsStart, start_state}
use Rattle.tile_pool.specs.Seating.{AreSettledTo, IsAfterTurn, IsLeftOver, IsToSettle}

-- what `settle` asks of the journal and the accesses
pub record HasRoomFor (fabric : FabricState) (station : StationState) : Type 0 where
  pub events : event_count fabric + station.cores ≤ fabric.room
  pub accesses : length fabric.accesses + length station.accesses ≤ fabric.room

-- the chip of the fabric and units is one that a run of the document comes to
settling_reached : (b : Behaviour) (r : RoundStart) → EachIsNoted b r.fabric.chip → IsStart b r
    → (first : FabricState) (rows : List StationState) → (all : IsToSettle b r first rows)
    → (t : ℕ) (fabric : FabricState) (stations : List StationState) → (to : AreSettledTo b r all.turns all.last t fabric stations)
    → IsReachable b r.document (chip_state fabric to.units)
settling_reached b r noted start first rows all t fabric stations to =
    let chip = r.fabric.chip in
    let each : EachIsNoted b (chip_of r.document) = subst (EachIsNoted b) start.chip noted in
    let on_doc : (events : List Event) (s new : ChipState) → run b chip s events ≡ Some new → run b (chip_of r.document) s events ≡ Some new =
    (λ events s new is. subst (λ (c : Chip). run b c s events ≡ Some new) start.chip is) in
    let last_reached = run_reached b r.document (flat_map recorded all.turns) (start_state r) all.last each start.reached
    (on_doc (flat_map recorded all.turns) (start_state r) all.last (turns_run b chip r.turn (start_state r) (start_state r) all.turns all.last all.lead)) in
    run_reached b r.document (left_over b (start_state r) all.turns (upwards 0 t)) all.last (chip_state fabric to.units) each last_reached
    (on_doc (left_over b (start_state r) all.turns (upwards 0 t)) all.last (chip_state fabric to.units) to.lead)

-- there is room for the next station's core events and accesses
pub settle_room : (b : Behaviour) (r : RoundStart) → EachIsNoted b r.fabric.chip → IsStart b r
    → ((s : ChipState) → IsReachable b r.document s → IsCounted (length s.journal) s)
    → (first : FabricState) (rows : List StationState) → (all : IsToSettle b r first rows)
    → (t : ℕ) (fabric : FabricState) (stations : List StationState) (station : StationState)
    → AreSettledTo b r all.turns all.last t fabric stations → slice_get stations t ≡ Some station
    → event_count fabric ≤ fabric.room → HasRoomFor fabric station
settle_room b r noted start counted first rows all t fabric stations station to there within = by (to.to_do t station (omega arith) there)
  where
    chip : Chip
    chip = r.fabric.chip

    turns_are : run b chip (start_state r) (flat_map recorded all.turns) ≡ Some all.last
    turns_are = turns_run b chip r.turn (start_state r) (start_state r) all.turns all.last all.lead

    here : IsReachable b r.document (chip_state fabric to.units)
    here = settling_reached b r noted start first rows all t fabric stations to

    by : IsAfterTurn all.turns to.units station ⊎ IsLeftOver b r all.turns to.units station → HasRoomFor fabric station
    by (inl after) = record {
      events = omega (arith, after.settled.cores, within);
      accesses = omega (arith, ap (λ (a : List Access). length a) after.settled.accesses, (counted (chip_state fabric to.units) here).accesses, within);
    }
    by (inr left) =
        let inside : t < length r.units = omega (arith, slice_get_within stations t station there, to.count) in
        let place = to.places t station there in
        let none : has_turn all.turns t ≡ false = ap (has_turn all.turns) (sym place) ∙ left.has in
        let cores : station.cores ≡ cores_of b (start_state r) t = left.alone.cores ∙ ap (cores_of b (start_state r)) place in
        let total = left_fits b chip r.turn (start_state r) (start_state r) all.turns all.last all.lead all.once all.inside t inside none in
        let turned = run_counted b chip (flat_map recorded all.turns) (start_state r) all.last noted turns_are in
        let over = run_counted b chip (left_over b (start_state r) all.turns (upwards 0 t)) all.last (chip_state fabric to.units) noted to.lead in
        let events : event_count fabric + station.cores ≤ fabric.room = omega (arith, total, turned, over, cores, start.room, start.tiles, to.room) in
        let each : EachIsNoted b (chip_of r.document) = subst (EachIsNoted b) start.chip noted in
        let on_doc : (events : List Event) (s new : ChipState) → run b chip s events ≡ Some new → run b (chip_of r.document) s events ≡ Some new =
        (λ events s new is. subst (λ (c : Chip). run b c s events ≡ Some new) start.chip is) in
        let seen_reached = run_reached b r.document (replicate station.cores (Core station.tile)) (chip_state fabric to.units) (seen_by station fabric to.units) each
        here (on_doc (replicate station.cores (Core station.tile)) (chip_state fabric to.units) (seen_by station fabric to.units)
        (left.alone.lead chip fabric to.units (left.unit ∙ left.alone.there))) in
        let count = (counted (seen_by station fabric to.units) seen_reached).accesses in
        record {
          events = events;
          accesses = omega (
            arith,
            count,
            events,
            length-append fabric.accesses station.accesses,
            length-append (events_of fabric.entries) (replicate station.cores (Core station.tile)),
            length-replicate station.cores (Core station.tile),
          );
        }
