-- A tile's turn on the fabric of a round.
use Rattle.std.proofs.Common.{◌≡◌, ℕ, ◌+◌, ◌<◌, ◌≤◌, false, List, [], ◌∷◌, ◌++◌, Some, length, map, refl, sym, ◌∙◌, ap, subst, arith}
use Rattle.std.specs.Prelude.{find, slice_get, set, replicate}
use Rattle.std.specs.List.{flat_map}
use Rattle.std.proofs.lemmas.List.{length-set, append_assoc, map-append}
use Rattle.std.proofs.lemmas.Option.{slice_get_within}
use Rattle.report_text.specs.declared.entry.Entry.{Entry}
use Rattle.report_text.specs.declared.event.Event.{Event}
use Rattle.report_text.specs.declared.event.Event.TheVariants.{Core}
use Rattle.report_text.specs.Entry.{IsValid, packed}
use Rattle.report_text.specs.Events.{IsWithinLimits}
use Rattle.report_text.specs.Journals.{recorded}
use Rattle.chip_model.specs.Chip.{Chip, chip_of}
use Rattle.chip_model.specs.Units.{UnitState, Behaviour}
use Rattle.chip_model.specs.Runs.{after, enabled, run, IsReachable}
use Rattle.fabric_core.specs.Fabric.{FabricState, event_count}
use Rattle.machine_core.specs.Stations.{StationState, IsDone, chip_state, seen_by}
use Rattle.machine_core.specs.Meetings.{AreOfRun}
use Rattle.round_laws.specs.Turns.{alone_events, has_turn, tried}
use Rattle.round_laws.proofs.Runs.{EachIsNoted, run_counted, run_reached}
use Rattle.round_laws.proofs.RoundCounts.{cores_few, turns_few}
use Rattle.round_laws.proofs.TurnLists.{turns_more, turns_run}
use Rattle.round_laws.proofs.TurnFrames.{EventsAreKnown, SlotsAreOfTiles, turns_frame}
use Rattle.tile_pool.specs.Start.{RoundStart, IsStart, start_state}
use Rattle.tile_pool.specs.Stands.{HasMade, IsOfTile, DidEvent}
use Rattle.tile_pool.specs.Workers.{HasRunAlone}
use Rattle.tile_pool.proofs.Words.{all_append}
use Rattle.tile_pool.proofs.CoreRuns.{settled_sees}

-- what the laws below say of the events of the chip
pub record ChipIsKnown (b : Behaviour) (chip : Chip) : Type 0 where
  pub noted : EachIsNoted b chip
  pub events : EventsAreKnown b chip
  pub slots : SlotsAreOfTiles

module _ (b : Behaviour) (r : RoundStart) (known : ChipIsKnown b r.fabric.chip) where
  -- the tile's unit is still that of the start
  pub unit_kept : (made : List Entry) (fabric : FabricState) (units : List UnitState) (t : ℕ) → HasMade b r made fabric units → has_turn made t ≡ false
      → slice_get units t ≡ slice_get r.units t
  unit_kept made fabric units t is none =
      turns_frame b r.fabric.chip known.events known.slots r.turn (start_state r) (start_state r) made (chip_state fabric units) t is.lead none

  -- what the chip is after the tile's core events
  pub sees : (made : List Entry) (fabric : FabricState) (units : List UnitState) (station : StationState) → HasMade b r made fabric units
      → has_turn made station.tile ≡ false → HasRunAlone b r station
      → run b r.fabric.chip (chip_state fabric units) (replicate station.cores (Core station.tile)) ≡ Some (seen_by station fabric units)
  sees made fabric units station is none alone =
      alone.lead r.fabric.chip fabric units (unit_kept made fabric units station.tile is none ∙ alone.there)

  pub alone_is : (station : StationState) → HasRunAlone b r station → replicate station.cores (Core station.tile) ≡ alone_events b (start_state r) station.tile
  alone_is station alone = ap (λ (n : ℕ). replicate n (Core station.tile)) alone.cores

  -- the station's tile is one of the chip's
  pub inside : (made : List Entry) (fabric : FabricState) (units : List UnitState) (station : StationState) → HasMade b r made fabric units → HasRunAlone b r station
      → station.tile < length units
  inside made fabric units station is alone = omega (arith, is.tiles, slice_get_within r.units station.tile alone.unit alone.there)

  -- the station and the fabric are parts of a state that a run comes to
  pub of_run : IsStart b r → (made : List Entry) (fabric : FabricState) (units : List UnitState) (station : StationState) → HasMade b r made fabric units
      → has_turn made station.tile ≡ false → HasRunAlone b r station → AreOfRun b station fabric
  of_run start made fabric units station is none alone =
      let noted : EachIsNoted b (chip_of r.document) = subst (EachIsNoted b) start.chip known.noted in
      let turned : run b (chip_of r.document) (start_state r) (flat_map recorded made) ≡ Some (chip_state fabric units) =
      subst (λ (c : Chip). run b c (start_state r) (flat_map recorded made) ≡ Some (chip_state fabric units)) start.chip
      (turns_run b r.fabric.chip r.turn (start_state r) (start_state r) made (chip_state fabric units) is.lead) in
      let here : IsReachable b r.document (chip_state fabric units) =
      run_reached b r.document (flat_map recorded made) (start_state r) (chip_state fabric units) noted start.reached turned in
      let seen = subst (λ (c : Chip). run b c (chip_state fabric units) (replicate station.cores (Core station.tile)) ≡ Some (seen_by station fabric units))
      start.chip (sees made fabric units station is none alone) in
      record {
        document = r.document;
        within = start.within;
        chip = is.chip ∙ start.chip;
        few = omega (arith, is.room, start.few);
        units = units;
        there = inside made fabric units station is alone;
        reached = run_reached b r.document (replicate station.cores (Core station.tile)) (chip_state fabric units) (seen_by station fabric units) noted here seen;
      }

  -- there is room for the tile's core events and one event more
  pub room_for : IsStart b r → (made : List Entry) (fabric : FabricState) (units : List UnitState) (station : StationState) → HasMade b r made fabric units
      → length made < length r.units → HasRunAlone b r station → event_count fabric + station.cores + 1 ≤ fabric.room
  room_for start made fabric units station is fewer alone =
      omega (
        arith,
        run_counted b r.fabric.chip (flat_map recorded made) (start_state r) (chip_state fabric units) known.noted
            (turns_run b r.fabric.chip r.turn (start_state r) (start_state r) made (chip_state fabric units) is.lead),
        turns_few b r.fabric.chip r.turn (start_state r) (start_state r) made (chip_state fabric units) is.lead,
        alone.cores,
        cores_few b (start_state r) station.tile,
        start.room,
        start.tiles,
        is.room,
        fewer,
      )

  -- the entry of the turn
  pub entry_of_turn : StationState → Event → Entry
  entry_of_turn station event = record { by = station.tile; cores = station.cores; event = event }

  pub did_event : (made : List Entry) (fabric new_fabric : FabricState) (units : List UnitState) (station new : StationState) (event : Event)
      → HasMade b r made fabric units → has_turn made station.tile ≡ false → HasRunAlone b r station → length r.units ≤ 64 → IsWithinLimits event
      → find (enabled b r.fabric.chip (seen_by station fabric units)) (tried r.fabric.chip r.turn station.tile) ≡ Some event
      → IsDone b event station fabric new new_fabric
      → DidEvent b r station fabric new new_fabric
  unfolding entry_of_turn
  did_event made fabric new_fabric units station new event is none alone few within first done =
      let there = inside made fabric units station is alone in
      let entry = entry_of_turn station event in
      let valid : IsValid entry = record { tile = omega (arith, there, is.tiles, few); cores = omega (arith, alone.cores, cores_few b (start_state r) station.tile); event = within } in
      let left = chip_state new_fabric (set units station.tile new.unit) in
      let takes : after b r.fabric.chip (seen_by station fabric units) event ≡ Some (seen_by new new_fabric units) =
      subst (λ (c : Chip). after b c (seen_by station fabric units) event ≡ Some (seen_by new new_fabric units)) is.chip (done.takes units there) in
      let becomes : seen_by new new_fabric units ≡ left =
      settled_sees new new_fabric units done.stays.settled ∙ ap (λ (t : ℕ). chip_state new_fabric (set units t new.unit)) done.stays.tile in
      record {
        earlier = made;
        entry = entry;
        units = units;
        was = is;
        is = record {
          entries =
              done.entry
              ∙ ap (λ (words : List ℕ). words ++ packed entry ∷ []) is.entries
              ∙ append_assoc r.fabric.entries (map packed made) (packed entry ∷ [])
              ∙ ap (λ (words : List ℕ). r.fabric.entries ++ words) (sym (map-append packed made (entry ∷ [])));
          valid = all_append (IsOfTile r) made (entry ∷ []) is.valid ((omega (arith, there, is.tiles), valid), tt);
          chip = done.stays.chip ∙ is.chip;
          room = done.stays.room ∙ is.room;
          tiles = length-set units station.tile new.unit ∙ is.tiles;
          lead = turns_more b r.fabric.chip r.turn (start_state r) (start_state r) made (chip_state fabric units) entry left is.lead
              (record {
                cores = alone.cores;
                ready = seen_by station fabric units;
                alone = ap (run b r.fabric.chip (chip_state fabric units)) (sym (alone_is station alone)) ∙ sees made fabric units station is none alone;
                first = first;
                done = takes ∙ ap Some becomes;
              });
        };
        by = refl;
        tile = done.stays.tile;
        settled = done.stays.settled;
      }
