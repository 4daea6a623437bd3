-- The start of a round: what holds of the parts of a machine.
use Rattle.std.proofs.Common.{◌≡◌, ℕ, ◌+◌, ◌*◌, ◌≤◌, List, [], Some, length, refl, sym, ◌∙◌, ap, arith}
use Rattle.std.proofs.lemmas.List.{length-map}
use Rattle.std.specs.Prelude.{option_map}
use Rattle.std.proofs.lemmas.Option.{same_Some, slice_get-map, slice_get_within}
use Rattle.report_text.specs.declared.access.Access.{Access}
use Rattle.doc_text.specs.Doc.{Doc}
use Rattle.chip_model.specs.Chip.{chip_of, tile_count}
use Rattle.chip_model.specs.Units.{UnitState, Behaviour}
use Rattle.chip_model.specs.ChipState.{ChipState}
use Rattle.chip_model.specs.Runs.{IsReachable}
use Rattle.fabric_core.specs.Fabric.{FabricState, event_count}
use Rattle.machine_core.specs.Counts.{IsCounted}
use Rattle.machine_core.specs.Machine.{AreInPlace, AreParts}
use Rattle.machine_core.specs.Stations.{StationState, chip_state, units_of}
use Rattle.tile_pool.specs.Start.{IsStart, start_of}
use Rattle.tile_pool.specs.Seating.{AreStationsOf}
use Rattle.tile_pool.specs.Workers.{station_at}
use Rattle.tile_pool.proofs.Settling.{there_at}

pub parts_start : (b : Behaviour) (d : Doc) (fabric : FabricState) (stations : List StationState) (turn : ℕ) → AreParts b d fabric stations
    → ((s : ChipState) → IsReachable b d s → IsCounted (length s.journal) s) → length (units_of stations) ≡ tile_count (chip_of d)
    → event_count fabric + 17 * tile_count (chip_of d) ≤ fabric.room
    → IsStart b (start_of d fabric stations turn)
parts_start b d fabric stations turn parts counted tiles room = record {
  within = parts.within;
  chip = parts.chip;
  few = parts.few;
  tiles = tiles ∙ ap tile_count (sym parts.chip);
  reached = parts.reached;
  room = omega (arith, room, ap tile_count parts.chip);
  counted = λ t unit at. ((counted (chip_state fabric (units_of stations)) parts.reached).units t unit at).steps;
}

-- each station is that of its tile's unit
pub stations_of_start : (d : Doc) (fabric : FabricState) (stations : List StationState) (turn : ℕ) → AreInPlace stations
    → AreStationsOf (start_of d fabric stations turn) stations
stations_of_start d fabric stations turn places = record {
  count = sym (length-map stations (λ (s : StationState). s.unit));
  each = λ t unit at.
      let there = there_at stations t (omega (arith, slice_get_within (units_of stations) t unit at, length-map stations (λ (s : StationState). s.unit))) in
      let place = places t there.0 there.1 in
      let same : there.0.unit ≡ unit = same_Some there.0.unit unit
      (sym (slice_get-map (λ (s : StationState). s.unit) stations t ∙ ap (option_map (λ (s : StationState). s.unit)) there.1) ∙ at) in
      there.1 ∙ ap Some (as_new there.0 t unit place.0 same place.1.cores place.1.accesses);
}
  where
    from_fields : (tile t : ℕ) (unit other : UnitState) (cores : ℕ) (accesses : List Access) → tile ≡ t → unit ≡ other → cores ≡ 0 → accesses ≡ []
        → ◌≡◌ {A = StationState} (record { tile = tile; unit = unit; cores = cores; accesses = accesses }) (station_at t other)
    from_fields tile t unit other cores accesses a b c e = rw (a, b, c, e) refl

    as_new : (station : StationState) (t : ℕ) (unit : UnitState) → station.tile ≡ t → station.unit ≡ unit → station.cores ≡ 0 → station.accesses ≡ []
        → station ≡ station_at t unit
    as_new station t unit tile same cores accesses = from_fields station.tile t station.unit unit station.cores station.accesses tile same cores accesses
