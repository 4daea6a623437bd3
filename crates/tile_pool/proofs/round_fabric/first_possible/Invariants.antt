use Rattle.std.proofs.Common.{◌<◌, ◌%◌, List, length, not}
use Rattle.chip_model.specs.Units.{UnitState}
use Rattle.chip_model.specs.Runs.{enabled}
use Rattle.chip_model.specs.Schedules.{from_offset, slots_per_tile, tile_slots}
use Rattle.machine_core.specs.Stations.{seen_by}
use Rattle.round_laws.specs.Turns.{is_core}
use Rattle.tile_pool.proofs.Tried.{NonePasses}
use Rattle.tile_pool.proofs.round_fabric.first_possible.Given as goal

-- none of the events that were tried is possible
abbrev pub invariant-loop-k : goal.invariant-loop-k
invariant-loop-k g l = (units : List UnitState) → l.station.tile < length units
    → NonePasses (λ event. not (is_core event)) (enabled g.U.Unit.behaviour l.fabric.chip (seen_by l.station l.fabric units))
    (from_offset (tile_slots l.fabric.chip l.station.tile) (l.turn % slots_per_tile l.fabric.chip)) l.k
