use Rattle.std.proofs.Common.{◌≡◌, ℕ, ◌+◌, ◌<◌, ◌≤◌, Some, All, length, vec_len, vec_capacity}
use Rattle.std.specs.Prelude.{slice_get}
use Rattle.turn_table.specs.States.{new_seat}
use Rattle.chip_model.specs.Units.{UnitState}
use Rattle.tile_pool.specs.Seating.{TilesFall}
use Rattle.tile_pool.specs.Workers.{IsStarting, station_at}
use Rattle.tile_pool.proofs.seating.seat_all.Given as goal

-- the tiles from some on have workers; the stations and the seats of those below are still in their places
abbrev pub invariant-loop-station : goal.invariant-loop-station
invariant-loop-station g l = let r = g.M.Start.start in record {
  count : length l.workers.items + length l.stations.items ≡ length r.units;
  seats_count : length l.seats.items ≡ length l.stations.items;
  stations : (t : ℕ) (unit : UnitState) → t < length l.stations.items → slice_get r.units t ≡ Some unit → slice_get l.stations.items t ≡ Some (station_at t unit);
  seats : (t : ℕ) → t < length l.seats.items → slice_get l.seats.items t ≡ Some (new_seat l.fn.turns t);
  starting : All (λ worker. IsStarting r l.fn.turns.table worker.station worker.seat worker.had) l.workers.items;
  tiles : TilesFall (λ worker. worker.station.tile) (length r.units) l.workers.items;
  room : length r.units ≤ vec_capacity l.workers;
  stations_room : vec_capacity l.stations ≡ vec_capacity l.fn.stations;
  seats_room : vec_capacity l.seats ≡ vec_capacity l.fn.seats;
}

-- the stations that are left
abbrev pub decreases-loop-station : goal.decreases-loop-station
decreases-loop-station g l = vec_len l.stations
