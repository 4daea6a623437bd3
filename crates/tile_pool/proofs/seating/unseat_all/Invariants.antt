use Rattle.std.proofs.Common.{◌≡◌, ◌+◌, ◌≤◌, All, length, vec_capacity}
use Rattle.tile_pool.specs.Seating.{AreThrough, TilesFall}
use Rattle.tile_pool.specs.Workers.{IsThrough}
use Rattle.tile_pool.proofs.seating.unseat_all.Given as goal

-- the stations and the seats of the first tiles are back, and the workers of the others are still there
abbrev pub invariant-loop-worker : goal.invariant-loop-worker
invariant-loop-worker g l = record {
  count : length l.stations.items + length l.workers.items ≡ length l.fn.workers.items;
  left : All (λ worker. IsThrough g.U.Unit.behaviour g.M.Start.start l.fn.turns.table worker.station worker.seat worker.had) l.workers.items;
  tiles : TilesFall (λ worker. worker.station.tile) (length l.fn.workers.items) l.workers.items;
  back : AreThrough g.U.Unit.behaviour g.M.Start.start l.fn.turns.table (length l.stations.items) l.had l.stations.items l.seats.items;
  stations_room : length l.fn.workers.items ≤ vec_capacity l.stations;
  seats_room : length l.fn.workers.items ≤ vec_capacity l.seats;
}

abbrev pub decreases-loop-worker : goal.decreases-loop-worker
decreases-loop-worker g l = goal.left-loop-worker g l
