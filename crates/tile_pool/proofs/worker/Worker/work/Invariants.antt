use Rattle.std.proofs.Common.{◌≡◌, ◌<◌, false}
use Rattle.tile_pool.specs.Workers.{IsWaiting, WasRefused}
use Rattle.tile_pool.proofs.worker.Worker.work.Given as goal

-- no try had the turn, and each was refused
abbrev pub invariant-loop : goal.invariant-loop
invariant-loop g l = record {
  tile : l.self.station.tile ≡ l.fn.self.station.tile;
  had : l.self.had ≡ false;
  waits : IsWaiting g.U.Unit.behaviour g.M.Start.start l.turns.table l.self.station l.self.seat;
  refused : 0 < l.counter → WasRefused g.U.Unit.behaviour g.M.Start.start l.self.station l.self.seat.note;
}
