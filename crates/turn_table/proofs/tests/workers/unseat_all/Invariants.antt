use Rattle.std.proofs.Common.{◌≡◌, ◌+◌, length, vec_len, All}
use Rattle.turn_table.proofs.tests.workers.unseat_all.Given as goal

abbrev pub invariant-loop-worker : goal.invariant-loop-worker
invariant-loop-worker l = record {
  count : length l.seats.items + length l.workers.items ≡ length l.fn.workers.items;
  left : All (λ worker. worker.seat.table ≡ l.fn.turns.table) l.workers.items;
  table : All (λ seat. seat.table ≡ l.fn.turns.table) l.seats.items;
}

abbrev pub decreases-loop-worker : goal.decreases-loop-worker
decreases-loop-worker l = vec_len l.workers
