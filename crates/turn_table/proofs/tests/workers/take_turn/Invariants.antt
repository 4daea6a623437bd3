use Rattle.std.proofs.Common.{◌≡◌, ◌-◌, []}
use Rattle.turn_table.proofs.tests.workers.take_turn.Given as goal

abbrev pub invariant-loop : goal.invariant-loop
invariant-loop g l = record {
  table : l.worker.seat.table ≡ l.turns.table;
  number : l.worker.number - 5 ≡ l.worker.seat.note.number;
  own : l.worker.seat.note.own ≡ [];
}
