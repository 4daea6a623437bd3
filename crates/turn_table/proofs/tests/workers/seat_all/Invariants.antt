use Rattle.std.proofs.Common.{◌≡◌, ℕ, ◌+◌, ◌-◌, ◌<◌, [], length, vec_len, All, Some}
use Rattle.std.specs.List.{slice_get}
use Rattle.turn_table.specs.States.{new_seat}
use Rattle.turn_table.proofs.tests.workers.seat_all.Given as goal

abbrev pub invariant-loop-seat : goal.invariant-loop-seat
invariant-loop-seat l = record {
  count : length l.workers.items + length l.seats.items ≡ 4;
  each : (number : ℕ) → number < length l.seats.items → slice_get l.seats.items number ≡ Some (new_seat l.fn.turns number);
  first : All (λ worker. (worker.seat.table ≡ l.fn.turns.table) × (worker.number - 5 ≡ worker.seat.note.number) × (worker.seat.note.own ≡ [])) l.workers.items;
}

abbrev pub decreases-loop-seat : goal.decreases-loop-seat
decreases-loop-seat l = vec_len l.seats
