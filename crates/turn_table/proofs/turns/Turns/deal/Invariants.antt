use Rattle.std.proofs.Common.{◌≡◌, ℕ, ◌≤◌, ◌<◌, ◌-◌, [], length, vec_capacity, Some}
use Rattle.std.specs.List.{slice_get}
use Rattle.turn_table.specs.Notes.{new_notes}
use Rattle.turn_table.specs.States.{new_seat}
use Rattle.turn_table.proofs.turns.Turns.deal.Given as goal

abbrev pub invariant-loop : goal.invariant-loop
invariant-loop g l = let turns = l.fn.self in record {
  table : l.place.table_id ≡ turns.table;
  place : l.place.me ≡ (new_notes turns.opening turns.seats l.counter (turns.seats - l.counter), []);
  count : length l.row.items ≡ l.counter;
  room : turns.seats ≤ vec_capacity l.row;
  each : (number : ℕ) → number < l.counter → slice_get l.row.items number ≡ Some (new_seat turns number);
}
