use Rattle.std.proofs.Common.{◌≡◌, [], ◌++◌, vec_len, false, All}
use Rattle.turn_table.specs.Meeting.{notes_of}
use Rattle.turn_table.proofs.turns.Turns.gather.Given as goal

abbrev pub invariant-loop-seat : goal.invariant-loop-seat
invariant-loop-seat g l = record {
  table : l.place.table_id ≡ l.fn.self.table;
  no_slot : l.place.me.1 ≡ [];
  seats : All (λ seat. seat.table ≡ l.fn.self.table) l.seats.items;
  no_turn : All (λ note. note.has_turn ≡ false) l.place.me.0;
  notes : notes_of l.seats.items ++ l.place.me.0 ≡ notes_of l.fn.seats.items;
}

abbrev pub decreases-loop-seat : goal.decreases-loop-seat
decreases-loop-seat g l = vec_len l.seats
