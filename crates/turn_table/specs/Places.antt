-- A seat as the table below has it.
use Rattle.std.specs.Prelude.{◌≡◌, List, [], ◌∷◌, false}
use Rattle.atomic_table.specs.declared.shared.Seat.{Seat}
use Rattle.turn_table.specs.declared.note.Note.{Note}
use Rattle.turn_table.specs.States.{SeatState, seat_state, first_note}

module _ {V : Type 0} where
  -- the first note of its view
  abbrev pub note_at : Seat V (List Note) → Note
  note_at place = first_note (place.me.0 ∷ [])

  -- the seat of ours that it stands for
  abbrev pub state_of_place : Seat V (List Note) → SeatState
  state_of_place place = seat_state place.table_id (place.me.0 ∷ [])

  -- it has one note and no slot, and its seat has no turn
  pub record IsPlace (place : Seat V (List Note)) : Type 0 where
    pub one_note : place.me ≡ (note_at place ∷ [], [])
    pub no_turn : (note_at place).has_turn ≡ false
