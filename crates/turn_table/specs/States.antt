-- A table and a seat as contracts see them.
use Rattle.std.specs.Prelude.{◌≡◌, ℕ, ◌<◌, ◌≤◌, List, [], ◌∷◌, false, length, Some, slice_get}
use Rattle.atomic_table.specs.Seated.{TableId}
use Rattle.turn_table.specs.declared.note.Note.{Note}
use Rattle.turn_table.specs.Notes.{new_note}

-- which table it is, the entries that its value had when it was made, and how many seats it has
pub record TurnsState : Type 0 where
  pub table : TableId
  pub opening : List ℕ
  pub seats : ℕ

-- the table that a seat is of, and what the seat knows
pub record SeatState : Type 0 where
  pub table : TableId
  pub note : Note

-- there is one word and one slot, and from 1 to 64 seats
pub record IsTurnTable (table : TableId) (seats : ℕ) : Type 0 where
  pub one_word : table.words ≡ 1
  pub one_slot : table.slots ≡ 1
  pub some_seat : 1 ≤ seats
  pub few_seats : seats ≤ 64

-- the first note of the first view, where there is one
abbrev pub first_note : List (List Note) → Note
first_note ((note ∷ notes) ∷ views) = note
first_note _ = new_note [] 0 0

-- a seat whose badge has these views
abbrev pub seat_state : TableId → List (List Note) → SeatState
seat_state table views = record { table = table; note = first_note views }

-- there is one view with one note, whose seat has no turn
pub record IsAtRest (views : List (List Note)) : Type 0 where
  pub one_note : views ≡ (first_note views ∷ []) ∷ []
  pub no_turn : (first_note views).has_turn ≡ false

-- the seat of a number, when the table is made
abbrev pub new_seat : TurnsState → ℕ → SeatState
new_seat turns number = record { table = turns.table; note = new_note turns.opening turns.seats number }

-- the table has these opening entries, and its seats are numbered in the list's order
pub record IsNew (opening : List ℕ) (seats : ℕ) (turns : TurnsState) (row : List SeatState) : Type 0 where
  pub opening_is : turns.opening ≡ opening
  pub seats_is : turns.seats ≡ seats
  pub count : length row ≡ seats
  pub each : (number : ℕ) → number < seats → slice_get row number ≡ Some (new_seat turns number)
