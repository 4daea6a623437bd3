-- What is known once all seats are back.
use Rattle.std.specs.Prelude.{◌≡◌, ◌≢◌, ℕ, ◌==◌, List, map, filter, flat_map, true, All, Any, AllPairs, IsPermutation}
use Rattle.std.specs.List.{enumerate_from}
use Rattle.turn_table.specs.declared.note.Note.{Note}
use Rattle.turn_table.specs.Notes.{IsPrefix}
use Rattle.turn_table.specs.States.{SeatState}

-- what each seat knows
abbrev pub notes_of : List SeatState → List Note
notes_of seats = map (λ seat. seat.note) seats

-- the notes of all seats account for the entries made since the table was
pub record AccountFor (names : ℕ → ℕ) (notes : List Note) (made : List ℕ) : Type 0 where
  -- the own lists together are the entries with their positions, each once, and no others
  pub pairs : IsPermutation (flat_map (λ note. note.own) notes) (enumerate_from 0 made)
  -- the entries that name a seat are those of its own list
  pub own : All (λ note. filter (λ entry. names entry == note.number) made ≡ map (λ pair. pair.1) note.own) notes
  -- no seat is named twice
  pub named_once : AllPairs (λ entry later. names entry ≢ names later) made
  -- each trail is a prefix of the entries
  pub trails : All (λ note. IsPrefix note.trail made) notes
  -- where some seat was refused, some seat was served
  pub served : Any (λ note. note.refused ≡ true) notes → Any (λ note. note.served ≡ true) notes
