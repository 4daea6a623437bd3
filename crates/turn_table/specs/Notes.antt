-- What a seat notes, and how each step of its own changes that.
use Rattle.std.specs.Prelude.{◌≡◌, ℕ, zero, suc, ◌+◌, ◌%◌, ◌==◌, ◌||◌, List, [], ◌∷◌, ◌++◌, length, true, false, Some, None}
use Rattle.turn_table.specs.declared.note.Note.{Note}

-- the list ys begins with xs
abbrev pub IsPrefix : List ℕ → List ℕ → Type 0
IsPrefix xs ys = (rest : List ℕ) × (xs ++ rest ≡ ys)

-- what the seat of a number knows when the table is made
abbrev pub new_note : List ℕ → ℕ → ℕ → Note
new_note opening seats number = record { number = number; seats = seats; opening = opening; own = []; trail = []; has_turn = false; served = false; refused = false; loads = 0; seen = 0; found = None }

-- the notes of as many seats as are left, numbered from a first one on
abbrev pub new_notes : List ℕ → ℕ → ℕ → ℕ → List Note
new_notes opening seats first zero = []
new_notes opening seats first (suc left) = new_note opening seats first ∷ new_notes opening seats (suc first) left

-- after a load: at an odd number some seat has the turn, so this one is refused
abbrev pub note_after_load : Note → ℕ → Note
note_after_load note seen = record note { loads = note.loads + 1; seen = seen; found = None; refused = (seen % 2 == 1) || note.refused }

-- after an exchange that found another number than the one seen
abbrev pub note_after_miss : Note → ℕ → Note
note_after_miss note found = record note { found = Some found; refused = true }

-- after the exchange that got the turn, and with it a value to which these entries were added since the table was made
abbrev pub note_with_turn : Note → List ℕ → ℕ → Note
note_with_turn note made found = record note { found = Some found; served = true; has_turn = true; trail = made }

-- after a turn that made an entry: it stands in the own list with its position, and at the end of the trail
abbrev pub note_after_entry : Note → ℕ → Note
note_after_entry note entry = record note { own = note.own ++ (length note.trail, entry) ∷ []; trail = note.trail ++ entry ∷ []; has_turn = false }

-- after a turn that made none
abbrev pub note_after_turn : Note → Note
note_after_turn note = record note { has_turn = false }
