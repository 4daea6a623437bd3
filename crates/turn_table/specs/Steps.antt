-- What each kind of step tells its seat: the seat before, the number found, and the seat after. A seat here is its view and the slots that it holds.
use Rattle.std.specs.Prelude.{◌≡◌, ◌≢◌, ℕ, ◌<◌, List, [], ◌∷◌, ◌++◌, length}
use Rattle.atomic_table.specs.Table.{Me, Step}
use Rattle.turn_table.specs.declared.note.Note.{Note}
use Rattle.turn_table.specs.Notes.{IsPrefix, note_after_load, note_after_miss, note_with_turn, note_after_entry, note_after_turn}
use Rattle.turn_table.specs.Rule.{entries_naming}

-- a view and the slots held
abbrev pub Holding : Type 0 → Type 0
Holding V = Me V (List Note)

-- the entries made since the table was, as a seat of this note may find them when it gets the turn
pub record FitsNote (names : ℕ → ℕ) (note : Note) (made : List ℕ) : Type 0 where
  -- they begin with its trail
  pub begins : IsPrefix note.trail made
  -- where it made no entry yet, none names it
  pub unnamed : note.own ≡ [] → entries_naming names note.number made ≡ 0
  -- and they are fewer than the seats
  pub fewer : note.own ≡ [] → length made < note.seats

module _ {V : Type 0} where
  -- a load of the word, by a seat of one note
  abbrev pub Loads : Step V → Holding V → ℕ → Holding V → Type 0
  Loads step before seen after = (note : Note) → before.0 ≡ note ∷ [] → after ≡ (note_after_load note seen ∷ [], before.1)

  module _ (entries : V → List ℕ) (names : ℕ → ℕ) where
    -- the seat has the turn and the value, which fits it
    abbrev pub GetsTurn : Note → List (ℕ × V) → ℕ → Holding V → Type 0
    GetsTurn note slots found after = (value : V) × (made : List ℕ) × (entries value ≡ note.opening ++ made) × FitsNote names note made × (after ≡ (note_with_turn note made found ∷ [], (0, value) ∷ slots))

    -- the exchange of the number seen, `step.first`, for the next one
    abbrev pub Acquires : Step V → Holding V → ℕ → Holding V → Type 0
    Acquires step before found after = (note : Note) → before.0 ≡ note ∷ []
        → (found ≡ step.first → GetsTurn note before.1 found after)
        × (found ≢ step.first → after ≡ (note_after_miss note found ∷ [], before.1))

  -- the end of a turn that made an entry, which is the last of the value that the seat holds
  abbrev pub ReleasesWithEntry : (V → List ℕ) → Step V → Holding V → ℕ → Holding V → Type 0
  ReleasesWithEntry entries step before found after = (note : Note) (value : V) (entry : ℕ) → before.0 ≡ note ∷ [] → before.1 ≡ (0, value) ∷ []
      → entries value ≡ note.opening ++ (note.trail ++ entry ∷ []) → after ≡ (note_after_entry note entry ∷ [], [])

  -- the end of a turn that made none
  abbrev pub Releases : Step V → Holding V → ℕ → Holding V → Type 0
  Releases step before found after = (note : Note) (value : V) → before.0 ≡ note ∷ [] → before.1 ≡ (0, value) ∷ [] → after ≡ (note_after_turn note ∷ [], [])

-- a view without its first note
abbrev pub first_note_taken : List Note → List Note
first_note_taken [] = []
first_note_taken (note ∷ notes) = notes

-- that note
abbrev pub first_note_alone : List Note → List Note
first_note_alone [] = []
first_note_alone (note ∷ notes) = note ∷ []
