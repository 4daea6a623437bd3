-- The steps of a turn, from the exchange that gets it to the end.
use Rattle.std.specs.Prelude.{◌≡◌, ◌≢◌, ◌⊎◌, ℕ, List, [], ◌∷◌, ◌++◌, length, Bool, true, false}
use Rattle.std.specs.Fn.{Mut, CalledAtMut}
use denote.Ref.{MutBor}
use Rattle.turn_table.specs.declared.note.Note.{Note}
use Rattle.turn_table.specs.Notes.{note_after_miss, note_after_entry, note_after_turn}
use Rattle.turn_table.specs.Steps.{Holding, GetsTurn}
use Rattle.turn_table.specs.States.{first_note}
use Rattle.turn_table.specs.Tries.{IsCallableAt, MakesAtMostOne}

-- the first note of a seat's view
abbrev pub note_in : {V : Type 0} → Holding V → Note
note_in seat = first_note (seat.0 ∷ [])

module _ {V : Type 0} (entries : V → List ℕ) (names : ℕ → ℕ) where
  -- the exchange found the number seen, and got the turn, or it found another
  abbrev pub Exchanged : Note → ℕ → ℕ → Holding V → Type 0
  Exchanged note seen found after = (found ≡ seen → GetsTurn entries names note [] found after) × (found ≢ seen → after ≡ (note_after_miss note found ∷ [], []))

  -- the value has one entry more than the seat found, which the seat may make
  abbrev pub HasOneMore : Note → V → ℕ → Type 0
  HasOneMore note value entry = (entries value ≡ note.opening ++ (note.trail ++ entry ∷ [])) × (names entry ≡ note.number) × (note.own ≡ [])

  -- the seat has the turn, and its value may go home
  pub record MayEnd (seat : Holding V) (grown : Bool) : Type 0 where
    pub value : V
    pub is : seat ≡ (note_in seat ∷ [], (0, value) ∷ [])
    pub has_turn : (note_in seat).has_turn ≡ true
    pub same : grown ≡ false → entries value ≡ (note_in seat).opening ++ (note_in seat).trail
    pub more : grown ≡ true → (entry : ℕ) × HasOneMore (note_in seat) value entry

  -- the turn has ended, with the entry that the value had more or with none
  pub record Ended (seat : Holding V) (grown : Bool) (after : Holding V) : Type 0 where
    pub same : grown ≡ false → after ≡ (note_after_turn (note_in seat) ∷ [], [])
    pub more : grown ≡ true → (value : V) (entry : ℕ) → seat.1 ≡ (0, value) ∷ [] → entries value ≡ (note_in seat).opening ++ ((note_in seat).trail ++ entry ∷ [])
        → after ≡ (note_after_entry (note_in seat) entry ∷ [], [])

module _ {F V R : Type 0} (entries : V → List ℕ) (names : ℕ → ℕ) (closure : Mut F (MutBor V × Unit {0}) (R × (MutBor V × Unit {0}))) where
  -- the seat has the turn, and f may be called on the value
  pub record HasTurn (seat : Holding V) (f : F) : Type 0 where
    pub note : Note
    pub value : V
    pub is : seat ≡ (note ∷ [], (0, value) ∷ [])
    pub has_turn : note.has_turn ≡ true
    pub entries_are : entries value ≡ note.opening ++ note.trail
    pub callable : IsCallableAt entries names closure f value
    pub makes : (answer : R) (f' : F) (value' : V) → CalledAtMut closure f value answer f' value' → MakesAtMostOne names note (entries value) (entries value')

  -- f was called on the value that the seat holds, and `grown` tells whether the value has another number of entries
  pub record Worked (seat : Holding V) (f : F) (answer : R) (grown : Bool) (f' : F) (after : Holding V) : Type 0 where
    pub before : V
    pub left : V
    pub held : seat.1 ≡ (0, before) ∷ []
    pub holds : after ≡ (seat.0, (0, left) ∷ [])
    pub called : CalledAtMut closure f before answer f' left
    pub more : grown ≡ true → length (entries before) ≢ length (entries left)
    pub same : grown ≡ false → length (entries before) ≡ length (entries left)

  -- f was called on the value, which is home again
  pub record HadTurn (seat : Holding V) (f : F) (answer : R) (f' : F) (after : Holding V) : Type 0 where
    pub before : V
    pub left : V
    pub was : seat.1 ≡ (0, before) ∷ []
    pub called : CalledAtMut closure f before answer f' left
    pub note : Note
    pub is : after ≡ (note ∷ [], [])
    pub noted : ((entries left ≡ entries before) × (note ≡ note_after_turn (note_in seat)))
        ⊎ ((entry : ℕ) × (entries left ≡ entries before ++ entry ∷ []) × (note ≡ note_after_entry (note_in seat) entry))
