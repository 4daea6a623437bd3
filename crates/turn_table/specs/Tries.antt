-- What a try for the turn asks, and what it tells.
use Rattle.std.specs.Prelude.{◌≡◌, ◌≢◌, ◌⊎◌, ℕ, ◌+◌, ◌%◌, List, [], ◌∷◌, ◌++◌, length, true, Option, Some, None}
use Rattle.std.specs.Fn.{Mut, CalledAtMut}
use denote.Ref.{MutBor}
use Rattle.turn_table.specs.declared.busy.Busy.{Busy}
use Rattle.turn_table.specs.declared.note.Note.{Note}
use Rattle.turn_table.specs.Steps.{FitsNote}

-- a turn leaves the entries as they are, or adds one that names the seat, where the seat made none yet
abbrev pub MakesAtMostOne : (ℕ → ℕ) → Note → List ℕ → List ℕ → Type 0
MakesAtMostOne names note before after = (after ≡ before) ⊎ ((entry : ℕ) × (after ≡ before ++ entry ∷ []) × (names entry ≡ note.number) × (note.own ≡ []))

-- the note after a turn that found the entries made since the table was, and left those made_after and this own list
abbrev pub note_served : Note → ℕ → List ℕ → List (ℕ × ℕ) → Note
note_served note seen made_after own = record note { own = own; trail = made_after; served = true; loads = note.loads + 1; seen = seen; found = Some seen }

-- the note is that of a seat served, with the entry that its turn made, if any, at its position
abbrev pub NotesTurn : Note → ℕ → List ℕ → List ℕ → List ℕ → Note → Type 0
NotesTurn note seen made before after new =
    ((after ≡ before) × (new ≡ note_served note seen made note.own))
    ⊎ ((entry : ℕ) × (after ≡ before ++ entry ∷ []) × (new ≡ note_served note seen (made ++ entry ∷ []) (note.own ++ (length made, entry) ∷ [])))

module _ {F V R : Type 0} (entries : V → List ℕ) (names : ℕ → ℕ) (closure : Mut F (MutBor V × Unit {0}) (R × (MutBor V × Unit {0}))) where
  -- f may be called with a loan of the value
  abbrev pub IsCallableAt : F → V → Type 0
  IsCallableAt f value = (lent : MutBor V) → lent.now ≡ value → closure.pre f (lent, tt)

  -- f may be called on each value that fits the seat, where it keeps the entries and makes at most one
  abbrev pub MayTakeTurn : F → Note → Type 0
  MayTakeTurn f note = (value : V) (made : List ℕ) → entries value ≡ note.opening ++ made → FitsNote names note made
      → IsCallableAt f value × ((answer : R) (f' : F) (value' : V) → CalledAtMut closure f value answer f' value' → MakesAtMostOne names note (entries value) (entries value'))

  -- f was called once, on a value that fits the seat, and the seat notes its turn
  pub record TookTurn (f : F) (note : Note) (answer : R) (f' : F) (new : Note) : Type 0 where
    -- the value that the call found, and as it left it
    pub before : V
    pub after : V
    -- the entries made since the table was, as the call found them
    pub made : List ℕ
    -- the number that the load gave and the exchange found
    pub seen : ℕ
    pub entries_are : entries before ≡ note.opening ++ made
    pub fits : FitsNote names note made
    -- the one call, by which f became f'
    pub called : CalledAtMut closure f before answer f' after
    -- no seat had the turn
    pub free : seen % 2 ≡ 0
    pub noted : NotesTurn note seen made (entries before) (entries after) new

-- the note after a try that was refused
abbrev pub note_refused : Note → ℕ → Option ℕ → Note
note_refused note seen found = record note { refused = true; loads = note.loads + 1; seen = seen; found = found }

-- the load gave an odd number, or the exchange found another number than the load
abbrev pub WasBusy : Note → Busy → Note → Type 0
WasBusy note busy new =
    ((busy.seen % 2 ≡ 1) × (busy.found ≡ busy.seen) × (new ≡ note_refused note busy.seen None))
    ⊎ ((busy.seen % 2 ≡ 0) × (busy.found ≢ busy.seen) × (new ≡ note_refused note busy.seen (Some busy.found)))
