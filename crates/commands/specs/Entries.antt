-- The line of `order` entry by entry.
use Rattle.std.specs.Prelude.{◌≡◌, ℕ, ◌+◌, ◌≤◌, Bool, true, false, List, [], ◌∷◌, ◌++◌, length, codes, decimal, slice_index}
use Rattle.order_tracker.specs.Tracker.{TrackerState, left_of}

-- a number, after a space where the line has begun
abbrev pub entry_text : Bool → ℕ → List ℕ
entry_text true number = 32 ∷ decimal number
entry_text false number = decimal number

-- numbers one after another
abbrev pub entries_text : Bool → List ℕ → List ℕ
entries_text begun [] = []
entries_text begun (number ∷ numbers) = entry_text begun number ++ entries_text true numbers

-- whether the line has begun after them
abbrev pub has_begun : Bool → List ℕ → Bool
has_begun begun [] = begun
has_begun begun (number ∷ numbers) = true

-- the numbers that are left, and the line's end
abbrev pub rest_text : Bool → List ℕ → List ℕ
rest_text begun numbers = entries_text begun numbers ++ codes "\n"

-- all windows that a tracker held were used up, and no tile has more requests used than stood in them
pub record UsesUp (old new : TrackerState) : Type 0 where
  pub windows : new.windows ≡ []
  pub tiles : new.tiles ≡ old.tiles
  pub room : new.room ≡ old.room
  pub number : new.number ≡ old.number + length old.windows
  pub used : (t : ℕ) → slice_index new.used t ≤ slice_index old.used t + length (left_of old)
