-- Which accesses of a tile come later in sequence: all as it performed them, or its writes.
use Rattle.std.specs.Prelude.{◌≡◌, ◌≢◌, ◌⊎◌, true, false, List, [], ◌∷◌}
use Rattle.std.specs.List.{AllByRecursion}
use Rattle.report_text.specs.declared.access.Access.{Access}
use Rattle.chip_model.specs.Witness.{is_before, is_write}

-- the second is of another tile, or comes after the first in sequence
abbrev pub Follows : Access → Access → Type 0
Follows a b = a.tile ≡ b.tile → is_before a b ≡ true

-- so it is for each access with each behind it in the list
abbrev pub AllPairs : (Access → Access → Type 0) → List Access → Type 0
AllPairs R [] = Unit {0}
AllPairs R (a ∷ rest) = AllByRecursion (R a) rest × AllPairs R rest

-- each access follows those before it in the list
abbrev pub AreRising : List Access → Type 0
AreRising xs = AllPairs Follows xs

-- the second is of another tile, or comes after the first in sequence, or else before it where the first writes nothing
abbrev pub Succeeds : Access → Access → Type 0
Succeeds a b = a.tile ≡ b.tile → (is_before a b ≡ true) ⊎ ((is_before b a ≡ true) × (is_write a ≡ false))

-- each access succeeds those before it in the list: no access comes before a write that its tile performed earlier
abbrev pub AreSucceeding : List Access → Type 0
AreSucceeding xs = AllPairs Succeeds xs

-- the second is of another tile, or of another instruction
abbrev pub Differs : Access → Access → Type 0
Differs a b = a.tile ≡ b.tile → a.number ≢ b.number
