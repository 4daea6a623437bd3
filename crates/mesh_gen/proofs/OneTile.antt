-- A list of one tile.
use Rattle.std.proofs.Common.{◌≡◌, ℕ, ◌*◌, ◌<◌, List, [], ◌∷◌, arith}
use Rattle.std.specs.List.{IsDistinct}
use Rattle.mesh_gen.specs.Limits.{AreTiles}

pub AreTiles-one : (tiles t : ℕ) → t < tiles → AreTiles tiles (t ∷ [])
unfolding IsDistinct
AreTiles-one tiles t inside = record { some = omega arith; distinct = (tt, tt); inside = (inside, tt) }

-- the same of a list that is this one
pub AreTiles-is_one : (tiles t : ℕ) (list : List ℕ) → t < tiles → list ≡ t ∷ [] → AreTiles tiles list
AreTiles-is_one tiles t list inside is = rw is (AreTiles-one tiles t inside)

-- a mesh with a column and a row has a tile
pub product_positive : (cols rows : ℕ) → 0 < cols → 0 < rows → 0 < cols * rows
product_positive cols rows some_cols some_rows = grind arith
