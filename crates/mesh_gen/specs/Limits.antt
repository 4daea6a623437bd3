-- How large a chip may be.
use Rattle.std.specs.Prelude.{ℕ, ◌*◌, ◌<◌, ◌≤◌, List, length, nat_eq}
use Rattle.std.specs.List.{IsDistinct, AllByRecursion}

-- the most columns that a mesh has, and the most rows
abbrev pub most_side : ℕ
most_side = 8

-- the most tiles of a mesh
abbrev pub most_tiles : ℕ
most_tiles = most_side * most_side

-- a number from the least to the most
pub record IsFrom (least most n : ℕ) : Type 0 where
  pub low : least ≤ n
  pub high : n ≤ most

-- some of so many tiles, each once
pub record AreTiles (tiles : ℕ) (list : List ℕ) : Type 0 where
  pub some : 0 < length list
  pub distinct : IsDistinct nat_eq list
  pub inside : AllByRecursion (λ t. t < tiles) list
