-- A set of tiles as a number, whose bit t says whether tile t is in the set.
use Rattle.std.specs.Prelude.{ℕ, ◌^◌, Bool, ◌==◌, List, [], ◌∷◌, bit_or}
use Rattle.std.specs.Int.{bit_at}
use Rattle.std.specs.List.{list_any}

-- whether the tile is in the set
unfoldable pub has_tile : ℕ → ℕ → Bool
has_tile set t = bit_at set t == 1

-- the set of the tiles of a list
abbrev pub set_of : List ℕ → ℕ
set_of [] = 0
set_of (t ∷ ts) = bit_or (2 ^ t) (set_of ts)

-- whether the tile is in the list
abbrev pub is_among : List ℕ → ℕ → Bool
is_among list t = list_any (λ s. s == t) list
