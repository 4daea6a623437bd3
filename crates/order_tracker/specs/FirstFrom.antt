-- The first tile of a set in a round that begins with a tile.
use Rattle.std.specs.Prelude.{◌≡◌, ◌⊎◌, ℕ, ◌<◌, ◌≤◌, false, true}
use Rattle.mesh_gen.specs.TileSet.{has_tile}

-- no tile of the set is at least low and below high
abbrev pub HasNone : ℕ → ℕ → ℕ → Type 0
HasNone set low high = (t : ℕ) → low ≤ t → t < high → has_tile set t ≡ false

-- t is in the set, and no tile of it has its turn between the first one's and that of t
pub record IsFirstFrom (set first t : ℕ) : Type 0 where
  pub word : t < 64
  pub inside : has_tile set t ≡ true
  pub turn : ((first ≤ t) × HasNone set first t) ⊎ ((t < first) × HasNone set first 64 × HasNone set 0 t)
