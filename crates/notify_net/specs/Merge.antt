-- What a merge network computes: sets of tiles that grow with the distance.
use Rattle.std.specs.Prelude.{◌≡◌, ℕ, ◌<◌, nat_le, List, length, filter, slice_index}
use Rattle.std.specs.List.{AllByRecursion}
use Rattle.mesh_gen.specs.Grid.{Grid, tiles, distance}
use Rattle.mesh_gen.specs.TileSet.{set_of}
use Rattle.notify_net.specs.Latches.{LatchState}

-- the set of the tiles that posted and are at most k hops from a tile
abbrev pub merged : Grid → List ℕ → ℕ → ℕ → ℕ
merged g posts k t = set_of (filter (λ s. nat_le (distance g s t) k) posts)

-- k ticks after these tiles posted, each latch holds those of them that are at most k hops away
pub record IsAtPhase (g : Grid) (posts : List ℕ) (k : ℕ) (s : LatchState) : Type 0 where
  pub grid_is : s.grid ≡ g
  pub inside : AllByRecursion (λ t. t < tiles g) posts
  pub count : length s.latches ≡ tiles g
  pub each : (t : ℕ) → t < tiles g → slice_index s.latches t ≡ merged g posts k t
