-- The limits of a document beside those of its mesh.
use Rattle.std.specs.Prelude.{ℕ, ◌≤◌, List, length}
use Rattle.std.specs.List.{AllByRecursion}
use Rattle.mesh_gen.specs.Limits.{AreTiles}

-- at most 4,096 windows, in each of which some of so many tiles post, each once
pub record ArePosts (tiles : ℕ) (posts : List (List ℕ)) : Type 0 where
  pub few : length posts ≤ 4096
  pub each : AllByRecursion (AreTiles tiles) posts
