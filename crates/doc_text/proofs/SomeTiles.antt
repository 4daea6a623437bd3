-- Lists of tiles that are not empty.
use Rattle.std.proofs.Common.{ℕ, ◌<◌, List, length}
use Rattle.std.proofs.Math.Logic.{∥∥₁_elim}
use Rattle.std.specs.Coded.{le_prop}
use Rattle.mesh_gen.specs.Limits.{AreTiles}

-- some of the tiles are some
pub some_tiles : (tiles : ℕ) (list : List ℕ) → ∥ AreTiles tiles list ∥₁ → 0 < length list
some_tiles tiles list are = ∥∥₁_elim are le_prop (λ all. all.some)
