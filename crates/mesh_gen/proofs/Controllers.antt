-- Lists of some of the tiles, each once.
use Rattle.std.proofs.Common.{ℕ, zero, suc, nat_eq, ◌<◌, ◌%◌, List, [], ◌∷◌, length, get_or, arith}
use Rattle.std.proofs.Math.Logic.{∥∥₁_elim}
use Rattle.std.proofs.Math.Bridge.{le_prop}
use Rattle.std.proofs.lemmas.Nat.{mod_below}
use Rattle.std.specs.List.{AllByRecursion, AllByRecursion-prop, IsDistinct-prop}
use Rattle.mesh_gen.specs.Limits.{AreTiles}

get_or-inside : (tiles : ℕ) (list : List ℕ) (k : ℕ) → AllByRecursion (λ t. t < tiles) list → k < length list → get_or list k 0 < tiles
get_or-inside tiles [] k inside below = absurd (omega arith)
get_or-inside tiles (t ∷ list) zero inside below = inside.0
get_or-inside tiles (t ∷ list) (suc k) inside below = get_or-inside tiles list k inside.1 (omega arith)

-- the place that a number has, going round the list
pub round_below : (tiles : ℕ) (list : List ℕ) (n : ℕ) → ∥ AreTiles tiles list ∥₁ → n % length list < length list
round_below tiles list n are = mod_below n (length list) (∥∥₁_elim are le_prop (λ all. all.some))

pub get_or-round : (tiles : ℕ) (list : List ℕ) (n : ℕ) → ∥ AreTiles tiles list ∥₁ → get_or list (n % length list) 0 < tiles
get_or-round tiles list n are = ∥∥₁_elim are le_prop (λ all. get_or-inside tiles list (n % length list) all.inside (round_below tiles list n are))

-- that a list is such a list holds in one way
pub AreTiles-prop : (tiles : ℕ) (list : List ℕ) → IsProp (AreTiles tiles list)
AreTiles-prop tiles list a b i = record {
  some = le_prop a.some b.some i;
  distinct = IsDistinct-prop nat_eq list a.distinct b.distinct i;
  inside = AllByRecursion-prop (λ t. t < tiles) (λ t. le_prop) list a.inside b.inside i;
}
