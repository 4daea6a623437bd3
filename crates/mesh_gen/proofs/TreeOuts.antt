-- The ports of a tree as the bits of a set.
use Rattle.std.proofs.Common.{◌<◌, ◌≤◌, arith, ◌≡◌, ℕ, ◌+◌, ◌*◌, Bool, true, false, refl}
use Rattle.std.specs.Prelude.{if◌then◌else◌}
use Rattle.std.specs.Int.RustNames.{bit_or}
use Rattle.mesh_gen.specs.declared.port.Port.{Port}
use Rattle.mesh_gen.specs.declared.port.Port.TheVariants.{L, E, W, N, S}
use Rattle.mesh_gen.specs.Grid.{Grid}
use Rattle.mesh_gen.specs.Ports.{has, count_if}
use Rattle.mesh_gen.specs.Tree.{leaves_by, tree_outs}

-- L, and each side where a test holds
abbrev bits : Bool → Bool → Bool → Bool → ℕ
bits e w n s = 1 * 1 + count_if e * 2 + count_if w * 4 + count_if n * 8 + count_if s * 16

pub unions : (e w n s : Bool) → bit_or (bit_or (bit_or (bit_or 1 (if e then 2 else 0)) (if w then 4 else 0)) (if n then 8 else 0)) (if s then 16 else 0) ≡ bits e w n s
unions true true true true = refl
unions true true true false = refl
unions true true false true = refl
unions true true false false = refl
unions true false true true = refl
unions true false true false = refl
unions true false false true = refl
unions true false false false = refl
unions false true true true = refl
unions false true true false = refl
unions false true false true = refl
unions false true false false = refl
unions false false true true = refl
unions false false true false = refl
unions false false false true = refl
unions false false false false = refl

has_bits : (e w n s : Bool) (port : Port) → has (bits e w n s) port ≡ elim port [ L ↦ true | E ↦ e | W ↦ w | N ↦ n | S ↦ s ]
unfolding has
has_bits true true true true L = refl
has_bits true true true false L = refl
has_bits true true false true L = refl
has_bits true true false false L = refl
has_bits true false true true L = refl
has_bits true false true false L = refl
has_bits true false false true L = refl
has_bits true false false false L = refl
has_bits false true true true L = refl
has_bits false true true false L = refl
has_bits false true false true L = refl
has_bits false true false false L = refl
has_bits false false true true L = refl
has_bits false false true false L = refl
has_bits false false false true L = refl
has_bits false false false false L = refl
has_bits _ _ _ _ _ = refl

-- a port is in the set exactly where the tree leaves by it
pub has-tree_outs : (g : Grid) (s r : ℕ) (port : Port) → has (tree_outs g s r) port ≡ leaves_by g s r port
unfolding tree_outs
has-tree_outs g s r L = has_bits (leaves_by g s r E) (leaves_by g s r W) (leaves_by g s r N) (leaves_by g s r S) L
has-tree_outs g s r E = has_bits (leaves_by g s r E) (leaves_by g s r W) (leaves_by g s r N) (leaves_by g s r S) E
has-tree_outs g s r W = has_bits (leaves_by g s r E) (leaves_by g s r W) (leaves_by g s r N) (leaves_by g s r S) W
has-tree_outs g s r N = has_bits (leaves_by g s r E) (leaves_by g s r W) (leaves_by g s r N) (leaves_by g s r S) N
has-tree_outs g s r S = has_bits (leaves_by g s r E) (leaves_by g s r W) (leaves_by g s r N) (leaves_by g s r S) S

count_if_small : (holds : Bool) → count_if holds ≤ 1
count_if_small true = omega arith
count_if_small false = omega arith

pub tree_outs_below : (g : Grid) (s r : ℕ) → tree_outs g s r < 32
unfolding tree_outs
tree_outs_below g s r = omega (arith, count_if_small (leaves_by g s r E), count_if_small (leaves_by g s r W), count_if_small (leaves_by g s r N), count_if_small (leaves_by g s r S))
