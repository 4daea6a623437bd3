-- The ports at the routers below the counter are looked up.
use Rattle.std.proofs.Common.{◌≡◌, ℕ, ◌<◌, length, Some}
use Rattle.std.specs.Prelude.{slice_get}
use Rattle.mesh_gen.specs.Mesh.{grid}
use Rattle.mesh_gen.specs.PortSets.{ports_of}
use Rattle.mesh_gen.specs.Tree.{tree_outs}
use Rattle.router_xy.proofs.wiring.tree.Given as goal

abbrev pub invariant-loop-r : goal.invariant-loop-r
invariant-loop-r l = (length l.outs.items ≡ l.r) × ((u : ℕ) → u < l.r → slice_get l.outs.items u ≡ Some (ports_of (tree_outs (grid l.mesh) l.s u)))
