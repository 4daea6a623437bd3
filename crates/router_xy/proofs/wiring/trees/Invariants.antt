-- The trees of the tiles below the counter are looked up.
use Rattle.std.proofs.Common.{◌≡◌, ℕ, List, length, Some}
use Rattle.std.specs.Prelude.{slice_get}
use Rattle.mesh_gen.specs.declared.ports.Ports.{Ports}
use Rattle.mesh_gen.specs.Mesh.{grid}
use Rattle.router_xy.specs.Wirings.{IsTree}
use Rattle.router_xy.proofs.wiring.trees.Given as goal

abbrev pub invariant-loop-s : goal.invariant-loop-s
invariant-loop-s l = (length l.trees.items ≡ l.s) × ((u : ℕ) (outs : List Ports) → slice_get l.trees.items u ≡ Some outs → IsTree (grid l.mesh) u outs)
