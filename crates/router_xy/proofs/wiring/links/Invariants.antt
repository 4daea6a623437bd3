-- The sides of the tiles below the counter are looked up.
use Rattle.std.proofs.Common.{◌≡◌, ℕ, ◌<◌, length, Some}
use Rattle.std.specs.Prelude.{slice_get}
use Rattle.mesh_gen.specs.Mesh.{grid}
use Rattle.router_xy.specs.Wirings.{sides_of}
use Rattle.router_xy.proofs.wiring.links.Given as goal

abbrev pub invariant-loop-t : goal.invariant-loop-t
invariant-loop-t l = (length l.links.items ≡ l.t) × ((u : ℕ) → u < l.t → slice_get l.links.items u ≡ Some (sides_of (grid l.mesh) u))
