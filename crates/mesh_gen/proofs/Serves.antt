-- Which tiles the copies on a tree serve, by columns and rows.
use Rattle.std.proofs.Common.{◌≡◌, ℕ, ◌<◌, true, refl, arith}
use Rattle.std.proofs.lemmas.Bool.Decides.{nat_tests}
use Rattle.mesh_gen.specs.declared.port.Port.{Port}
use Rattle.mesh_gen.specs.declared.port.Port.TheVariants.{L, E, W, N, S}
use Rattle.mesh_gen.specs.Grid.{Grid, tiles}
use Rattle.mesh_gen.specs.Ports.{count_if}
use Rattle.mesh_gen.specs.Routes.{HasTiles}
use Rattle.mesh_gen.specs.Tree.{goes_on, leaves_by, covers, outputs_to, Edge}
use Rattle.mesh_gen.proofs.Coordinates.{x_below, y_below, same_tile}
use Rattle.mesh_gen.proofs.Beside.{Beside, beside}
use Rattle.mesh_gen.proofs.TreeEdges.{edge_goes_on}

-- at the source each tile is served by one port
pub outputs_to-source : (g : Grid) (s v : ℕ) → outputs_to g s s v ≡ 1
outputs_to-source g s v = grind (arith, nat_tests, same_tile)

outputs_to_beside : (g : Grid) (s r : ℕ) (p : Port) (n v : ℕ) → Beside g r p n → goes_on g s r p ≡ true → outputs_to g s n v ≡ count_if (covers g s r v p)
outputs_to_beside g s r L n v stands goes = absurd stands
outputs_to_beside g s r E n v stands goes = grind (arith, nat_tests, same_tile)
outputs_to_beside g s r W n v stands goes = grind (arith, nat_tests, same_tile)
outputs_to_beside g s r N n v stands goes = grind (arith, nat_tests, same_tile)
outputs_to_beside g s r S n v stands goes = grind (arith, nat_tests, same_tile)

-- what an edge serves is served by one port beyond it
pub outputs_to-edge : (g : Grid) (s r n v : ℕ) (p : Port) → HasTiles g → Edge g s r p n → outputs_to g s n v ≡ count_if (covers g s r v p)
outputs_to-edge g s r n v p some edge = outputs_to_beside g s r p n v (beside g r p n some edge.next) (edge_goes_on g s r p n edge)

-- a port that serves a tile is one of the tree
pub covers_leaves : (g : Grid) (s r v : ℕ) (p : Port) → HasTiles g → r < tiles g → v < tiles g → covers g s r v p ≡ true → leaves_by g s r p ≡ true
covers_leaves g s r v L some inside reached serves = refl
covers_leaves g s r v E some inside reached serves = let below = x_below g v some in grind (arith, nat_tests)
covers_leaves g s r v W some inside reached serves = grind (arith, nat_tests)
covers_leaves g s r v N some inside reached serves = grind (arith, nat_tests)
covers_leaves g s r v S some inside reached serves = let below = y_below g v some reached in grind (arith, nat_tests)
