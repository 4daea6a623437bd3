-- The links of a mesh and the trees of its tiles, looked up once.
use Rattle.std.specs.Prelude.{◌≡◌, ℕ, ◌<◌, List, length, slice_get, Some}
use Rattle.mesh_gen.specs.declared.port.Port.TheVariants.{E, W, N, S}
use Rattle.mesh_gen.specs.declared.ports.Ports.{Ports}
use Rattle.mesh_gen.specs.Grid.{Grid, tiles, neighbour}
use Rattle.mesh_gen.specs.PortSets.{ports_of}
use Rattle.mesh_gen.specs.Tree.{tree_outs}
use Rattle.router_xy.specs.declared.wiring.Sides.{Sides}

-- the neighbours of a tile
abbrev pub sides_of : Grid → ℕ → Sides
sides_of g t = record { east = neighbour g t E; west = neighbour g t W; north = neighbour g t N; south = neighbour g t S }

-- the neighbours of each tile, in the order of the tiles
pub record AreLinks (g : Grid) (links : List Sides) : Type 0 where
  pub count : length links ≡ tiles g
  pub each : (t : ℕ) → t < tiles g → slice_get links t ≡ Some (sides_of g t)

-- the ports by which the requests of a tile leave each router
pub record IsTree (g : Grid) (s : ℕ) (outs : List Ports) : Type 0 where
  pub count : length outs ≡ tiles g
  pub each : (r : ℕ) → r < tiles g → slice_get outs r ≡ Some (ports_of (tree_outs g s r))

-- the trees of all tiles
pub record AreTrees (g : Grid) (trees : List (List Ports)) : Type 0 where
  pub count : length trees ≡ tiles g
  pub each : (s : ℕ) (outs : List Ports) → slice_get trees s ≡ Some outs → IsTree g s outs
