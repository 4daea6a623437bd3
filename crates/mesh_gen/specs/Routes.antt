-- The ways of messages to one tile, and the ranks of the ports on them.
use Rattle.std.specs.Prelude.{◌≡◌, ◌<◌, ◌≤◌, ℕ, ◌+◌, ◌-◌, nat_lt, Some, if◌then◌else◌}
use Rattle.mesh_gen.specs.declared.port.Port.{Port}
use Rattle.mesh_gen.specs.declared.port.Port.TheVariants.{L, E, W, N, S}
use Rattle.mesh_gen.specs.Grid.{Grid, tiles, x_of, y_of, neighbour}
use Rattle.mesh_gen.specs.Ports.{opposite}

-- a grid with a column and a row, and so with tiles
pub record HasTiles (g : Grid) : Type 0 where
  pub some_column : 0 < g.cols
  pub some_row : 0 < g.rows

-- the side of r towards the column of a tile, and some other port in that column
abbrev pub along_row : Grid → ℕ → ℕ → Port → Port
along_row g r dest other = if nat_lt (x_of g r) (x_of g dest) then E else if nat_lt (x_of g dest) (x_of g r) then W else other

-- the side of r towards the row of a tile, and some other port in that row
abbrev pub along_column : Grid → ℕ → ℕ → Port → Port
along_column g r dest other = if nat_lt (y_of g dest) (y_of g r) then N else if nat_lt (y_of g r) (y_of g dest) then S else other

-- the port by which a message leaves r: along the row first, then along the column, and at its tile into the tile
abbrev pub route : Grid → ℕ → ℕ → Port
route g r dest = along_row g r dest (along_column g r dest L)

-- the rank of an input port: those of a column come below those of a row, and these below the tile's own
abbrev pub rank : Grid → ℕ → Port → ℕ
rank g r L = g.rows + g.cols
rank g r W = g.rows + (g.cols - 1 - x_of g r)
rank g r E = g.rows + x_of g r
rank g r N = g.rows - 1 - y_of g r
rank g r S = y_of g r

-- a message for this tile stands at an input port of a router: it entered at the router's own tile, and came by its route
pub data Travels (g : Grid) (dest : ℕ) : ℕ → Port → Type 0 where
  enters : {r : ℕ} → r < tiles g → Travels g dest r L
  hops : {r n : ℕ} {q : Port} → Travels g dest r q → neighbour g r (route g r dest) ≡ Some n → Travels g dest n (opposite (route g r dest))

-- where a message for this tile may stand: at a port that it enters on its way
abbrev pub IsRouteChannel : Grid → ℕ → ℕ → Port → Type 0
IsRouteChannel g dest r L = Unit {0}
IsRouteChannel g dest r W = x_of g r ≤ x_of g dest
IsRouteChannel g dest r E = x_of g dest ≤ x_of g r
IsRouteChannel g dest r N = (x_of g r ≡ x_of g dest) × (y_of g r ≤ y_of g dest)
IsRouteChannel g dest r S = (x_of g r ≡ x_of g dest) × (y_of g dest ≤ y_of g r)
