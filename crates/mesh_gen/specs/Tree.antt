-- The tree by which a request of a source reaches every router: along the source's row, and from there along each column.
use Rattle.std.specs.Prelude.{◌≡◌, ℕ, zero, suc, ◌+◌, ◌<◌, nat_lt, nat_le, Bool, true, ◌==◌, ◌&&◌, Option, Some, is_some, option_and_then}
use Rattle.mesh_gen.specs.declared.port.Port.{Port}
use Rattle.mesh_gen.specs.declared.port.Port.TheVariants.{L, E, W, N, S}
use Rattle.mesh_gen.specs.Grid.{Grid, tiles, x_of, y_of, neighbour, distance}
use Rattle.mesh_gen.specs.Ports.{ports_where, count_ports}
use Rattle.mesh_gen.specs.Routes.{along_row, along_column}

-- whether the tree of s goes this way at r: in the row of s away from s, and in each column away from that row
abbrev pub goes_on : Grid → ℕ → ℕ → Port → Bool
goes_on g s r L = true
goes_on g s r E = (y_of g r == y_of g s) && nat_le (x_of g s) (x_of g r)
goes_on g s r W = (y_of g r == y_of g s) && nat_le (x_of g r) (x_of g s)
goes_on g s r N = nat_le (y_of g r) (y_of g s)
goes_on g s r S = nat_le (y_of g s) (y_of g r)

-- whether the tree of s leaves r by this port: into the tile always, and by a side where a neighbour stands
abbrev pub leaves_by : Grid → ℕ → ℕ → Port → Bool
leaves_by g s r L = true
leaves_by g s r E = goes_on g s r E && is_some (neighbour g r E)
leaves_by g s r W = goes_on g s r W && is_some (neighbour g r W)
leaves_by g s r N = goes_on g s r N && is_some (neighbour g r N)
leaves_by g s r S = goes_on g s r S && is_some (neighbour g r S)

-- the set of these ports
unfoldable pub tree_outs : Grid → ℕ → ℕ → ℕ
tree_outs g s r = ports_where (leaves_by g s r)

-- the side of r towards the row of s, and in that row towards s
abbrev pub parent_port : Grid → ℕ → ℕ → Port
parent_port g s r = along_column g r s (along_row g r s L)

-- the router from which the tree of s comes to r: the neighbour on that side, and none at s
abbrev pub tree_parent : Grid → ℕ → ℕ → Option ℕ
tree_parent g s r = neighbour g r (parent_port g s r)

-- the router so many parents up from v
abbrev pub ancestor : Grid → ℕ → ℕ → ℕ → Option ℕ
ancestor g s zero v = Some v
ancestor g s (suc k) v = option_and_then (ancestor g s k) (tree_parent g s v)

-- an edge of the tree of s: it leaves r by a side, and enters n
pub record Edge (g : Grid) (s r : ℕ) (out : Port) (n : ℕ) : Type 0 where
  pub leaves : leaves_by g s r out ≡ true
  pub next : neighbour g r out ≡ Some n

-- exactly one edge of the tree of s enters n, and it comes from the parent of n, which is nearer to s
pub record IsEnteredOnce (g : Grid) (s n : ℕ) : Type 0 where
  pub from : ℕ
  pub out : Port
  pub edge : Edge g s from out n
  pub only : (r : ℕ) (p : Port) → Edge g s r p n → (r ≡ from) × (p ≡ out)
  pub parent : tree_parent g s n ≡ Some from
  pub inside : from < tiles g
  pub nearer : distance g s n ≡ distance g s from + 1

-- the edges of the tree of s lead from r, by this port first, to the tile of v
pub data Leads (g : Grid) (s : ℕ) : ℕ → Port → ℕ → Type 0 where
  here : {r : ℕ} → Leads g s r L r
  there : {r n v : ℕ} {out next : Port} → Edge g s r out n → Leads g s n next v → Leads g s r out v

-- the same by columns and rows: the tiles that a copy at r serves by this port
abbrev pub covers : Grid → ℕ → ℕ → ℕ → Port → Bool
covers g s r v L = r == v
covers g s r v E = (y_of g r == y_of g s) && (nat_le (x_of g s) (x_of g r) && nat_lt (x_of g r) (x_of g v))
covers g s r v W = (y_of g r == y_of g s) && (nat_le (x_of g r) (x_of g s) && nat_lt (x_of g v) (x_of g r))
covers g s r v N = nat_le (y_of g r) (y_of g s) && ((x_of g v == x_of g r) && nat_lt (y_of g v) (y_of g r))
covers g s r v S = nat_le (y_of g s) (y_of g r) && ((x_of g v == x_of g r) && nat_lt (y_of g r) (y_of g v))

-- by how many ports a copy at r serves the tile v
abbrev pub outputs_to : Grid → ℕ → ℕ → ℕ → ℕ
outputs_to g s r v = count_ports (covers g s r v)
