-- The request routers as plain data, and what stands in their channels.
use Rattle.std.specs.Prelude.{◌≡◌, ℕ, Bool, false, Option, Some, None, option_map}
use Rattle.mesh_gen.specs.declared.port.Port.{Port}
use Rattle.mesh_gen.specs.declared.port.Port.TheVariants.{L}
use Rattle.mesh_gen.specs.Grid.{Grid}
use Rattle.mesh_gen.specs.Limits.{IsFrom}
use Rattle.mesh_gen.specs.Ports.{port_number, count_if}
use Rattle.mesh_gen.specs.Routes.{HasTiles}
use Rattle.vc_bank.specs.Places.{Network, at, weigh}
use Rattle.chip_model.specs.declared.net_copy.NetCopy.{NetCopy}
use Rattle.chip_model.specs.Copies.{Name, is_named, owes}
use Rattle.chip_model.specs.CopiesOwed.{Owes}
use Rattle.router_xy.specs.CopiesHold.{CopiesHold}

-- the grid of the routers, how many normal channels a port has, and the copies in the channels
pub record RequestNetwork : Type 0 where
  pub grid : Grid
  pub vcs : ℕ
  pub copies : Network NetCopy

-- no copy of a request stands in any channel
abbrev pub IsAbsent : Network NetCopy → Name → Type 0
IsAbsent net name = (router port slot : ℕ) (copy : NetCopy) → at net router port slot ≡ Some copy → is_named name copy.request ≡ false

-- whether a channel holds a copy that owes an output port
abbrev pub is_owed : Port → Option NetCopy → Bool
is_owed out None = false
is_owed out (Some copy) = owes copy out

-- how many copies stand at a tile that they owe
unfoldable pub arrived : Network NetCopy → ℕ
arrived net = weigh (λ router port slot copy. count_if (owes copy L)) net

-- a place in a router's channels, by the number of its port
abbrev pub numbered : Option (Port × ℕ) → Option (ℕ × ℕ)
numbered place = option_map (λ place. (port_number place.0, place.1)) place

-- two ways in which a tile is owed a request are one: they leave the same channel by the same port
abbrev pub IsOneOutput : (g : Grid) (net : Network NetCopy) (name : Name) (tile : ℕ) → Owes g net name tile → Owes g net name tile → Type 0
IsOneOutput g net name tile a b = (a.router ≡ b.router) × (a.port ≡ b.port) × (a.slot ≡ b.slot) × (a.out ≡ b.out)

-- there are routers, one for each tile, with their channels and copies
pub record RoutersFit (net : RequestNetwork) : Type 0 where
  pub some : HasTiles net.grid
  pub vcs_limit : IsFrom 1 8 net.vcs
  pub copies : CopiesHold net.grid net.vcs net.copies
