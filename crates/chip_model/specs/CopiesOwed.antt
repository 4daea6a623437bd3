-- What holds of the copies of requests: they stand on the trees of their sources, and what they owe is what tiles have
-- still to deliver.
use Rattle.std.specs.Prelude.{◌≡◌, ◌≢◌, ◌⊎◌, ℕ, ◌+◌, ◌*◌, ◌<◌, ◌≤◌, true, false, ◌==◌, ◌&&◌, List, take, Option, Some, count_by, slice_get, if◌then◌else◌}
use Rattle.mesh_gen.specs.declared.request.Request.{Request}
use Rattle.mesh_gen.specs.declared.port.Port.{Port}
use Rattle.mesh_gen.specs.Grid.{Grid, tiles, neighbour}
use Rattle.mesh_gen.specs.Ports.{count_if, count_ports}
use Rattle.mesh_gen.specs.PortSets.{bits_of}
use Rattle.mesh_gen.specs.Tree.{leaves_by, covers, Leads}
use Rattle.vc_bank.specs.Places.{Network, at, weigh}
use Rattle.chip_model.specs.declared.net_copy.NetCopy.{NetCopy}
use Rattle.chip_model.specs.Chip.{Chip, tile_count}
use Rattle.chip_model.specs.Copies.{Name, is_named, name_of, owes, expects}
use Rattle.chip_model.specs.OrderedNetwork.{OrderedNetwork, Interface}

-- a copy owes a tile where it has to leave by a port of its source's tree that leads there
pub record Owes (g : Grid) (net : Network NetCopy) (name : Name) (tile : ℕ) : Type 0 where
  pub router : ℕ
  pub port : ℕ
  pub slot : ℕ
  pub copy : NetCopy
  pub out : Port
  pub stands : at net router port slot ≡ Some copy
  pub is_named : is_named name copy.request ≡ true
  pub owed : owes copy out ≡ true
  pub leads : Leads g copy.request.source router out tile

-- by how many ports the copies of a request owe a tile
abbrev pub outputs_owed : Grid → NetCopy → ℕ → ℕ → ℕ
outputs_owed g copy router tile = count_ports (λ out. owes copy out && covers g copy.request.source router tile out)

-- how often the copies of a request owe a tile
unfoldable pub owing : Grid → Network NetCopy → Name → ℕ → ℕ
owing g net name tile =
    weigh (λ router port slot copy. if is_named name copy.request then outputs_owed g copy router tile else 0) net

-- a copy stands on its source's tree: it owes ports of the tree alone, and at least one
pub record IsOnTree (g : Grid) (router : ℕ) (copy : NetCopy) : Type 0 where
  pub source : copy.request.source < tiles g
  pub inside : router < tiles g
  pub ports : bits_of copy.owed < 32
  pub outs : (out : Port) → owes copy out ≡ true → leaves_by g copy.request.source router out ≡ true
  pub some : (out : Port) × (owes copy out ≡ true)

-- each copy stands on its tree, and no tile is owed a request twice
pub record CopiesFit (g : Grid) (net : Network NetCopy) : Type 0 where
  pub stand : (router port slot : ℕ) (copy : NetCopy) → at net router port slot ≡ Some copy → IsOnTree g router copy
  pub once : (name : Name) (tile : ℕ) → owing g net name tile ≤ 1

-- What the steps of the copies do to what tiles are owed: a request that enters is owed to every tile once more, a hop
-- changes nothing, and a tile that takes a request is owed it once less.
abbrev pub OwesMore : Grid → Request → Network NetCopy → Network NetCopy → Type 0
OwesMore g q old new = (name : Name) (tile : ℕ) → tile < tiles g → owing g new name tile ≡ owing g old name tile + count_if (is_named name q)

-- a step changes nothing of what each tile is owed
abbrev pub OwesSame : Grid → Network NetCopy → Network NetCopy → Type 0
OwesSame g old new = (name : Name) (tile : ℕ) → tile < tiles g → owing g new name tile ≡ owing g old name tile

-- a step serves one request to a tile, and changes nothing else that is owed
abbrev pub OwesLess : Grid → ℕ → Request → Network NetCopy → Network NetCopy → Type 0
OwesLess g t q old new = (name : Name) (tile : ℕ) → tile < tiles g → owing g new name tile + count_if (is_named name q && (tile == t)) ≡ owing g old name tile

-- Which requests have copies, and where.

-- a copy of the request stands in this channel
pub record HasCopyAt (net : Network NetCopy) (router port slot : ℕ) (q : Request) : Type 0 where
  pub copy : NetCopy
  pub stands : at net router port slot ≡ Some copy
  pub is : copy.request ≡ q

-- a copy of the request stands somewhere
pub record HasCopies (net : Network NetCopy) (q : Request) : Type 0 where
  pub router : ℕ
  pub port : ℕ
  pub slot : ℕ
  pub there : HasCopyAt net router port slot q

-- a step brings in no request, or this one alone
abbrev pub NoneComes : Network NetCopy → Network NetCopy → Type 0
NoneComes old new = (q : Request) → HasCopies new q → HasCopies old q

-- no request but this one comes into the network
abbrev pub ComesAlone : Request → Network NetCopy → Network NetCopy → Type 0
ComesAlone come old new = (q : Request) → HasCopies new q → HasCopies old q ⊎ (q ≡ come)

-- a step puts into reserved channels, which have this number, nothing but requests that the router after a side expects
abbrev pub ReservesExpected : Grid → ℕ → ℕ → Port → Option Name → Network NetCopy → Network NetCopy → Type 0
ReservesExpected g reserved r out expected old new = (router port : ℕ) (q : Request) → HasCopyAt new router port reserved q
    → HasCopyAt old router port reserved q ⊎ ((neighbour g r out ≡ Some router) × (expects expected q ≡ true))

-- a step puts nothing into reserved channels
abbrev pub ReservesNothing : ℕ → Network NetCopy → Network NetCopy → Type 0
ReservesNothing reserved old new = (router port : ℕ) (q : Request) → HasCopyAt new router port reserved q → HasCopyAt old router port reserved q

-- how often a request stands among those that were made, or was delivered to a tile
abbrev pub times_named : Name → List Request → ℕ
times_named name requests = count_by (is_named name) requests

-- each request is owed a tile once until the tile has delivered it
abbrev pub IsOwedUntilDelivered : Chip → OrderedNetwork → Type 0
IsOwedUntilDelivered chip net = (name : Name) (source t : ℕ) (from to : Interface) →
    slice_get net.interfaces source ≡ Some from → name.0 ≡ source → slice_get net.interfaces t ≡ Some to →
    owing chip.grid net.copies name t + times_named name (take to.delivered net.ordered) ≡ times_named name from.made

-- a copy in a reserved channel of a router is of an ordered request, at a place that the router's tile has come to
abbrev pub ReservedIsOrdered : Chip → OrderedNetwork → Type 0
ReservedIsOrdered chip net = (router : ℕ) (port : ℕ) (copy : NetCopy) (interface : Interface) →
    at net.copies router port chip.vcs ≡ Some copy → slice_get net.interfaces router ≡ Some interface →
    (place : ℕ) × (q : Request) × (slice_get net.ordered place ≡ Some q) × (name_of q ≡ name_of copy.request) × (place ≤ interface.delivered)

-- where a copy owes the way to another router, no copy of its request stands there
abbrev pub NoneAhead : Grid → Network NetCopy → Type 0
NoneAhead g net = (router port slot : ℕ) (copy : NetCopy) (out : Port) (next p i : ℕ) (other : NetCopy) →
    at net router port slot ≡ Some copy → owes copy out ≡ true → Leads g copy.request.source router out next →
    at net next p i ≡ Some other → next ≢ router → is_named (name_of copy.request) other.request ≡ false

-- a tracker never has more windows to follow than there are request channels
abbrev pub channel_count : Chip → ℕ
channel_count chip = tile_count chip * (5 * chip.vcs + 4)
