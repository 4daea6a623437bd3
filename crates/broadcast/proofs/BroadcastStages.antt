-- What a window of a broadcast goes through: its tiles make a request each, they post, the ticks pass, and requests move on.
use Rattle.std.proofs.Common.{◌≡◌, ◌⊎◌, ℕ, ◌+◌, ◌<◌, ◌≤◌, Bool, List, length, Option, Some, None, subst, sym}
use Rattle.std.specs.Prelude.{◌&&◌, not, nat_lt, slice_get, unwrap_or}
use Rattle.mesh_gen.specs.declared.kind.Kind.{Kind}
use Rattle.mesh_gen.specs.declared.port.Port.{Port}
use Rattle.mesh_gen.specs.declared.request.Request.{Request}
use Rattle.mesh_gen.specs.Grid.{Grid}
use Rattle.mesh_gen.specs.Ports.{count_if}
use Rattle.mesh_gen.specs.Routes.{HasTiles}
use Rattle.mesh_gen.specs.TileSet.{has_tile}
use Rattle.vc_bank.specs.Places.{Network, at}
use Rattle.report_text.specs.declared.event.Event.{Event}
use Rattle.chip_model.specs.declared.net_copy.NetCopy.{NetCopy}
use Rattle.chip_model.specs.Chip.{Chip}
use Rattle.chip_model.specs.Copies.{Name, after_hop, after_serve}
use Rattle.chip_model.specs.OrderedNetwork.{OrderedNetwork, Interface, opening_network, after_inject, after_request_post, after_network_tick, after_vector_take, after_copy_hop, after_delivery}
use Rattle.chip_model.specs.NetworkFits.{NetworkFits}
use Rattle.chip_model.specs.Delivery.{network_step, network_tried}
use Rattle.router_xy.specs.CopiesHold.{CopiesHold}
use Rattle.router_xy.specs.CopySteps.{CopyHopped, RequestServed}
use Rattle.net_iface.specs.NetworkHolds.{OrderedNetworkHolds}
use Rattle.flow_laws.specs.NetworkMoves.{NetworkMoves, NetworkRests}

-- the laws of networks on which a broadcast rests
pub record NetworkLaws : Type 0 where
  pub opened : (chip : Chip) → 0 < chip.window → OrderedNetworkHolds chip (opening_network chip)
  pub made : (chip : Chip) (old new : OrderedNetwork) (t : ℕ) (kind : Kind) (line : ℕ) → OrderedNetworkHolds chip old → after_inject chip old t kind line ≡ Some new → OrderedNetworkHolds chip new
  pub posted : (chip : Chip) (old new : OrderedNetwork) (t : ℕ) → OrderedNetworkHolds chip old → after_request_post old t ≡ Some new → OrderedNetworkHolds chip new
  pub ticked : (chip : Chip) (old new : OrderedNetwork) → OrderedNetworkHolds chip old → after_network_tick chip old ≡ Some new → OrderedNetworkHolds chip new
  pub taken : (chip : Chip) (old new : OrderedNetwork) (t : ℕ) → OrderedNetworkHolds chip old → after_vector_take old t ≡ Some new → OrderedNetworkHolds chip new
  pub hopped : (chip : Chip) (old new : OrderedNetwork) (r : ℕ) (port : Port) (slot : ℕ) (out : Port) → OrderedNetworkHolds chip old → after_copy_hop chip old r port slot out ≡ Some new → OrderedNetworkHolds chip new
  pub delivered : (chip : Chip) (old new : OrderedNetwork) (t : ℕ) (q : Request) → OrderedNetworkHolds chip old → after_delivery chip old t ≡ Some (q, new) → OrderedNetworkHolds chip new
  pub hops : (g : Grid) (vcs : ℕ) (old new : Network NetCopy) (r : ℕ) (port : Port) (slot : ℕ) (out : Port) (expected : Option Name) → CopiesHold g vcs old
      → after_hop g old r port slot out expected ≡ Some new → CopyHopped g vcs r out expected old new
  pub serves : (g : Grid) (vcs : ℕ) (old new : Network NetCopy) (r : ℕ) (name : Name) (q : Request) → CopiesHold g vcs old → after_serve old r name ≡ Some (q, new) → RequestServed g vcs r name q old new
  pub moves : (chip : Chip) (net : OrderedNetwork) → HasTiles chip.grid → NetworkFits chip net → NetworkMoves chip net ⊎ NetworkRests net

-- the tile is one of a set, and below a number
abbrev pub is_below : ℕ → ℕ → ℕ → Bool
is_below set k t = has_tile set t && nat_lt t k

-- the tile is one of a set, and not below a number
abbrev pub is_from : ℕ → ℕ → ℕ → Bool
is_from set k t = has_tile set t && not (nat_lt t k)

-- each tile has posted for all but so many of the requests that it made
abbrev pub HaveLeft : (ℕ → ℕ) → OrderedNetwork → Type 0
HaveLeft left net = (t : ℕ) (interface : Interface) → slice_get net.interfaces t ≡ Some interface → length interface.made ≡ interface.posted + left t

-- the network holds, between two ticks, with these windows closed
pub record Rests (chip : Chip) (closed : List ℕ) (net : OrderedNetwork) : Type 0 where
  pub holds : OrderedNetworkHolds chip net
  pub phase : net.windows.phase ≡ 0
  pub closed_is : net.windows.closed ≡ closed

-- the tiles of a set below a number have made a request each, and the local channels of the others are free
pub record HaveMade (chip : Chip) (closed : List ℕ) (set k : ℕ) (net : OrderedNetwork) : Type 0 where
  pub rests : Rests chip closed net
  pub posts : net.windows.posts ≡ 0
  pub left : HaveLeft (λ t. count_if (is_below set k t)) net
  pub free : (t slot : ℕ) → k ≤ t → at net.copies t 0 slot ≡ None

-- the tiles of a set below a number have posted
pub record HavePosted (chip : Chip) (closed : List ℕ) (set k : ℕ) (net : OrderedNetwork) : Type 0 where
  pub rests : Rests chip closed net
  pub posts : (t : ℕ) → has_tile net.windows.posts t ≡ is_below set k t
  pub left : HaveLeft (λ t. count_if (is_from set k t)) net

-- so many ticks of the window in which the tiles of a set posted have passed
pub record HaveTicked (chip : Chip) (closed : List ℕ) (set k : ℕ) (net : OrderedNetwork) : Type 0 where
  pub holds : OrderedNetworkHolds chip net
  pub phase : net.windows.phase ≡ k
  pub posts : net.windows.posts ≡ set
  pub closed_is : net.windows.closed ≡ closed
  pub left : HaveLeft (λ t. 0) net

-- the window is closed, and its requests are on their way
pub record AreMoving (chip : Chip) (closed : List ℕ) (net : OrderedNetwork) : Type 0 where
  pub rests : Rests chip closed net
  pub posts : net.windows.posts ≡ 0
  pub left : HaveLeft (λ t. 0) net

-- what an event leaves that is possible, and what one leaves that is not
pub tried_some : (P : OrderedNetwork → Type 0) (chip : Chip) (net new : OrderedNetwork) (event : Event) → network_step chip net event ≡ Some new → P new → P (network_tried chip net event)
tried_some P chip net new event is holds = subst (λ (step : Option OrderedNetwork). P (unwrap_or step net)) (sym is) holds

pub tried_none : (P : OrderedNetwork → Type 0) (chip : Chip) (net : OrderedNetwork) (event : Event) → network_step chip net event ≡ None → P net → P (network_tried chip net event)
tried_none P chip net event is holds = subst (λ (step : Option OrderedNetwork). P (unwrap_or step net)) (sym is) holds
