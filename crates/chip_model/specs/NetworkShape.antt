-- The shape of the networks: their channels, windows and messages, whatever the order of requests is.
use Rattle.std.specs.Prelude.{◌≡◌, ◌⊎◌, ℕ, ◌^◌, ◌<◌, ◌≤◌, Bool, length, Some, slice_get}
use Rattle.mesh_gen.specs.declared.msg.Msg.{Msg}
use Rattle.mesh_gen.specs.declared.msg_kind.MsgKind.{MsgKind}
use Rattle.mesh_gen.specs.declared.msg_kind.MsgKind.TheVariants.{Data, Back}
use Rattle.mesh_gen.specs.declared.port.Port.{Port}
use Rattle.mesh_gen.specs.Grid.{Grid, tiles}
use Rattle.mesh_gen.specs.Ports.{port_number}
use Rattle.mesh_gen.specs.Routes.{IsRouteChannel}
use Rattle.vc_bank.specs.Channels.{Channels, empty_channels, slots_at}
use Rattle.vc_bank.specs.Places.{Network, at}
use Rattle.order_tracker.specs.Tracker.{IsWindow}
use Rattle.chip_model.specs.declared.net_copy.NetCopy.{NetCopy}
use Rattle.chip_model.specs.Chip.{Chip, tile_count, home}
use Rattle.chip_model.specs.Windows.{Windows}
use Rattle.chip_model.specs.OrderedNetwork.{OrderedNetwork, Interface}

-- each router has the channels of an empty one
pub record HasChannels {P : Type 0} (g : Grid) (normal : ℕ) (reserved : Bool) (net : Network P) : Type 0 where
  pub routers : length net ≡ tiles g
  pub ports : (router : ℕ) (channels : Channels P) → slice_get net router ≡ Some channels → length channels ≡ 5
  pub slots : (router port : ℕ) (channels : Channels P) → slice_get net router ≡ Some channels →
      length (slots_at channels port) ≡ length (slots_at (empty_channels {P = P} normal reserved) port)

-- a window ticks only where a tile posted, each closed vector is a set of some tiles, and no tile has taken more than there
-- are
pub record WindowsFit (chip : Chip) (w : Windows) : Type 0 where
  pub phase : w.phase < chip.window
  pub begun : (w.phase ≡ 0) ⊎ (0 < w.posts)
  pub posts : w.posts < 2 ^ tile_count chip
  pub closed : (k vector : ℕ) → slice_get w.closed k ≡ Some vector → IsWindow (tile_count chip) vector
  pub tiles : length w.taken ≡ tile_count chip
  pub taken : (t count : ℕ) → slice_get w.taken t ≡ Some count → count ≤ length w.closed

-- a copy is of a request that its source made
pub record IsCopyOfMade (net : OrderedNetwork) (copy : NetCopy) : Type 0 where
  pub interface : Interface
  pub source : slice_get net.interfaces copy.request.source ≡ Some interface
  pub made : slice_get interface.made copy.request.number ≡ Some copy.request

-- a copy is of a request that its tile made
abbrev pub CopiesAreMade : OrderedNetwork → Type 0
CopiesAreMade net = (router port slot : ℕ) (copy : NetCopy) → at net.copies router port slot ≡ Some copy → IsCopyOfMade net copy

-- a message stands at a port that it comes to on its route
abbrev pub IsOnRoute : Grid → Network Msg → Type 0
IsOnRoute g net = (router slot : ℕ) (port : Port) (msg : Msg) → at net router (port_number port) slot ≡ Some msg → IsRouteChannel g msg.to router port

-- a line's data for its home goes there
abbrev pub GoesTo : Chip → Msg → MsgKind → Type 0
GoesTo chip msg Data = Unit {0}
GoesTo chip msg Back = msg.to ≡ home chip msg.line

-- a message is for a tile and of a line, and a line that is written back goes to its home
pub record MessageFits (chip : Chip) (msg : Msg) : Type 0 where
  pub to : msg.to < tile_count chip
  pub line : msg.line < chip.lines
  pub goes_to : GoesTo chip msg msg.kind
