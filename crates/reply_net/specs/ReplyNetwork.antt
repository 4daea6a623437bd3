-- The reply network as plain data, and what stands in its channels.
use Rattle.std.specs.Prelude.{◌≡◌, ◌≢◌, ◌*◌, ◌<◌, ◌≤◌, ℕ, length, Option, Some, None}
use Rattle.mesh_gen.specs.declared.msg.Msg.{Msg}
use Rattle.mesh_gen.specs.declared.port.Port.{Port}
use Rattle.mesh_gen.specs.Grid.{Grid, tiles}
use Rattle.mesh_gen.specs.Limits.{most_tiles}
use Rattle.mesh_gen.specs.Ports.{port_number}
use Rattle.mesh_gen.specs.Routes.{HasTiles, IsRouteChannel, rank}
use Rattle.vc_bank.specs.Places.{Network, slots, at, weigh, slot_count}
use Rattle.chip_model.specs.declared.channel.Channel.{Channel}

-- the grid of the routers, and the messages in their channels
pub record ReplyNetwork : Type 0 where
  pub grid : Grid
  pub messages : Network Msg

-- the sum of a weight over the messages in all channels
abbrev pub total : (Msg → ℕ) → Network Msg → ℕ
total weight net = weigh (λ router port slot msg. weight msg) net

-- how many messages there are
abbrev pub message_count : Network Msg → ℕ
message_count net = total (λ msg. 1) net

-- the message in a channel
abbrev pub message_in : Network Msg → Channel → Option Msg
message_in net channel = at net channel.router (port_number channel.port) channel.slot

-- each message is for a tile, and stands where its route may lead it
abbrev pub AreOnTheirRoutes : Grid → Network Msg → Type 0
AreOnTheirRoutes g net =
    (r : ℕ) (port : Port) (slot : ℕ) (msg : Msg) → at net r (port_number port) slot ≡ Some msg → (msg.to < tiles g) × IsRouteChannel g msg.to r port

-- one message went from a channel to a free one of lower rank, and no other channel changed
pub record Moves (g : Grid) (old new : Network Msg) (from : Channel) : Type 0 where
  pub msg : Msg
  pub to : Channel
  pub stood : message_in old from ≡ Some msg
  pub was_free : message_in old to ≡ None
  pub left : message_in new from ≡ None
  pub stands : message_in new to ≡ Some msg
  pub others : (channel : Channel) → channel ≢ from → channel ≢ to → message_in new channel ≡ message_in old channel
  pub falls : rank g to.router to.port < rank g from.router from.port

-- each port of each router has as many channels as the others, and at least one
abbrev pub HaveChannels : Grid → Network Msg → Type 0
HaveChannels g net =
    (count : ℕ) × (0 < count) × ((r : ℕ) (port : Port) → r < tiles g → length (slots net r (port_number port)) ≡ count)

-- a chip whose routers have five ports of at most four channels each has at most so many channels
abbrev pub most_channels : ℕ
most_channels = most_tiles * 20

-- there are routers, one for each tile, with channels, and the messages in them are on their ways
pub record RepliesFit (net : ReplyNetwork) : Type 0 where
  pub some : HasTiles net.grid
  pub routers : length net.messages ≡ tiles net.grid
  pub channels : HaveChannels net.grid net.messages
  pub few : slot_count net.messages ≤ most_channels
  pub on_routes : AreOnTheirRoutes net.grid net.messages
