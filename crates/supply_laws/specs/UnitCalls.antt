-- What the calls of a unit ask, where an event delivers a request or brings a message.
use Rattle.std.specs.Prelude.{◌≡◌, ℕ, ◌<◌, ◌≤◌, length, Some}
use Rattle.mesh_gen.specs.declared.msg.Msg.{Msg}
use Rattle.mesh_gen.specs.declared.msg_kind.MsgKind.TheVariants.{Back}
use Rattle.mesh_gen.specs.declared.request.Request.{Request}
use Rattle.chip_model.specs.Chip.{tile_count, home}
use Rattle.chip_model.specs.Records.{LineRecord}
use Rattle.chip_model.specs.Node.{Node, node_after_request, node_after_message}
use Rattle.mem_ctrl.specs.Owners.{record_of}
use Rattle.mem_ctrl.specs.Waits.{TakesRequest}
use Rattle.snoop_core.specs.Requests.{OwnRequestFits, DataFits, ListHasRoom}

-- a request that is delivered is of a tile and for a line, and the tile's own is the one of what its node waits for; with
-- so many places in each list of tiles that wait and in the queue, there is room for the tile that asked and for what the
-- node sends
pub record DeliveryFits (places queue : ℕ) (node : Node) (q : Request) : Type 0 where
  pub source : q.source < tile_count node.chip
  pub line : q.line < node.chip.lines
  pub own : OwnRequestFits node.tile node.side q
  pub list : ListHasRoom places node.chip node.tile node.side q
  pub waiting : (r : LineRecord) → record_of node.records q.line ≡ Some r → TakesRequest q places r
  pub room : length (node_after_request q node).0.out ≤ queue

-- a message that comes is of a line; data is what the demand waits for, and words that are written back come to the home of
-- their line; with so many places in the queue there is room for what the node sends
pub record ArrivalFits (queue : ℕ) (node : Node) (msg : Msg) : Type 0 where
  pub line : msg.line < node.chip.lines
  pub awaited : DataFits node.side msg
  pub home : msg.kind ≡ Back → home node.chip msg.line ≡ node.tile
  pub room : length (node_after_message msg node).0.out ≤ queue
