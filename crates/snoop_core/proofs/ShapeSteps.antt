-- Every step of a node keeps its shape.
use Rattle.std.proofs.Common.{◌≡◌, ◌*◌, ◌<◌, refl, Some}
use Rattle.mesh_gen.specs.declared.request.Request.{Request}
use Rattle.mesh_gen.specs.declared.msg.Msg.{Msg}
use Rattle.mesh_gen.specs.declared.msg_kind.MsgKind.{MsgKind}
use Rattle.mesh_gen.specs.declared.msg_kind.MsgKind.TheVariants.{Data, Back}
use Rattle.chip_model.specs.declared.pending.Pending.{Pending}
use Rattle.chip_model.specs.Node.{Node, Performed, node_after_request, arrived_as, node_after_message, after_request_sent, after_message_sent, node_after_access}
use Rattle.chip_model.specs.NodeShape.{SideFits, NodeFits}
use Rattle.snoop_core.specs.Requests.{OwnRequestFits, DataFits}
use Rattle.snoop_core.proofs.OwnRequests.{SideFits-after_snoop}
use Rattle.snoop_core.proofs.Completions.{SideFits-after_data, sent_before}
use Rattle.snoop_core.proofs.Accesses.{SideFits-node_after_access, SideFits-marked_sent}
use Rattle.snoop_core.proofs.LinesKept.{LinesFit-node_after_request, LinesFit-node_after_message, LinesFit-node_after_access, LinesFit-after_request_sent, LinesFit-after_message_sent}
use Rattle.snoop_core.proofs.Messages.{OneBack-node_after_request, OneBack-node_after_message, OneBack-node_after_access, OneBack-after_request_sent, OneBack-after_message_sent}

pub NodeFits-node_after_request : (q : Request) (node : Node) → OwnRequestFits node.tile node.side q → NodeFits node
    → NodeFits (node_after_request q node).0
unfolding node_after_request
NodeFits-node_after_request q node own is = record {
  side = SideFits-after_snoop node.chip node.tile node.side node.delivered q own is.side;
  back = OneBack-node_after_request q node own is.side is.back;
  lines = LinesFit-node_after_request q node is.side is.lines;
}

side_arrived : (msg : Msg) (node : Node) (kind : MsgKind) → msg.kind ≡ kind → DataFits node.side msg → NodeFits node
    → SideFits (arrived_as msg node kind).0.chip (arrived_as msg node kind).0.side
side_arrived msg node Data kind fits is = SideFits-after_data node.chip node.side msg.words (sent_before node.side msg kind fits) is.side
side_arrived msg node Back kind fits is = is.side

pub NodeFits-node_after_message : (msg : Msg) (node : Node) → DataFits node.side msg → NodeFits node → NodeFits (node_after_message msg node).0
unfolding node_after_message
NodeFits-node_after_message msg node fits is = record {
  side = side_arrived msg node msg.kind refl fits is;
  back = OneBack-node_after_message msg node is.back;
  lines = LinesFit-node_after_message msg node is.side is.lines;
}

pub NodeFits-node_after_access : (access : Pending) (node : Node) (performed : Performed)
    → node_after_access access node ≡ Some performed → access.address < 4 * node.chip.lines
    → NodeFits node → NodeFits performed.0
NodeFits-node_after_access access node performed done inside is = record {
  side = SideFits-node_after_access access node performed done is.side;
  back = OneBack-node_after_access access node performed done is.side.cache is.back;
  lines = LinesFit-node_after_access access node performed done inside is.side is.lines;
}

pub NodeFits-after_request_sent : (node : Node) → NodeFits node → NodeFits (after_request_sent node)
unfolding after_request_sent
NodeFits-after_request_sent node is = record {
  side = SideFits-marked_sent node.chip node.side is.side;
  back = OneBack-after_request_sent node is.back;
  lines = LinesFit-after_request_sent node is.lines;
}

pub NodeFits-after_message_sent : (node : Node) → NodeFits node → NodeFits (after_message_sent node)
unfolding after_message_sent
NodeFits-after_message_sent node is = record {
  side = is.side;
  back = OneBack-after_message_sent node is.back;
  lines = LinesFit-after_message_sent node is.lines;
}
