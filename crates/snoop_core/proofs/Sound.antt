-- Every step of a node keeps it sound.
use Rattle.std.proofs.Common.{◌≡◌, ◌*◌, ◌<◌, subst, sym, Some}
use Rattle.mesh_gen.specs.declared.request.Request.{Request}
use Rattle.mesh_gen.specs.declared.msg.Msg.{Msg}
use Rattle.mesh_gen.specs.declared.msg_kind.MsgKind.{MsgKind}
use Rattle.mesh_gen.specs.declared.msg_kind.MsgKind.TheVariants.{Data, Back}
use Rattle.chip_model.specs.declared.pending.Pending.{Pending}
use Rattle.chip_model.specs.Chip.{tile_count}
use Rattle.chip_model.specs.Node.{Node, Performed, node_after_request, arrived_as, node_after_message, after_request_sent, after_message_sent, node_after_access}
use Rattle.snoop_core.specs.Requests.{OwnRequestFits, DataFits}
use Rattle.snoop_core.specs.Nodes.{IsPlaced, NodeIsSound}
use Rattle.snoop_core.proofs.Accesses.{accessed_frame}
use Rattle.snoop_core.proofs.ShapeSteps.{NodeFits-node_after_request, NodeFits-node_after_message, NodeFits-node_after_access, NodeFits-after_request_sent, NodeFits-after_message_sent}
use Rattle.snoop_core.proofs.Places.{IsPlaced-after_snoop, IsPlaced-after_data, IsPlaced-node_after_access, IsPlaced-marked_sent}

pub NodeIsSound-node_after_request : (q : Request) (node : Node) → OwnRequestFits node.tile node.side q → NodeIsSound node
    → NodeIsSound (node_after_request q node).0
unfolding node_after_request
NodeIsSound-node_after_request q node own is = record {
  tile = is.tile;
  fits = NodeFits-node_after_request q node own is.fits;
  placed = IsPlaced-after_snoop node.chip node.tile node.side node.delivered q is.placed;
}

same_tile : (msg : Msg) (node : Node) (kind : MsgKind) → node.tile < tile_count node.chip
    → (arrived_as msg node kind).0.tile < tile_count (arrived_as msg node kind).0.chip
same_tile msg node Data is = is
same_tile msg node Back is = is

arrived_placed : (msg : Msg) (node : Node) (kind : MsgKind) → IsPlaced node.side.misses node.delivered
    → IsPlaced (arrived_as msg node kind).0.side.misses (arrived_as msg node kind).0.delivered
arrived_placed msg node Data is = IsPlaced-after_data node.chip node.side msg.words node.delivered is
arrived_placed msg node Back is = is

pub NodeIsSound-node_after_message : (msg : Msg) (node : Node) → DataFits node.side msg → NodeIsSound node → NodeIsSound (node_after_message msg node).0
unfolding node_after_message
NodeIsSound-node_after_message msg node fits is = record {
  tile = same_tile msg node msg.kind is.tile;
  fits = NodeFits-node_after_message msg node fits is.fits;
  placed = arrived_placed msg node msg.kind is.placed;
}

pub NodeIsSound-node_after_access : (access : Pending) (node : Node) (performed : Performed)
    → node_after_access access node ≡ Some performed → access.address < 4 * node.chip.lines
    → NodeIsSound node → NodeIsSound performed.0
NodeIsSound-node_after_access access node performed done inside is =
    let cache = is.fits.side.cache in
    record {
      tile = subst (λ (n : Node). n.tile < tile_count n.chip) (sym (accessed_frame access node performed done cache)) is.tile;
      fits = NodeFits-node_after_access access node performed done inside is.fits;
      placed = subst (λ (after : Node). IsPlaced performed.0.side.misses after.delivered)
          (sym (accessed_frame access node performed done cache))
          (IsPlaced-node_after_access access node performed node.delivered done cache is.placed);
    }

pub NodeIsSound-after_request_sent : (node : Node) → NodeIsSound node → NodeIsSound (after_request_sent node)
unfolding after_request_sent
NodeIsSound-after_request_sent node is = record {
  tile = is.tile;
  fits = NodeFits-after_request_sent node is.fits;
  placed = IsPlaced-marked_sent node.side.misses node.delivered is.placed;
}

pub NodeIsSound-after_message_sent : (node : Node) → NodeIsSound node → NodeIsSound (after_message_sent node)
unfolding after_message_sent
NodeIsSound-after_message_sent node is = record {
  tile = is.tile;
  fits = NodeFits-after_message_sent node is.fits;
  placed = is.placed;
}
