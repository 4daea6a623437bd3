-- What the steps of a node do to the number of requests that were delivered to it.
use Rattle.std.specs.Prelude.{◌≡◌, ◌+◌, Some}
use Rattle.mesh_gen.specs.declared.request.Request.{Request}
use Rattle.mesh_gen.specs.declared.msg.Msg.{Msg}
use Rattle.chip_model.specs.declared.pending.Pending.{Pending}
use Rattle.chip_model.specs.Node.{Node, Performed, node_after_request, node_after_message, node_after_access, after_request_sent, after_message_sent}
use Rattle.chip_model.specs.NodeShape.{IsCache}

-- each request that is delivered counts one, and no other step counts any
pub record CountsDeliveries (node : Node) : Type 0 where
  pub delivered : (q : Request) → (node_after_request q node).0.delivered ≡ node.delivered + 1
  pub arrived : (msg : Msg) → (node_after_message msg node).0.delivered ≡ node.delivered
  pub accessed : (access : Pending) (step : Performed) → IsCache node.chip node.side.cache → node_after_access access node ≡ Some step → step.0.delivered ≡ node.delivered
  pub asked : (after_request_sent node).delivered ≡ node.delivered
  pub sent : (after_message_sent node).delivered ≡ node.delivered
