-- A delivery counts one request more at its node, and no other step does.
use Rattle.std.proofs.Common.{refl, ap}
use Rattle.chip_model.specs.Node.{Node, node_after_request, after_request_sent, after_message_sent}
use Rattle.snoop_core.proofs.Accesses.{accessed_frame}
use Rattle.chip_laws.specs.DeliveryCounts.{CountsDeliveries}
use Rattle.chip_laws.proofs.SuppliedComes.{same_delivered}

pub counts_deliveries : (node : Node) → CountsDeliveries node
unfolding node_after_request after_request_sent after_message_sent
counts_deliveries node = record {
  delivered = λ q. refl;
  arrived = λ msg. same_delivered msg node;
  accessed = λ access step cache done. ap (λ (n : Node). n.delivered) (accessed_frame access node step done cache);
  asked = refl;
  sent = refl;
}
