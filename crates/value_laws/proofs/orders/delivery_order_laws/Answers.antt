use Rattle.chip_model.specs.Chip.{chip_of}
use Rattle.net_iface.proofs.OneOrders.{one_order}
use Rattle.value_laws.proofs.DeliveredPrefixes.{run_prefix}
use Rattle.value_laws.proofs.orders.delivery_order_laws.Goals as goal

pub returns : goal.returns
returns c = record {
  prefixes = λ b laws d events s t fits e.
      run_prefix c.reachable_laws.ensures.kept b laws d events s t (c.chip_network_laws.ensures.requests d fits)
      (c.reachable_laws.ensures.opened b laws d fits) e;
  one_order = λ b laws d events s fits e. one_order (chip_of d) s.network (c.reachable_laws.ensures.reached b laws d events s fits e).protocol.network.requests;
}
