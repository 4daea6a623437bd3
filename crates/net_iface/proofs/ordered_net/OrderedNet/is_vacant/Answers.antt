use Rattle.net_iface.specs.Parts.{network_of}
use Rattle.net_iface.proofs.InsideParts.{parts}
use Rattle.net_iface.proofs.Hops.{no_hops_from}
use Rattle.net_iface.proofs.ordered_net.OrderedNet.is_vacant.Goals as goal

pub returns-clause-vacant : goal.returns-clause-vacant
returns-clause-vacant c = rw (← c.self.view_is) c.is_vacant.ensures.vacant

pub returns-clause-none : goal.returns-clause-none
returns-clause-none c =
    let p = parts c.self.inside in
    rw (← c.self.view_is) (no_hops_from p.chip (network_of p) c.args.r c.args.port c.is_vacant.result (rw c.self.invariant.0.sizes.grid at c.is_vacant.ensures.none))
