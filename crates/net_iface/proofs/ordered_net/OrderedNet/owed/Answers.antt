use Rattle.net_iface.specs.Parts.{network_of}
use Rattle.net_iface.proofs.InsideParts.{parts}
use Rattle.net_iface.proofs.Hops.{no_way}
use Rattle.net_iface.proofs.ordered_net.OrderedNet.owed.Goals as goal

pub returns-clause-none : goal.returns-clause-none
returns-clause-none c = λ out not.
    let p = parts c.self.inside in
    rw (← c.self.view_is) (no_way p.chip (network_of p) c.args.r c.args.port c.args.slot out ((rw c.self.invariant.0.sizes.grid at c.owed.ensures.none) out not))
