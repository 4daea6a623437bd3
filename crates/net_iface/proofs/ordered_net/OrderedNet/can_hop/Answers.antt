use Rattle.std.proofs.Common.{sym, ap}
use Rattle.std.specs.Prelude.{is_some}
use Rattle.net_iface.specs.Parts.{network_of}
use Rattle.net_iface.proofs.InsideParts.{parts}
use Rattle.net_iface.proofs.Hops.{no_way, can_go}
use Rattle.net_iface.proofs.ordered_net.OrderedNet.can_hop.Goals as goal

pub returns-in-Some : goal.returns-in-Some
returns-in-Some c =
    let p = parts c.self.inside in
    let grid = c.self.invariant.0.sizes.grid in
    rw (← c.self.view_is)
    (can_go p.chip (network_of p) c.args.r c.args.port c.args.slot c.args.out c.in-Some.way c.takes_in.result (rw grid at c.in-Some.ensures.some) (rw grid at c.in-Some.ensures.goes)
    (rw (← c.self.view_is) at c.takes_in.ensures))

pub returns-in-None : goal.returns-in-None
returns-in-None c =
    let p = parts c.self.inside in
    rw (← c.self.view_is) (sym (ap is_some (no_way p.chip (network_of p) c.args.r c.args.port c.args.slot c.args.out (rw c.self.invariant.0.sizes.grid at c.in-None.ensures.none))))
