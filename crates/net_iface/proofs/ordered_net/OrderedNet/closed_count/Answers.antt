use Rattle.net_iface.specs.Parts.{network_of}
use Rattle.net_iface.proofs.InsideParts.{parts}
use Rattle.net_iface.proofs.Fits.{closed_few}
use Rattle.net_iface.proofs.ordered_net.OrderedNet.closed_count.Goals as goal

pub returns-clause-few : goal.returns-clause-few
returns-clause-few c =
    let p = parts c.self.inside in
    rw (← c.self.view_is, c.closed.ensures) (closed_few p.chip (network_of p) c.self.invariant.0.sizes.some c.self.invariant.0.holds.fits)
