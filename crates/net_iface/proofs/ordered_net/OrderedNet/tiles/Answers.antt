use Rattle.net_iface.proofs.InsideParts.{parts}
use Rattle.net_iface.proofs.Clauses.{few_are_left}
use Rattle.net_iface.proofs.LawsOfParts.{room_for_names}
use Rattle.net_iface.proofs.Moving.{few_moves}
use Rattle.net_iface.proofs.OneOrders.{one_order}
use Rattle.net_iface.proofs.ordered_net.OrderedNet.tiles.Goals as goal

pub returns-clause-fits : goal.returns-clause-fits
returns-clause-fits c =
    rw (← c.self.view_is) c.self.invariant.0.holds.fits

pub returns-clause-one_order : goal.returns-clause-one_order
returns-clause-one_order c = one_order c.args.self.now.chip c.args.self.now.network (returns-clause-fits c)

pub returns-clause-few_left : goal.returns-clause-few_left
returns-clause-few_left c =
    let p = parts c.self.inside in
    let sizes = c.self.invariant.0.sizes in
    rw (← c.self.view_is) (few_are_left p c.self.invariant.0 c.self.invariant.0.holds.fits.windows (λ t. room_for_names p p.routers t c.owed_laws.ensures.room sizes.grid sizes.vcs c.tiles.ensures.channels))

pub returns-clause-moves : goal.returns-clause-moves
returns-clause-moves c =
    let sizes = c.self.invariant.0.sizes in
    let arrived = rw (sizes.grid, sizes.vcs) at c.tiles.ensures.arrived in
    few_moves c.args.self.now.chip c.args.self.now.network (returns-clause-fits c) (rw (← c.self.view_is) arrived)
