use Rattle.std.proofs.Common.{sym}
use Rattle.std.proofs.lemmas.List.{length-take-le}
use Rattle.net_iface.proofs.OneOrders.{delivered_few}
use Rattle.net_iface.proofs.ordered_net.OrderedNet.delivered_requests.Goals as goal

pub slice_bounds-result-end : goal.slice_bounds-result-end
slice_bounds-result-end c =
    let few = delivered_few c.args.self.now.chip c.args.self.now.network c.args.t c.tiles.ensures.fits c.requires in
    rw (c.delivered-count.ensures, c.order.ensures) (sym (length-take-le _ c.args.self.now.network.ordered few))
