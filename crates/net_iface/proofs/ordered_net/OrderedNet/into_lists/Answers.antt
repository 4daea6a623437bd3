use Rattle.std.proofs.Common.{sym, ◌∙◌}
use Rattle.net_iface.proofs.InsideParts.{parts}
use Rattle.net_iface.proofs.Counts.{delivered_counts-network}
use Rattle.net_iface.proofs.ordered_net.OrderedNet.into_lists.Goals as goal

pub returns-clause-delivered : goal.returns-clause-delivered
returns-clause-delivered c = rw (← c.self.view_is) (c.new-2.ensures ∙ sym (delivered_counts-network (parts c.self.inside) c.self.invariant.0.sizes))
