use Rattle.std.proofs.Common.{◌∙◌}
use Rattle.net_iface.proofs.Expected.{next_expected}
use Rattle.net_iface.proofs.ordered_net.OrderedNet.expected.Goals as goal

pub returns : goal.returns
returns c = rw (← c.self.view_is) (c.expected_by.ensures ∙ rw c.deref.ensures.value (next_expected _ c.args.t c.self.invariant.0))
