use Rattle.std.proofs.Common.{sym, ◌∙◌}
use Rattle.net_iface.specs.Parts.{network_of}
use Rattle.net_iface.proofs.InsideParts.{parts}
use Rattle.net_iface.proofs.Steps.{is_some-after_vector_take}
use Rattle.net_iface.proofs.ordered_net.OrderedNet.can_take.Goals as goal

pub returns : goal.returns
returns c = rw (← c.self.view_is) (c.can_take.ensures ∙ sym (is_some-after_vector_take (network_of (parts c.self.inside)) c.args.t))
