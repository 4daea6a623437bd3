use Rattle.std.proofs.Common.{sym, ◌∙◌, ap, subst}
use Rattle.chip_model.specs.Node.{Node, after_message_sent}
use Rattle.snoop_core.specs.Nodes.{NodeIsSound}
use Rattle.snoop_core.proofs.NodeSteps.{dropped_is}
use Rattle.snoop_core.proofs.Sound.{NodeIsSound-after_message_sent}
use Rattle.snoop_core.proofs.node.Node.drop_out.Goals as goal

pub invariant_of-self : goal.invariant_of-self
invariant_of-self c =
    let i = c.self.inside in
    subst (λ (node : Node). NodeIsSound node) (sym (dropped_is i.snooper i.tile i.controller i.out c.pop.new.self i.delivered c.pop.ensures)) (NodeIsSound-after_message_sent _ c.self.invariant)

pub returns : goal.returns
returns c =
    let i = c.self.inside in
    dropped_is i.snooper i.tile i.controller i.out c.pop.new.self i.delivered c.pop.ensures ∙ ap after_message_sent c.self.view_is
