use Rattle.std.proofs.Common.{sym, ◌∙◌, ap, subst}
use Rattle.chip_model.specs.Node.{Node, after_request_sent}
use Rattle.chip_model.specs.Ownership.{owns}
use Rattle.snoop_core.specs.ChipSides.{ChipSide}
use Rattle.snoop_core.specs.Nodes.{NodeIsSound}
use Rattle.snoop_core.proofs.NodeSteps.{sent_is}
use Rattle.snoop_core.proofs.Sound.{NodeIsSound-after_request_sent}
use Rattle.snoop_core.proofs.OwnershipSteps.{owns-marked_sent}
use Rattle.snoop_core.proofs.node.Node.mark_sent.Goals as goal

pub invariant_of-self : goal.invariant_of-self
invariant_of-self c =
    let i = c.self.inside in
    subst (λ (node : Node). NodeIsSound node) (sym (sent_is i.snooper c.mark_sent.new.self i.tile i.controller i.out i.delivered c.mark_sent.ensures)) (NodeIsSound-after_request_sent _ c.self.invariant)

pub returns-clause-sent : goal.returns-clause-sent
returns-clause-sent c =
    let i = c.self.inside in
    sent_is i.snooper c.mark_sent.new.self i.tile i.controller i.out i.delivered c.mark_sent.ensures ∙ ap after_request_sent c.self.view_is

pub returns-clause-owners : goal.returns-clause-owners
returns-clause-owners c = λ line.
    let i = c.self.inside in
    let new = c.mark_sent.new.self in
    ap (λ (site : ChipSide). owns site.chip site.side line) c.mark_sent.ensures
    ∙ owns-marked_sent i.snooper.chip i.snooper.side line
    ∙ ap (λ (node : Node). owns node.chip node.side line) c.self.view_is
