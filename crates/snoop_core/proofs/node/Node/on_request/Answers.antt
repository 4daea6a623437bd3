use Rattle.std.proofs.Common.{◌≡◌, ◌≤◌, length, sym, ◌∙◌, ap, subst}
use Rattle.chip_model.specs.Node.{Node, node_after_request}
use Rattle.chip_model.specs.Ownership.{owns, is_tile}
use Rattle.snoop_core.specs.ChipSides.{ChipSide}
use Rattle.snoop_core.specs.Requests.{OwnRequestFits}
use Rattle.snoop_core.specs.Nodes.{NodeIsSound}
use Rattle.snoop_core.proofs.NodeSteps.{delivered_is, delivered_done, snoop_room, answer_room}
use Rattle.snoop_core.proofs.Sound.{NodeIsSound-node_after_request}
use Rattle.snoop_core.proofs.OwnershipSteps.{owns-after_snoop}
use Rattle.snoop_core.proofs.node.Node.on_request.Goals as goal

pub on_request-done-requires-clause-room : goal.on_request-done-requires-clause-room
on_request-done-requires-clause-room c =
    let i = c.self.inside in
    snoop_room c.args.q i.snooper i.tile i.controller i.out i.delivered 65
    (subst (λ (node : Node). length (node_after_request c.args.q node).0.out ≤ 65) (sym c.self.view_is) c.requires.room)

pub on_request-requires-clause-room : goal.on_request-requires-clause-room
on_request-requires-clause-room c =
    let i = c.self.inside in
    answer_room c.args.q i.snooper i.tile i.controller i.out c.on_request-done.new.out i.delivered 65
    (subst (λ (node : Node). length (node_after_request c.args.q node).0.out ≤ 65) (sym c.self.view_is) c.requires.room)
    c.on_request-done.ensures.sent

pub invariant_of-self : goal.invariant_of-self
invariant_of-self c =
    let i = c.self.inside in
    subst (λ (node : Node). NodeIsSound node)
    (sym (delivered_is c.args.q i.snooper c.on_request-done.new.self i.tile i.controller c.on_request.new.self i.out c.on_request-done.new.out c.on_request.new.out i.delivered
    c.on_request-done.ensures.side c.on_request-done.ensures.sent c.on_request.ensures.records c.on_request.ensures.sent))
    (NodeIsSound-node_after_request c.args.q _ (subst (λ (node : Node). OwnRequestFits node.tile node.side c.args.q) (sym c.self.view_is) c.requires.own) c.self.invariant)

pub returns-clause-node : goal.returns-clause-node
returns-clause-node c =
    let i = c.self.inside in
    delivered_is c.args.q i.snooper c.on_request-done.new.self i.tile i.controller c.on_request.new.self i.out c.on_request-done.new.out c.on_request.new.out i.delivered
    c.on_request-done.ensures.side c.on_request-done.ensures.sent c.on_request.ensures.records c.on_request.ensures.sent
    ∙ ap (λ (node : Node). (node_after_request c.args.q node).0) c.self.view_is

pub returns-clause-done : goal.returns-clause-done
returns-clause-done c =
    let i = c.self.inside in
    c.on_request-done.ensures.done
    ∙ delivered_done c.args.q i.snooper i.tile i.controller i.out i.delivered
    ∙ ap (λ (node : Node). (node_after_request c.args.q node).1) c.self.view_is

pub returns-clause-owners : goal.returns-clause-owners
returns-clause-owners c = λ line owner law.
    let i = c.self.inside in
    ap (λ (site : ChipSide). owns site.chip site.side line) c.on_request-done.ensures.side
    ∙ owns-after_snoop i.snooper.chip i.tile i.snooper.side i.delivered c.args.q c.self.invariant.fits.side
    (subst (λ (node : Node). OwnRequestFits node.tile node.side c.args.q) (sym c.self.view_is) c.requires.own) line owner
    (subst (λ (node : Node). owns node.chip node.side line ≡ is_tile node.tile owner) (sym c.self.view_is) law)
