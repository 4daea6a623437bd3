use Rattle.std.proofs.Common.{◌≤◌, length, sym, ◌∙◌, ap, subst}
use Rattle.chip_model.specs.Node.{Node, node_after_message}
use Rattle.chip_model.specs.Ownership.{owns}
use Rattle.snoop_core.specs.ChipSides.{ChipSide}
use Rattle.snoop_core.specs.Requests.{DataFits}
use Rattle.snoop_core.specs.Nodes.{NodeIsSound}
use Rattle.snoop_core.proofs.NodeSteps.{words_are, words_done, words_room, home_is, home_done, home_room}
use Rattle.snoop_core.proofs.Sound.{NodeIsSound-node_after_message}
use Rattle.snoop_core.proofs.OwnershipSteps.{owns-after_data}
use Rattle.snoop_core.proofs.node.Node.on_data.Goals as goal

pub on_data-requires-clause-room : goal.on_data-requires-clause-room
on_data-requires-clause-room c =
    let i = c.self.inside in
    words_room c.args.msg i.snooper i.tile i.controller i.out i.delivered 65 c.in-Data.is
    (subst (λ (node : Node). length (node_after_message c.args.msg node).0.out ≤ 65) (sym c.self.view_is) c.requires.room)

pub invariant_of-self : goal.invariant_of-self
invariant_of-self c =
    let i = c.self.inside in
    subst (λ (node : Node). NodeIsSound node)
    (sym (words_are c.args.msg i.snooper c.on_data.new.self i.tile i.controller i.out c.on_data.new.out i.delivered c.in-Data.is c.on_data.ensures.side c.on_data.ensures.sent))
    (NodeIsSound-node_after_message c.args.msg _ (subst (λ (node : Node). DataFits node.side c.args.msg) (sym c.self.view_is) c.requires.awaited) c.self.invariant)

pub on_back-requires : goal.on_back-requires
on_back-requires c =
    let i = c.self.inside in
    record {
      room = home_room c.args.msg i.snooper i.tile i.controller i.out i.delivered 65 c.in-Back.is
          (subst (λ (node : Node). length (node_after_message c.args.msg node).0.out ≤ 65) (sym c.self.view_is) c.requires.room);
    }

pub invariant_of-self-in-Back : goal.invariant_of-self-in-Back
invariant_of-self-in-Back c =
    let i = c.self.inside in
    subst (λ (node : Node). NodeIsSound node)
    (sym (home_is c.args.msg i.snooper i.tile i.controller c.on_back.new.self i.out c.on_back.new.out i.delivered c.in-Back.is c.on_back.ensures.records c.on_back.ensures.sent))
    (NodeIsSound-node_after_message c.args.msg _ (subst (λ (node : Node). DataFits node.side c.args.msg) (sym c.self.view_is) c.requires.awaited) c.self.invariant)

pub returns-in-Data-clause-node : goal.returns-in-Data-clause-node
returns-in-Data-clause-node c =
    let i = c.self.inside in
    words_are c.args.msg i.snooper c.on_data.new.self i.tile i.controller i.out c.on_data.new.out i.delivered c.in-Data.is c.on_data.ensures.side c.on_data.ensures.sent
    ∙ ap (λ (node : Node). (node_after_message c.args.msg node).0) c.self.view_is

pub returns-in-Data-clause-done : goal.returns-in-Data-clause-done
returns-in-Data-clause-done c =
    let i = c.self.inside in
    c.on_data.ensures.done
    ∙ words_done c.args.msg i.snooper i.tile i.controller i.out i.delivered c.in-Data.is
    ∙ ap (λ (node : Node). (node_after_message c.args.msg node).1) c.self.view_is

pub returns-in-Data-clause-owners : goal.returns-in-Data-clause-owners
returns-in-Data-clause-owners c = λ line.
    let i = c.self.inside in
    ap (λ (site : ChipSide). owns site.chip site.side line) c.on_data.ensures.side
    ∙ owns-after_data i.snooper.chip i.snooper.side c.args.msg.words line c.self.invariant.fits.side
    ∙ ap (λ (node : Node). owns node.chip node.side line) c.self.view_is

pub returns-in-Back-clause-node : goal.returns-in-Back-clause-node
returns-in-Back-clause-node c =
    let i = c.self.inside in
    home_is c.args.msg i.snooper i.tile i.controller c.on_back.new.self i.out c.on_back.new.out i.delivered c.in-Back.is c.on_back.ensures.records c.on_back.ensures.sent
    ∙ ap (λ (node : Node). (node_after_message c.args.msg node).0) c.self.view_is

pub returns-in-Back-clause-done : goal.returns-in-Back-clause-done
returns-in-Back-clause-done c = home_done c.args.msg c.args.self.now c.in-Back.is
