use Rattle.std.proofs.Common.{◌≡◌, ◌<◌, ◌*◌, refl, sym, ◌∙◌, ap, subst, lit<}
use Rattle.std.specs.Prelude.{IsSome}
use Rattle.report_text.specs.declared.access.AccessKind.TheVariants.{Load}
use Rattle.chip_model.specs.Chip.{set_number}
use Rattle.chip_model.specs.Cache.{lookup, has_room, installed, without_line, without_shared, lowest_for}
use Rattle.chip_model.specs.Misses.{wanted, marked_sent}
use Rattle.chip_model.specs.Snoop.{holding, after_snoop, after_data}
use Rattle.chip_model.specs.Records.{answered, back_arrived}
use Rattle.chip_model.specs.Node.{Node, node_after_access, node_after_request, node_after_message, after_request_sent, after_message_sent}
use Rattle.chip_model.specs.NodeRows.{access, modified}
use Rattle.node_tests.proofs.Trials.{started_by, after_access}
use Rattle.node_tests.proofs.nodes.writing_back.Goals as goal

pub access-requires : goal.access-requires
unfolding set_number lookup has_room installed without_line without_shared lowest_for wanted marked_sent holding after_snoop after_data answered back_arrived node_after_access node_after_request node_after_message after_request_sent after_message_sent
access-requires c =
    let n0 : Node = modified in
    let e0 : c.in_ok-node.node ≡ n0 = c.in_ok-node.ensures in
    subst (λ (n : Node). 4 < 4 * n.chip.lines) (sym e0) (lit< tt)

pub mark_sent-requires : goal.mark_sent-requires
unfolding set_number lookup has_room installed without_line without_shared lowest_for wanted marked_sent holding after_snoop after_data answered back_arrived node_after_access node_after_request node_after_message after_request_sent after_message_sent
mark_sent-requires c =
    let n0 : Node = modified in
    let e0 : c.in_ok-node.node ≡ n0 = c.in_ok-node.ensures in
    let n1 : Node = started_by n0 (node_after_access (access Load 4 0) n0) in
    let e1 : c.access.new.self ≡ n1 = after_access c.access.result Load 4 0 c.in_ok-node.node n0 c.access.new.self e0 refl c.access.ensures.ok c.access.ensures.err in
    subst (λ (n : Node). IsSome (wanted n.side.misses)) (sym e1) refl

pub returns : goal.returns
unfolding set_number lookup has_room installed without_line without_shared lowest_for wanted marked_sent holding after_snoop after_data answered back_arrived node_after_access node_after_request node_after_message after_request_sent after_message_sent
returns c =
    let n0 : Node = modified in
    let e0 : c.in_ok-node.node ≡ n0 = c.in_ok-node.ensures in
    let n1 : Node = started_by n0 (node_after_access (access Load 4 0) n0) in
    let e1 : c.access.new.self ≡ n1 = after_access c.access.result Load 4 0 c.in_ok-node.node n0 c.access.new.self e0 refl c.access.ensures.ok c.access.ensures.err in
    let n2 : Node = after_request_sent n1 in
    let e2 : c.mark_sent.new.self ≡ n2 = c.mark_sent.ensures.sent ∙ ap after_request_sent e1 in
    e2
