use Rattle.std.proofs.Common.{◌≡◌, ◌<◌, ◌*◌, refl, sym, ◌∙◌, ap, subst, lit<, replicate}
use Rattle.std.specs.Prelude.{IsSome}
use Rattle.report_text.specs.declared.access.AccessKind.TheVariants.{Store}
use Rattle.chip_model.specs.Chip.{set_number}
use Rattle.chip_model.specs.Cache.{lookup, has_room, installed, without_line, without_shared, lowest_for}
use Rattle.chip_model.specs.Misses.{wanted, marked_sent}
use Rattle.chip_model.specs.Snoop.{holding, after_snoop, after_data}
use Rattle.chip_model.specs.Records.{answered, back_arrived}
use Rattle.chip_model.specs.Node.{Node, opening_node, node_after_access, node_after_request, node_after_message, after_request_sent, after_message_sent}
use Rattle.chip_model.specs.NodeRows.{access, four_tiles}
use Rattle.node_tests.proofs.Trials.{started_by, after_access}
use Rattle.node_tests.proofs.nodes.a_store_asks_for_its_line.Goals as goal

pub can_access-requires : goal.can_access-requires
unfolding set_number lookup has_room installed without_line without_shared lowest_for wanted marked_sent holding after_snoop after_data answered back_arrived node_after_access node_after_request node_after_message after_request_sent after_message_sent
can_access-requires g c =
    let n0 : Node = opening_node (four_tiles 3) 0 (replicate 64 0) in
    let e0 : c.in_ok-node.node ≡ n0 = c.in_ok-node.ensures in
    subst (λ (n : Node). 0 < 4 * n.chip.lines) (sym e0) (lit< tt)

pub access-requires : goal.access-requires
unfolding set_number lookup has_room installed without_line without_shared lowest_for wanted marked_sent holding after_snoop after_data answered back_arrived node_after_access node_after_request node_after_message after_request_sent after_message_sent
access-requires g c =
    let n0 : Node = opening_node (four_tiles 3) 0 (replicate 64 0) in
    let e0 : c.in_ok-node.node ≡ n0 = c.in_ok-node.ensures in
    subst (λ (n : Node). 0 < 4 * n.chip.lines) (sym e0) (lit< tt)

pub mark_sent-requires : goal.mark_sent-requires
unfolding set_number lookup has_room installed without_line without_shared lowest_for wanted marked_sent holding after_snoop after_data answered back_arrived node_after_access node_after_request node_after_message after_request_sent after_message_sent
mark_sent-requires g c =
    let n0 : Node = opening_node (four_tiles 3) 0 (replicate 64 0) in
    let e0 : c.in_ok-node.node ≡ n0 = c.in_ok-node.ensures in
    let n1 : Node = started_by n0 (node_after_access (access Store 0 5) n0) in
    let e1 : c.access.new.self ≡ n1 = after_access c.access.result Store 0 5 c.in_ok-node.node n0 c.access.new.self e0 refl c.access.ensures.ok c.access.ensures.err in
    subst (λ (n : Node). IsSome (wanted n.side.misses)) (sym e1) refl

pub access-requires-2 : goal.access-requires-2
unfolding set_number lookup has_room installed without_line without_shared lowest_for wanted marked_sent holding after_snoop after_data answered back_arrived node_after_access node_after_request node_after_message after_request_sent after_message_sent
access-requires-2 g c =
    let n0 : Node = opening_node (four_tiles 3) 0 (replicate 64 0) in
    let e0 : c.in_ok-node.node ≡ n0 = c.in_ok-node.ensures in
    let n1 : Node = started_by n0 (node_after_access (access Store 0 5) n0) in
    let e1 : c.access.new.self ≡ n1 = after_access c.access.result Store 0 5 c.in_ok-node.node n0 c.access.new.self e0 refl c.access.ensures.ok c.access.ensures.err in
    let n2 : Node = after_request_sent n1 in
    let e2 : c.mark_sent.new.self ≡ n2 = c.mark_sent.ensures.sent ∙ ap after_request_sent e1 in
    subst (λ (n : Node). 0 < 4 * n.chip.lines) (sym e2) (lit< tt)
