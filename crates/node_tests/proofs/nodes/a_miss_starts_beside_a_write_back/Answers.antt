use Rattle.std.proofs.Common.{◌≡◌, ◌<◌, ◌*◌, refl, sym, subst, lit<}
use Rattle.report_text.specs.declared.access.AccessKind.TheVariants.{Load}
use Rattle.chip_model.specs.Chip.{set_number}
use Rattle.chip_model.specs.Cache.{lookup, has_room, installed, without_line, without_shared, lowest_for}
use Rattle.chip_model.specs.Misses.{wanted, marked_sent}
use Rattle.chip_model.specs.Snoop.{holding, after_snoop, after_data}
use Rattle.chip_model.specs.Records.{answered, back_arrived}
use Rattle.chip_model.specs.Node.{Node, node_after_access, node_after_request, node_after_message, after_request_sent, after_message_sent}
use Rattle.chip_model.specs.NodeRows.{access, writing_back}
use Rattle.node_tests.proofs.Trials.{kept_by}
use Rattle.node_tests.proofs.nodes.a_miss_starts_beside_a_write_back.Goals as goal

pub access-requires : goal.access-requires
unfolding set_number lookup has_room installed without_line without_shared lowest_for wanted marked_sent holding after_snoop after_data answered back_arrived node_after_access node_after_request node_after_message after_request_sent after_message_sent
access-requires g c =
    let n0 : Node = writing_back in
    let e0 : c.in_ok-node.node ≡ n0 = c.in_ok-node.ensures in
    subst (λ (n : Node). 0 < 4 * n.chip.lines) (sym e0) (lit< tt)

pub access-requires-2 : goal.access-requires-2
unfolding set_number lookup has_room installed without_line without_shared lowest_for wanted marked_sent holding after_snoop after_data answered back_arrived node_after_access node_after_request node_after_message after_request_sent after_message_sent
access-requires-2 g c =
    let n0 : Node = writing_back in
    let e0 : c.in_ok-node.node ≡ n0 = c.in_ok-node.ensures in
    let n1 : Node = n0 in
    let e1 : c.access.new.self ≡ n1 = kept_by c.access.result Load 0 0 c.in_ok-node.node n0 c.access.new.self e0 refl c.access.ensures.ok c.access.ensures.kept in
    subst (λ (n : Node). 4 < 4 * n.chip.lines) (sym e1) (lit< tt)
