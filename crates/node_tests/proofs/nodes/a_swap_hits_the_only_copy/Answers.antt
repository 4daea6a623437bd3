use Rattle.std.proofs.Common.{◌≡◌, ◌<◌, ◌*◌, sym, subst, lit<}
use Rattle.chip_model.specs.Chip.{set_number}
use Rattle.chip_model.specs.Cache.{lookup, has_room, installed, without_line, without_shared, lowest_for}
use Rattle.chip_model.specs.Misses.{wanted, marked_sent}
use Rattle.chip_model.specs.Snoop.{holding, after_snoop, after_data}
use Rattle.chip_model.specs.Records.{answered, back_arrived}
use Rattle.chip_model.specs.Node.{Node, node_after_access, node_after_request, node_after_message, after_request_sent, after_message_sent}
use Rattle.chip_model.specs.NodeRows.{modified}
use Rattle.node_tests.proofs.nodes.a_swap_hits_the_only_copy.Goals as goal

pub access-requires : goal.access-requires
unfolding set_number lookup has_room installed without_line without_shared lowest_for wanted marked_sent holding after_snoop after_data answered back_arrived node_after_access node_after_request node_after_message after_request_sent after_message_sent
access-requires g c =
    let n0 : Node = modified in
    let e0 : c.in_ok-node.node ≡ n0 = c.in_ok-node.ensures in
    subst (λ (n : Node). 0 < 4 * n.chip.lines) (sym e0) (lit< tt)
