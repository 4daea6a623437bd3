use Rattle.std.proofs.Common.{◌≡◌, refl}
use Rattle.mesh_gen.specs.declared.kind.Kind.TheVariants.{GetM}
use Rattle.chip_model.specs.Chip.{set_number}
use Rattle.chip_model.specs.Cache.{lookup, has_room, installed, without_line, without_shared, lowest_for}
use Rattle.chip_model.specs.Misses.{wanted, marked_sent}
use Rattle.chip_model.specs.Snoop.{holding, after_snoop, after_data}
use Rattle.chip_model.specs.Records.{answered, back_arrived}
use Rattle.chip_model.specs.Node.{Node, node_after_access, node_after_request, node_after_message, after_request_sent, after_message_sent}
use Rattle.chip_model.specs.NodeRows.{request_for_line, upgrading}
use Rattle.node_tests.proofs.Trials.{may_take}
use Rattle.node_tests.proofs.nodes.an_upgrade_completes_with_its_own_words.Goals as goal

pub on_request-requires : goal.on_request-requires
unfolding set_number lookup has_room installed without_line without_shared lowest_for wanted marked_sent holding after_snoop after_data answered back_arrived node_after_access node_after_request node_after_message after_request_sent after_message_sent
on_request-requires g c =
    let n0 : Node = upgrading in
    let e0 : c.in_ok-node.node ≡ n0 = c.in_ok-node.ensures in
    let may = may_take c.request_of.result (request_for_line 0 0 1 GetM) c.in_ok-node.node n0 c.request_of.ensures e0
    (record { source = refl; line = refl; count = refl; own = refl; list = refl; waiting = refl; room = refl }) in
    record { source = may.source; line = may.line; count = may.count; own = may.own; list = may.list; waiting = may.waiting; room = may.room }
