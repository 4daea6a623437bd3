use Rattle.std.proofs.Common.{◌≡◌, refl, [], ◌∷◌}
use Rattle.mesh_gen.specs.declared.kind.Kind.TheVariants.{GetS}
use Rattle.mesh_gen.specs.declared.msg.Msg.{Msg}
use Rattle.chip_model.specs.Chip.{set_number}
use Rattle.chip_model.specs.Cache.{lookup, has_room, installed, without_line, without_shared, lowest_for}
use Rattle.chip_model.specs.Misses.{wanted, marked_sent}
use Rattle.chip_model.specs.Snoop.{holding, after_snoop, after_data, data_to}
use Rattle.chip_model.specs.Records.{answered, back_arrived}
use Rattle.chip_model.specs.Node.{Node, node_after_access, node_after_request, node_after_message, after_request_sent, after_message_sent}
use Rattle.chip_model.specs.NodeRows.{request_for_line, written_back}
use Rattle.node_tests.proofs.Trials.{may_take, may_come, after_request}
use Rattle.node_tests.proofs.nodes.a_miss_beside_a_write_back_completes.Goals as goal

pub on_request-requires : goal.on_request-requires
unfolding set_number lookup has_room installed without_line without_shared lowest_for wanted marked_sent holding after_snoop after_data answered back_arrived node_after_access node_after_request node_after_message after_request_sent after_message_sent
on_request-requires g c =
    let n0 : Node = written_back in
    let e0 : c.in_ok-node.node ≡ n0 = c.in_ok-node.ensures in
    let may = may_take c.request_of.result (request_for_line 1 0 2 GetS) c.in_ok-node.node n0 c.request_of.ensures e0
    (record { source = refl; line = refl; count = refl; own = refl; list = refl; waiting = refl; room = refl }) in
    record { source = may.source; line = may.line; count = may.count; own = may.own; list = may.list; waiting = may.waiting; room = may.room }

pub on_data-requires : goal.on_data-requires
unfolding set_number lookup has_room installed without_line without_shared lowest_for wanted marked_sent holding after_snoop after_data answered back_arrived node_after_access node_after_request node_after_message after_request_sent after_message_sent
on_data-requires g c =
    let n0 : Node = written_back in
    let e0 : c.in_ok-node.node ≡ n0 = c.in_ok-node.ensures in
    let n1 : Node = (node_after_request (request_for_line 1 0 2 GetS) n0).0 in
    let e1 : c.on_request.new.self ≡ n1 = after_request c.request_of.result (request_for_line 1 0 2 GetS) c.in_ok-node.node n0 c.on_request.new.self c.request_of.ensures e0 c.on_request.ensures.node in
    let msg : Msg = (data_to 0 1 (6 ∷ 0 ∷ 0 ∷ 0 ∷ [])) in
    let may = may_come c.words_for.result msg c.on_request.new.self n1 c.words_for.ensures e1 (record { line = refl; awaited = refl; home = refl; room = refl }) in
    record { line = may.line; awaited = may.awaited; home = may.home; room = may.room }
