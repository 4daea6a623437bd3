use Rattle.std.proofs.Common.{◌≡◌, refl, sym, ◌∙◌, ap, subst, replicate, [], ◌∷◌}
use Rattle.std.specs.Prelude.{IsSome, slice_get}
use Rattle.mesh_gen.specs.declared.kind.Kind.TheVariants.{GetS, GetM, PutM}
use Rattle.mesh_gen.specs.declared.msg.Msg.{Msg}
use Rattle.mesh_gen.specs.declared.msg_kind.MsgKind.TheVariants.{Back}
use Rattle.chip_model.specs.Chip.{set_number}
use Rattle.chip_model.specs.Cache.{lookup, has_room, installed, without_line, without_shared, lowest_for}
use Rattle.chip_model.specs.Misses.{wanted, marked_sent}
use Rattle.chip_model.specs.Snoop.{holding, after_snoop, after_data}
use Rattle.chip_model.specs.Records.{answered, back_arrived}
use Rattle.chip_model.specs.Node.{Node, opening_node, node_after_access, node_after_request, node_after_message, after_request_sent, after_message_sent}
use Rattle.chip_model.specs.NodeRows.{request_for_line, four_tiles}
use Rattle.node_tests.proofs.Trials.{may_take, may_come, after_request}
use Rattle.node_tests.proofs.nodes.words_that_come_back_serve_all_that_wait.Goals as goal

pub on_request-requires : goal.on_request-requires
unfolding set_number lookup has_room installed without_line without_shared lowest_for wanted marked_sent holding after_snoop after_data answered back_arrived node_after_access node_after_request node_after_message after_request_sent after_message_sent
on_request-requires g c =
    let n0 : Node = opening_node (four_tiles 3) 3 (replicate 64 0) in
    let e0 : c.in_ok-node.node ≡ n0 = c.in_ok-node.ensures in
    let may = may_take c.request_of.result (request_for_line 0 0 0 GetM) c.in_ok-node.node n0 c.request_of.ensures e0
    (record { source = refl; line = refl; count = refl; own = refl; list = refl; waiting = refl; room = refl }) in
    record { source = may.source; line = may.line; count = may.count; own = may.own; list = may.list; waiting = may.waiting; room = may.room }

pub drop_out-requires : goal.drop_out-requires
unfolding set_number lookup has_room installed without_line without_shared lowest_for wanted marked_sent holding after_snoop after_data answered back_arrived node_after_access node_after_request node_after_message after_request_sent after_message_sent
drop_out-requires g c =
    let n0 : Node = opening_node (four_tiles 3) 3 (replicate 64 0) in
    let e0 : c.in_ok-node.node ≡ n0 = c.in_ok-node.ensures in
    let n1 : Node = (node_after_request (request_for_line 0 0 0 GetM) n0).0 in
    let e1 : c.on_request.new.self ≡ n1 = after_request c.request_of.result (request_for_line 0 0 0 GetM) c.in_ok-node.node n0 c.on_request.new.self c.request_of.ensures e0 c.on_request.ensures.node in
    subst (λ (n : Node). IsSome (slice_get n.out 0)) (sym e1) refl

pub on_request-requires-2 : goal.on_request-requires-2
unfolding set_number lookup has_room installed without_line without_shared lowest_for wanted marked_sent holding after_snoop after_data answered back_arrived node_after_access node_after_request node_after_message after_request_sent after_message_sent
on_request-requires-2 g c =
    let n0 : Node = opening_node (four_tiles 3) 3 (replicate 64 0) in
    let e0 : c.in_ok-node.node ≡ n0 = c.in_ok-node.ensures in
    let n1 : Node = (node_after_request (request_for_line 0 0 0 GetM) n0).0 in
    let e1 : c.on_request.new.self ≡ n1 = after_request c.request_of.result (request_for_line 0 0 0 GetM) c.in_ok-node.node n0 c.on_request.new.self c.request_of.ensures e0 c.on_request.ensures.node in
    let n2 : Node = after_message_sent n1 in
    let e2 : c.drop_out.new.self ≡ n2 = c.drop_out.ensures ∙ ap after_message_sent e1 in
    let may = may_take c.request_of-2.result (request_for_line 0 0 1 PutM) c.drop_out.new.self n2 c.request_of-2.ensures e2
    (record { source = refl; line = refl; count = refl; own = refl; list = refl; waiting = refl; room = refl }) in
    record { source = may.source; line = may.line; count = may.count; own = may.own; list = may.list; waiting = may.waiting; room = may.room }

pub on_request-requires-3 : goal.on_request-requires-3
unfolding set_number lookup has_room installed without_line without_shared lowest_for wanted marked_sent holding after_snoop after_data answered back_arrived node_after_access node_after_request node_after_message after_request_sent after_message_sent
on_request-requires-3 g c =
    let n0 : Node = opening_node (four_tiles 3) 3 (replicate 64 0) in
    let e0 : c.in_ok-node.node ≡ n0 = c.in_ok-node.ensures in
    let n1 : Node = (node_after_request (request_for_line 0 0 0 GetM) n0).0 in
    let e1 : c.on_request.new.self ≡ n1 = after_request c.request_of.result (request_for_line 0 0 0 GetM) c.in_ok-node.node n0 c.on_request.new.self c.request_of.ensures e0 c.on_request.ensures.node in
    let n2 : Node = after_message_sent n1 in
    let e2 : c.drop_out.new.self ≡ n2 = c.drop_out.ensures ∙ ap after_message_sent e1 in
    let n3 : Node = (node_after_request (request_for_line 0 0 1 PutM) n2).0 in
    let e3 : c.on_request-2.new.self ≡ n3 = after_request c.request_of-2.result (request_for_line 0 0 1 PutM) c.drop_out.new.self n2 c.on_request-2.new.self c.request_of-2.ensures e2 c.on_request-2.ensures.node in
    let may = may_take c.request_of-3.result (request_for_line 0 1 0 GetS) c.on_request-2.new.self n3 c.request_of-3.ensures e3
    (record { source = refl; line = refl; count = refl; own = refl; list = refl; waiting = refl; room = refl }) in
    record { source = may.source; line = may.line; count = may.count; own = may.own; list = may.list; waiting = may.waiting; room = may.room }

pub on_request-requires-4 : goal.on_request-requires-4
unfolding set_number lookup has_room installed without_line without_shared lowest_for wanted marked_sent holding after_snoop after_data answered back_arrived node_after_access node_after_request node_after_message after_request_sent after_message_sent
on_request-requires-4 g c =
    let n0 : Node = opening_node (four_tiles 3) 3 (replicate 64 0) in
    let e0 : c.in_ok-node.node ≡ n0 = c.in_ok-node.ensures in
    let n1 : Node = (node_after_request (request_for_line 0 0 0 GetM) n0).0 in
    let e1 : c.on_request.new.self ≡ n1 = after_request c.request_of.result (request_for_line 0 0 0 GetM) c.in_ok-node.node n0 c.on_request.new.self c.request_of.ensures e0 c.on_request.ensures.node in
    let n2 : Node = after_message_sent n1 in
    let e2 : c.drop_out.new.self ≡ n2 = c.drop_out.ensures ∙ ap after_message_sent e1 in
    let n3 : Node = (node_after_request (request_for_line 0 0 1 PutM) n2).0 in
    let e3 : c.on_request-2.new.self ≡ n3 = after_request c.request_of-2.result (request_for_line 0 0 1 PutM) c.drop_out.new.self n2 c.on_request-2.new.self c.request_of-2.ensures e2 c.on_request-2.ensures.node in
    let n4 : Node = (node_after_request (request_for_line 0 1 0 GetS) n3).0 in
    let e4 : c.on_request-3.new.self ≡ n4 = after_request c.request_of-3.result (request_for_line 0 1 0 GetS) c.on_request-2.new.self n3 c.on_request-3.new.self c.request_of-3.ensures e3 c.on_request-3.ensures.node in
    let may = may_take c.request_of-4.result (request_for_line 0 2 0 GetM) c.on_request-3.new.self n4 c.request_of-4.ensures e4
    (record { source = refl; line = refl; count = refl; own = refl; list = refl; waiting = refl; room = refl }) in
    record { source = may.source; line = may.line; count = may.count; own = may.own; list = may.list; waiting = may.waiting; room = may.room }

pub on_data-requires : goal.on_data-requires
unfolding set_number lookup has_room installed without_line without_shared lowest_for wanted marked_sent holding after_snoop after_data answered back_arrived node_after_access node_after_request node_after_message after_request_sent after_message_sent
on_data-requires g c =
    let n0 : Node = opening_node (four_tiles 3) 3 (replicate 64 0) in
    let e0 : c.in_ok-node.node ≡ n0 = c.in_ok-node.ensures in
    let n1 : Node = (node_after_request (request_for_line 0 0 0 GetM) n0).0 in
    let e1 : c.on_request.new.self ≡ n1 = after_request c.request_of.result (request_for_line 0 0 0 GetM) c.in_ok-node.node n0 c.on_request.new.self c.request_of.ensures e0 c.on_request.ensures.node in
    let n2 : Node = after_message_sent n1 in
    let e2 : c.drop_out.new.self ≡ n2 = c.drop_out.ensures ∙ ap after_message_sent e1 in
    let n3 : Node = (node_after_request (request_for_line 0 0 1 PutM) n2).0 in
    let e3 : c.on_request-2.new.self ≡ n3 = after_request c.request_of-2.result (request_for_line 0 0 1 PutM) c.drop_out.new.self n2 c.on_request-2.new.self c.request_of-2.ensures e2 c.on_request-2.ensures.node in
    let n4 : Node = (node_after_request (request_for_line 0 1 0 GetS) n3).0 in
    let e4 : c.on_request-3.new.self ≡ n4 = after_request c.request_of-3.result (request_for_line 0 1 0 GetS) c.on_request-2.new.self n3 c.on_request-3.new.self c.request_of-3.ensures e3 c.on_request-3.ensures.node in
    let n5 : Node = (node_after_request (request_for_line 0 2 0 GetM) n4).0 in
    let e5 : c.on_request-4.new.self ≡ n5 = after_request c.request_of-4.result (request_for_line 0 2 0 GetM) c.on_request-3.new.self n4 c.on_request-4.new.self c.request_of-4.ensures e4 c.on_request-4.ensures.node in
    let msg : Msg = (record { to = 3; kind = Back; line = 0; words = (5 ∷ 2 ∷ 3 ∷ 4 ∷ []) }) in
    let may = may_come c.words_back.result msg c.on_request-4.new.self n5 c.words_back.ensures e5 (record { line = refl; awaited = refl; home = refl; room = refl }) in
    record { line = may.line; awaited = may.awaited; home = may.home; room = may.room }
