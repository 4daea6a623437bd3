use Rattle.std.proofs.Common.{◌≡◌, refl, sym, ◌∙◌, ap, subst, [], ◌∷◌}
use Rattle.std.specs.Prelude.{IsSome, slice_get}
use Rattle.mesh_gen.specs.declared.kind.Kind.TheVariants.{GetM}
use Rattle.mesh_gen.specs.declared.msg.Msg.{Msg}
use Rattle.chip_model.specs.Chip.{set_number}
use Rattle.chip_model.specs.Cache.{lookup, has_room, installed, without_line, without_shared, lowest_for}
use Rattle.chip_model.specs.Misses.{wanted, marked_sent}
use Rattle.chip_model.specs.Snoop.{holding, after_snoop, after_data, data_to}
use Rattle.chip_model.specs.Records.{answered, back_arrived}
use Rattle.chip_model.specs.Node.{Node, node_after_access, node_after_request, node_after_message, after_request_sent, after_message_sent}
use Rattle.chip_model.specs.NodeRows.{request_for_line, storing_and_read}
use Rattle.node_tests.proofs.Trials.{may_take, may_come, after_request, after_message}
use Rattle.node_tests.proofs.nodes.words_go_on_to_all_that_wait.Goals as goal

pub on_request-requires : goal.on_request-requires
unfolding set_number lookup has_room installed without_line without_shared lowest_for wanted marked_sent holding after_snoop after_data answered back_arrived node_after_access node_after_request node_after_message after_request_sent after_message_sent
on_request-requires g c =
    let n0 : Node = storing_and_read in
    let e0 : c.in_ok-node.node ≡ n0 = c.in_ok-node.ensures in
    let may = may_take c.request_of.result (request_for_line 0 3 0 GetM) c.in_ok-node.node n0 c.request_of.ensures e0
    (record { source = refl; line = refl; count = refl; own = refl; list = refl; waiting = refl; room = refl }) in
    record { source = may.source; line = may.line; count = may.count; own = may.own; list = may.list; waiting = may.waiting; room = may.room }

pub on_data-requires : goal.on_data-requires
unfolding set_number lookup has_room installed without_line without_shared lowest_for wanted marked_sent holding after_snoop after_data answered back_arrived node_after_access node_after_request node_after_message after_request_sent after_message_sent
on_data-requires g c =
    let n0 : Node = storing_and_read in
    let e0 : c.in_ok-node.node ≡ n0 = c.in_ok-node.ensures in
    let n1 : Node = (node_after_request (request_for_line 0 3 0 GetM) n0).0 in
    let e1 : c.on_request.new.self ≡ n1 = after_request c.request_of.result (request_for_line 0 3 0 GetM) c.in_ok-node.node n0 c.on_request.new.self c.request_of.ensures e0 c.on_request.ensures.node in
    let msg : Msg = (data_to 0 0 (1 ∷ 2 ∷ 3 ∷ 4 ∷ [])) in
    let may = may_come c.words_for.result msg c.on_request.new.self n1 c.words_for.ensures e1 (record { line = refl; awaited = refl; home = refl; room = refl }) in
    record { line = may.line; awaited = may.awaited; home = may.home; room = may.room }

pub drop_out-requires : goal.drop_out-requires
unfolding set_number lookup has_room installed without_line without_shared lowest_for wanted marked_sent holding after_snoop after_data answered back_arrived node_after_access node_after_request node_after_message after_request_sent after_message_sent
drop_out-requires g c =
    let n0 : Node = storing_and_read in
    let e0 : c.in_ok-node.node ≡ n0 = c.in_ok-node.ensures in
    let n1 : Node = (node_after_request (request_for_line 0 3 0 GetM) n0).0 in
    let e1 : c.on_request.new.self ≡ n1 = after_request c.request_of.result (request_for_line 0 3 0 GetM) c.in_ok-node.node n0 c.on_request.new.self c.request_of.ensures e0 c.on_request.ensures.node in
    let m2 : Msg = (data_to 0 0 (1 ∷ 2 ∷ 3 ∷ 4 ∷ [])) in
    let n2 : Node = (node_after_message m2 n1).0 in
    let e2 : c.on_data.new.self ≡ n2 = after_message c.words_for.result m2 c.on_request.new.self n1 c.on_data.new.self c.words_for.ensures e1 c.on_data.ensures.node in
    subst (λ (n : Node). IsSome (slice_get n.out 0)) (sym e2) refl

pub drop_out-requires-2 : goal.drop_out-requires-2
unfolding set_number lookup has_room installed without_line without_shared lowest_for wanted marked_sent holding after_snoop after_data answered back_arrived node_after_access node_after_request node_after_message after_request_sent after_message_sent
drop_out-requires-2 g c =
    let n0 : Node = storing_and_read in
    let e0 : c.in_ok-node.node ≡ n0 = c.in_ok-node.ensures in
    let n1 : Node = (node_after_request (request_for_line 0 3 0 GetM) n0).0 in
    let e1 : c.on_request.new.self ≡ n1 = after_request c.request_of.result (request_for_line 0 3 0 GetM) c.in_ok-node.node n0 c.on_request.new.self c.request_of.ensures e0 c.on_request.ensures.node in
    let m2 : Msg = (data_to 0 0 (1 ∷ 2 ∷ 3 ∷ 4 ∷ [])) in
    let n2 : Node = (node_after_message m2 n1).0 in
    let e2 : c.on_data.new.self ≡ n2 = after_message c.words_for.result m2 c.on_request.new.self n1 c.on_data.new.self c.words_for.ensures e1 c.on_data.ensures.node in
    let n3 : Node = after_message_sent n2 in
    let e3 : c.drop_out.new.self ≡ n3 = c.drop_out.ensures ∙ ap after_message_sent e2 in
    subst (λ (n : Node). IsSome (slice_get n.out 0)) (sym e3) refl

pub drop_out-requires-3 : goal.drop_out-requires-3
unfolding set_number lookup has_room installed without_line without_shared lowest_for wanted marked_sent holding after_snoop after_data answered back_arrived node_after_access node_after_request node_after_message after_request_sent after_message_sent
drop_out-requires-3 g c =
    let n0 : Node = storing_and_read in
    let e0 : c.in_ok-node.node ≡ n0 = c.in_ok-node.ensures in
    let n1 : Node = (node_after_request (request_for_line 0 3 0 GetM) n0).0 in
    let e1 : c.on_request.new.self ≡ n1 = after_request c.request_of.result (request_for_line 0 3 0 GetM) c.in_ok-node.node n0 c.on_request.new.self c.request_of.ensures e0 c.on_request.ensures.node in
    let m2 : Msg = (data_to 0 0 (1 ∷ 2 ∷ 3 ∷ 4 ∷ [])) in
    let n2 : Node = (node_after_message m2 n1).0 in
    let e2 : c.on_data.new.self ≡ n2 = after_message c.words_for.result m2 c.on_request.new.self n1 c.on_data.new.self c.words_for.ensures e1 c.on_data.ensures.node in
    let n3 : Node = after_message_sent n2 in
    let e3 : c.drop_out.new.self ≡ n3 = c.drop_out.ensures ∙ ap after_message_sent e2 in
    let n4 : Node = after_message_sent n3 in
    let e4 : c.drop_out-2.new.self ≡ n4 = c.drop_out-2.ensures ∙ ap after_message_sent e3 in
    subst (λ (n : Node). IsSome (slice_get n.out 0)) (sym e4) refl
