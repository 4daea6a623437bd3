use Rattle.std.proofs.Common.{◌≡◌, ◌<◌, ◌*◌, refl, sym, subst, lit<, [], ◌∷◌}
use Rattle.mesh_gen.specs.declared.kind.Kind.TheVariants.{GetS}
use Rattle.mesh_gen.specs.declared.msg.Msg.{Msg}
use Rattle.chip_model.specs.Chip.{set_number}
use Rattle.chip_model.specs.Cache.{lookup, has_room, installed, without_line, without_shared, lowest_for}
use Rattle.chip_model.specs.Misses.{wanted, marked_sent}
use Rattle.chip_model.specs.Snoop.{holding, after_snoop, after_data, data_to}
use Rattle.chip_model.specs.Records.{answered, back_arrived}
use Rattle.chip_model.specs.Node.{Node, node_after_access, node_after_request, node_after_message, after_request_sent, after_message_sent}
use Rattle.chip_model.specs.NodeRows.{request_for_line, waiting_load}
use Rattle.node_tests.proofs.Trials.{may_take, may_come, after_request, after_message}
use Rattle.node_tests.proofs.nodes.words_that_come_early_wait.Goals as goal

pub on_data-requires : goal.on_data-requires
unfolding set_number lookup has_room installed without_line without_shared lowest_for wanted marked_sent holding after_snoop after_data answered back_arrived node_after_access node_after_request node_after_message after_request_sent after_message_sent
on_data-requires g c =
    let n0 : Node = waiting_load in
    let e0 : c.in_ok-node.node ≡ n0 = c.in_ok-node.ensures in
    let msg : Msg = (data_to 1 0 (7 ∷ 0 ∷ 0 ∷ 0 ∷ [])) in
    let may = may_come c.words_for.result msg c.in_ok-node.node n0 c.words_for.ensures e0 (record { line = refl; awaited = refl; home = refl; room = refl }) in
    record { line = may.line; awaited = may.awaited; home = may.home; room = may.room }

pub on_request-requires : goal.on_request-requires
unfolding set_number lookup has_room installed without_line without_shared lowest_for wanted marked_sent holding after_snoop after_data answered back_arrived node_after_access node_after_request node_after_message after_request_sent after_message_sent
on_request-requires g c =
    let n0 : Node = waiting_load in
    let e0 : c.in_ok-node.node ≡ n0 = c.in_ok-node.ensures in
    let m1 : Msg = (data_to 1 0 (7 ∷ 0 ∷ 0 ∷ 0 ∷ [])) in
    let n1 : Node = (node_after_message m1 n0).0 in
    let e1 : c.on_data.new.self ≡ n1 = after_message c.words_for.result m1 c.in_ok-node.node n0 c.on_data.new.self c.words_for.ensures e0 c.on_data.ensures.node in
    let may = may_take c.request_of.result (request_for_line 0 1 0 GetS) c.on_data.new.self n1 c.request_of.ensures e1
    (record { source = refl; line = refl; count = refl; own = refl; list = refl; waiting = refl; room = refl }) in
    record { source = may.source; line = may.line; count = may.count; own = may.own; list = may.list; waiting = may.waiting; room = may.room }

pub access-requires : goal.access-requires
unfolding set_number lookup has_room installed without_line without_shared lowest_for wanted marked_sent holding after_snoop after_data answered back_arrived node_after_access node_after_request node_after_message after_request_sent after_message_sent
access-requires g c =
    let n0 : Node = waiting_load in
    let e0 : c.in_ok-node.node ≡ n0 = c.in_ok-node.ensures in
    let m1 : Msg = (data_to 1 0 (7 ∷ 0 ∷ 0 ∷ 0 ∷ [])) in
    let n1 : Node = (node_after_message m1 n0).0 in
    let e1 : c.on_data.new.self ≡ n1 = after_message c.words_for.result m1 c.in_ok-node.node n0 c.on_data.new.self c.words_for.ensures e0 c.on_data.ensures.node in
    let n2 : Node = (node_after_request (request_for_line 0 1 0 GetS) n1).0 in
    let e2 : c.on_request.new.self ≡ n2 = after_request c.request_of.result (request_for_line 0 1 0 GetS) c.on_data.new.self n1 c.on_request.new.self c.request_of.ensures e1 c.on_request.ensures.node in
    subst (λ (n : Node). 0 < 4 * n.chip.lines) (sym e2) (lit< tt)
