use Rattle.std.proofs.Common.{◌≡◌, refl}
use Rattle.mesh_gen.specs.declared.kind.Kind.TheVariants.{GetS, GetM}
use Rattle.chip_model.specs.Chip.{set_number}
use Rattle.chip_model.specs.Cache.{lookup, has_room, installed, without_line, without_shared, lowest_for}
use Rattle.chip_model.specs.Misses.{wanted, marked_sent}
use Rattle.chip_model.specs.Snoop.{holding, after_snoop, after_data}
use Rattle.chip_model.specs.Records.{answered, back_arrived}
use Rattle.chip_model.specs.Node.{Node, node_after_access, node_after_request, node_after_message, after_request_sent, after_message_sent}
use Rattle.chip_model.specs.NodeRows.{request_for_line, storing}
use Rattle.node_tests.proofs.Trials.{may_take, after_request}
use Rattle.node_tests.proofs.nodes.storing_and_read.Goals as goal

pub on_request-requires : goal.on_request-requires
unfolding set_number lookup has_room installed without_line without_shared lowest_for wanted marked_sent holding after_snoop after_data answered back_arrived node_after_access node_after_request node_after_message after_request_sent after_message_sent
on_request-requires c =
    let n0 : Node = storing in
    let e0 : c.in_ok-node.node ≡ n0 = c.in_ok-node.ensures in
    let may = may_take c.request_of.result (request_for_line 0 0 0 GetM) c.in_ok-node.node n0 c.request_of.ensures e0
    (record { source = refl; line = refl; count = refl; own = refl; list = refl; waiting = refl; room = refl }) in
    record { source = may.source; line = may.line; count = may.count; own = may.own; list = may.list; waiting = may.waiting; room = may.room }

pub on_request-requires-2 : goal.on_request-requires-2
unfolding set_number lookup has_room installed without_line without_shared lowest_for wanted marked_sent holding after_snoop after_data answered back_arrived node_after_access node_after_request node_after_message after_request_sent after_message_sent
on_request-requires-2 c =
    let n0 : Node = storing in
    let e0 : c.in_ok-node.node ≡ n0 = c.in_ok-node.ensures in
    let n1 : Node = (node_after_request (request_for_line 0 0 0 GetM) n0).0 in
    let e1 : c.on_request.new.self ≡ n1 = after_request c.request_of.result (request_for_line 0 0 0 GetM) c.in_ok-node.node n0 c.on_request.new.self c.request_of.ensures e0 c.on_request.ensures.node in
    let may = may_take c.request_of-2.result (request_for_line 0 1 0 GetS) c.on_request.new.self n1 c.request_of-2.ensures e1
    (record { source = refl; line = refl; count = refl; own = refl; list = refl; waiting = refl; room = refl }) in
    record { source = may.source; line = may.line; count = may.count; own = may.own; list = may.list; waiting = may.waiting; room = may.room }

pub on_request-requires-3 : goal.on_request-requires-3
unfolding set_number lookup has_room installed without_line without_shared lowest_for wanted marked_sent holding after_snoop after_data answered back_arrived node_after_access node_after_request node_after_message after_request_sent after_message_sent
on_request-requires-3 c =
    let n0 : Node = storing in
    let e0 : c.in_ok-node.node ≡ n0 = c.in_ok-node.ensures in
    let n1 : Node = (node_after_request (request_for_line 0 0 0 GetM) n0).0 in
    let e1 : c.on_request.new.self ≡ n1 = after_request c.request_of.result (request_for_line 0 0 0 GetM) c.in_ok-node.node n0 c.on_request.new.self c.request_of.ensures e0 c.on_request.ensures.node in
    let n2 : Node = (node_after_request (request_for_line 0 1 0 GetS) n1).0 in
    let e2 : c.on_request-2.new.self ≡ n2 = after_request c.request_of-2.result (request_for_line 0 1 0 GetS) c.on_request.new.self n1 c.on_request-2.new.self c.request_of-2.ensures e1 c.on_request-2.ensures.node in
    let may = may_take c.request_of-3.result (request_for_line 0 2 0 GetS) c.on_request-2.new.self n2 c.request_of-3.ensures e2
    (record { source = refl; line = refl; count = refl; own = refl; list = refl; waiting = refl; room = refl }) in
    record { source = may.source; line = may.line; count = may.count; own = may.own; list = may.list; waiting = may.waiting; room = may.room }

pub returns : goal.returns
unfolding set_number lookup has_room installed without_line without_shared lowest_for wanted marked_sent holding after_snoop after_data answered back_arrived node_after_access node_after_request node_after_message after_request_sent after_message_sent
returns c =
    let n0 : Node = storing in
    let e0 : c.in_ok-node.node ≡ n0 = c.in_ok-node.ensures in
    let n1 : Node = (node_after_request (request_for_line 0 0 0 GetM) n0).0 in
    let e1 : c.on_request.new.self ≡ n1 = after_request c.request_of.result (request_for_line 0 0 0 GetM) c.in_ok-node.node n0 c.on_request.new.self c.request_of.ensures e0 c.on_request.ensures.node in
    let n2 : Node = (node_after_request (request_for_line 0 1 0 GetS) n1).0 in
    let e2 : c.on_request-2.new.self ≡ n2 = after_request c.request_of-2.result (request_for_line 0 1 0 GetS) c.on_request.new.self n1 c.on_request-2.new.self c.request_of-2.ensures e1 c.on_request-2.ensures.node in
    let n3 : Node = (node_after_request (request_for_line 0 2 0 GetS) n2).0 in
    let e3 : c.on_request-3.new.self ≡ n3 = after_request c.request_of-3.result (request_for_line 0 2 0 GetS) c.on_request-2.new.self n2 c.on_request-3.new.self c.request_of-3.ensures e2 c.on_request-3.ensures.node in
    e3
