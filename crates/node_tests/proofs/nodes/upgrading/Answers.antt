use Rattle.std.proofs.Common.{◌≡◌, ◌<◌, ◌*◌, refl, sym, ◌∙◌, ap, subst, lit<, [], ◌∷◌}
use Rattle.std.specs.Prelude.{IsSome, slice_get}
use Rattle.mesh_gen.specs.declared.msg.Msg.{Msg}
use Rattle.report_text.specs.declared.access.AccessKind.TheVariants.{Store}
use Rattle.chip_model.specs.Chip.{set_number}
use Rattle.chip_model.specs.Cache.{lookup, has_room, installed, without_line, without_shared, lowest_for}
use Rattle.chip_model.specs.Misses.{wanted, marked_sent}
use Rattle.chip_model.specs.Snoop.{holding, after_snoop, after_data, data_to}
use Rattle.chip_model.specs.Records.{answered, back_arrived}
use Rattle.chip_model.specs.Node.{Node, node_after_access, node_after_request, node_after_message, after_request_sent, after_message_sent}
use Rattle.chip_model.specs.NodeRows.{access, storing_and_read}
use Rattle.node_tests.proofs.Trials.{may_come, started_by, after_access, after_message}
use Rattle.node_tests.proofs.nodes.upgrading.Goals as goal

pub on_data-requires : goal.on_data-requires
unfolding set_number lookup has_room installed without_line without_shared lowest_for wanted marked_sent holding after_snoop after_data answered back_arrived node_after_access node_after_request node_after_message after_request_sent after_message_sent
on_data-requires c =
    let n0 : Node = storing_and_read in
    let e0 : c.in_ok-node.node ≡ n0 = c.in_ok-node.ensures in
    let msg : Msg = (data_to 0 0 (1 ∷ 2 ∷ 3 ∷ 4 ∷ [])) in
    let may = may_come c.words_for.result msg c.in_ok-node.node n0 c.words_for.ensures e0 (record { line = refl; awaited = refl; home = refl; room = refl }) in
    record { line = may.line; awaited = may.awaited; home = may.home; room = may.room }

pub drop_out-requires : goal.drop_out-requires
unfolding set_number lookup has_room installed without_line without_shared lowest_for wanted marked_sent holding after_snoop after_data answered back_arrived node_after_access node_after_request node_after_message after_request_sent after_message_sent
drop_out-requires c =
    let n0 : Node = storing_and_read in
    let e0 : c.in_ok-node.node ≡ n0 = c.in_ok-node.ensures in
    let m1 : Msg = (data_to 0 0 (1 ∷ 2 ∷ 3 ∷ 4 ∷ [])) in
    let n1 : Node = (node_after_message m1 n0).0 in
    let e1 : c.on_data.new.self ≡ n1 = after_message c.words_for.result m1 c.in_ok-node.node n0 c.on_data.new.self c.words_for.ensures e0 c.on_data.ensures.node in
    subst (λ (n : Node). IsSome (slice_get n.out 0)) (sym e1) refl

pub drop_out-requires-2 : goal.drop_out-requires-2
unfolding set_number lookup has_room installed without_line without_shared lowest_for wanted marked_sent holding after_snoop after_data answered back_arrived node_after_access node_after_request node_after_message after_request_sent after_message_sent
drop_out-requires-2 c =
    let n0 : Node = storing_and_read in
    let e0 : c.in_ok-node.node ≡ n0 = c.in_ok-node.ensures in
    let m1 : Msg = (data_to 0 0 (1 ∷ 2 ∷ 3 ∷ 4 ∷ [])) in
    let n1 : Node = (node_after_message m1 n0).0 in
    let e1 : c.on_data.new.self ≡ n1 = after_message c.words_for.result m1 c.in_ok-node.node n0 c.on_data.new.self c.words_for.ensures e0 c.on_data.ensures.node in
    let n2 : Node = after_message_sent n1 in
    let e2 : c.drop_out.new.self ≡ n2 = c.drop_out.ensures ∙ ap after_message_sent e1 in
    subst (λ (n : Node). IsSome (slice_get n.out 0)) (sym e2) refl

pub access-requires : goal.access-requires
unfolding set_number lookup has_room installed without_line without_shared lowest_for wanted marked_sent holding after_snoop after_data answered back_arrived node_after_access node_after_request node_after_message after_request_sent after_message_sent
access-requires c =
    let n0 : Node = storing_and_read in
    let e0 : c.in_ok-node.node ≡ n0 = c.in_ok-node.ensures in
    let m1 : Msg = (data_to 0 0 (1 ∷ 2 ∷ 3 ∷ 4 ∷ [])) in
    let n1 : Node = (node_after_message m1 n0).0 in
    let e1 : c.on_data.new.self ≡ n1 = after_message c.words_for.result m1 c.in_ok-node.node n0 c.on_data.new.self c.words_for.ensures e0 c.on_data.ensures.node in
    let n2 : Node = after_message_sent n1 in
    let e2 : c.drop_out.new.self ≡ n2 = c.drop_out.ensures ∙ ap after_message_sent e1 in
    let n3 : Node = after_message_sent n2 in
    let e3 : c.drop_out-2.new.self ≡ n3 = c.drop_out-2.ensures ∙ ap after_message_sent e2 in
    subst (λ (n : Node). 1 < 4 * n.chip.lines) (sym e3) (lit< tt)

pub mark_sent-requires : goal.mark_sent-requires
unfolding set_number lookup has_room installed without_line without_shared lowest_for wanted marked_sent holding after_snoop after_data answered back_arrived node_after_access node_after_request node_after_message after_request_sent after_message_sent
mark_sent-requires c =
    let n0 : Node = storing_and_read in
    let e0 : c.in_ok-node.node ≡ n0 = c.in_ok-node.ensures in
    let m1 : Msg = (data_to 0 0 (1 ∷ 2 ∷ 3 ∷ 4 ∷ [])) in
    let n1 : Node = (node_after_message m1 n0).0 in
    let e1 : c.on_data.new.self ≡ n1 = after_message c.words_for.result m1 c.in_ok-node.node n0 c.on_data.new.self c.words_for.ensures e0 c.on_data.ensures.node in
    let n2 : Node = after_message_sent n1 in
    let e2 : c.drop_out.new.self ≡ n2 = c.drop_out.ensures ∙ ap after_message_sent e1 in
    let n3 : Node = after_message_sent n2 in
    let e3 : c.drop_out-2.new.self ≡ n3 = c.drop_out-2.ensures ∙ ap after_message_sent e2 in
    let n4 : Node = started_by n3 (node_after_access (access Store 1 8) n3) in
    let e4 : c.access.new.self ≡ n4 = after_access c.access.result Store 1 8 c.drop_out-2.new.self n3 c.access.new.self e3 refl c.access.ensures.ok c.access.ensures.err in
    subst (λ (n : Node). IsSome (wanted n.side.misses)) (sym e4) refl

pub returns : goal.returns
unfolding set_number lookup has_room installed without_line without_shared lowest_for wanted marked_sent holding after_snoop after_data answered back_arrived node_after_access node_after_request node_after_message after_request_sent after_message_sent
returns c =
    let n0 : Node = storing_and_read in
    let e0 : c.in_ok-node.node ≡ n0 = c.in_ok-node.ensures in
    let m1 : Msg = (data_to 0 0 (1 ∷ 2 ∷ 3 ∷ 4 ∷ [])) in
    let n1 : Node = (node_after_message m1 n0).0 in
    let e1 : c.on_data.new.self ≡ n1 = after_message c.words_for.result m1 c.in_ok-node.node n0 c.on_data.new.self c.words_for.ensures e0 c.on_data.ensures.node in
    let n2 : Node = after_message_sent n1 in
    let e2 : c.drop_out.new.self ≡ n2 = c.drop_out.ensures ∙ ap after_message_sent e1 in
    let n3 : Node = after_message_sent n2 in
    let e3 : c.drop_out-2.new.self ≡ n3 = c.drop_out-2.ensures ∙ ap after_message_sent e2 in
    let n4 : Node = started_by n3 (node_after_access (access Store 1 8) n3) in
    let e4 : c.access.new.self ≡ n4 = after_access c.access.result Store 1 8 c.drop_out-2.new.self n3 c.access.new.self e3 refl c.access.ensures.ok c.access.ensures.err in
    let n5 : Node = after_request_sent n4 in
    let e5 : c.mark_sent.new.self ≡ n5 = c.mark_sent.ensures.sent ∙ ap after_request_sent e4 in
    e5
