use Rattle.std.proofs.Common.{refl, sym, ◌∙◌, ap, subst, slice_get}
use Rattle.std.specs.Prelude.{IsSome}
use Rattle.chip_model.specs.Chip.{set_number}
use Rattle.chip_model.specs.Cache.{lookup, has_room, installed, without_line, without_shared, lowest_for}
use Rattle.chip_model.specs.Misses.{wanted, marked_sent}
use Rattle.chip_model.specs.Snoop.{holding, after_snoop, after_data}
use Rattle.chip_model.specs.Records.{answered, back_arrived}
use Rattle.chip_model.specs.Node.{node_after_access, node_after_request, node_after_message, after_request_sent, after_message_sent}
use Rattle.chip_model.specs.Units.{UnitState, core_event, in_order}
use Rattle.machine_tests.specs.UnitRows.{sent}
use Rattle.machine_tests.proofs.Trials.{takes_request, after_request}
use Rattle.machine_tests.proofs.units.ordered.Goals as goal

pub deliver-requires : goal.deliver-requires
deliver-requires c =
    let may = takes_request c.its_request.result c.in_ok-unit.unit c.its_request.ensures c.in_ok-unit.ensures in
    record { source = may.source; line = may.line; count = may.count; own = may.own; list = may.list; waiting = may.waiting; room = may.room; steps = may.steps }

pub drop_out-requires : goal.drop_out-requires
unfolding set_number lookup has_room installed without_line without_shared lowest_for wanted marked_sent holding after_snoop after_data answered back_arrived node_after_access node_after_request node_after_message after_request_sent after_message_sent core_event in_order
drop_out-requires c =
    let is = after_request c.its_request.result c.in_ok-unit.unit c.deliver.new.self c.deliver.result c.its_request.ensures c.in_ok-unit.ensures c.deliver.ensures in
    subst (λ (u : UnitState). IsSome (slice_get u.node.out 0)) (sym is) refl

pub returns : goal.returns
returns c =
    let is = after_request c.its_request.result c.in_ok-unit.unit c.deliver.new.self c.deliver.result c.its_request.ensures c.in_ok-unit.ensures c.deliver.ensures in
    c.drop_out.ensures ∙ ap sent is
