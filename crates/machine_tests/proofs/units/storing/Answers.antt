use Rattle.std.proofs.Common.{refl, sym, ◌∙◌, ap, subst}
use Rattle.std.specs.Prelude.{IsSome}
use Rattle.chip_model.specs.Chip.{set_number}
use Rattle.chip_model.specs.Cache.{lookup, has_room, installed, without_line, without_shared, lowest_for}
use Rattle.chip_model.specs.Misses.{wanted, marked_sent}
use Rattle.chip_model.specs.Snoop.{holding, after_snoop, after_data}
use Rattle.chip_model.specs.Records.{answered, back_arrived}
use Rattle.chip_model.specs.Node.{node_after_access, node_after_request, node_after_message, after_request_sent, after_message_sent}
use Rattle.chip_model.specs.Units.{UnitState, core_event, in_order}
use Rattle.machine_tests.specs.UnitRows.{opened, stepped, asked}
use Rattle.machine_tests.proofs.Trials.{after_step, few_steps}
use Rattle.machine_tests.proofs.units.storing.Goals as goal

pub core_step-requires-2 : goal.core_step-requires-2
unfolding set_number lookup has_room installed without_line without_shared lowest_for wanted marked_sent holding after_snoop after_data answered back_arrived node_after_access node_after_request node_after_message after_request_sent after_message_sent core_event in_order
core_step-requires-2 c =
    let e1 = after_step c.core_step.result c.in_ok-unit.unit opened c.core_step.new.self c.in_ok-unit.ensures refl c.core_step.ensures.ok c.core_step.ensures.err in
    record { steps = few_steps c.core_step.new.self (stepped opened) e1 refl }

pub mark_sent-requires : goal.mark_sent-requires
unfolding set_number lookup has_room installed without_line without_shared lowest_for wanted marked_sent holding after_snoop after_data answered back_arrived node_after_access node_after_request node_after_message after_request_sent after_message_sent core_event in_order
mark_sent-requires c =
    let e1 = after_step c.core_step.result c.in_ok-unit.unit opened c.core_step.new.self c.in_ok-unit.ensures refl c.core_step.ensures.ok c.core_step.ensures.err in
    let e2 = after_step c.core_step-2.result c.core_step.new.self (stepped opened) c.core_step-2.new.self e1 refl c.core_step-2.ensures.ok c.core_step-2.ensures.err in
    subst (λ (u : UnitState). IsSome (wanted u.node.side.misses)) (sym e2) refl

pub returns : goal.returns
unfolding set_number lookup has_room installed without_line without_shared lowest_for wanted marked_sent holding after_snoop after_data answered back_arrived node_after_access node_after_request node_after_message after_request_sent after_message_sent core_event in_order
returns c =
    let e1 = after_step c.core_step.result c.in_ok-unit.unit opened c.core_step.new.self c.in_ok-unit.ensures refl c.core_step.ensures.ok c.core_step.ensures.err in
    let e2 = after_step c.core_step-2.result c.core_step.new.self (stepped opened) c.core_step-2.new.self e1 refl c.core_step-2.ensures.ok c.core_step-2.ensures.err in
    c.mark_sent.ensures ∙ ap asked e2
