-- An in-order core counts one instruction at most by each step.
use Rattle.std.proofs.Common.{◌≡◌, ℕ, ◌+◌, ◌≤◌, Bool, true, false, not, ◌||◌, if◌then◌else◌, List, Option, Some, None, option_map, unwrap_or, le_refl, le-add_right}
use Rattle.mesh_gen.specs.declared.request.Request.{Request}
use Rattle.mesh_gen.specs.declared.msg.Msg.{Msg}
use Rattle.mesh_gen.specs.Partial.{when}
use Rattle.core_isa.specs.declared.instr.Instr.{Instr}
use Rattle.core_isa.specs.declared.instr.Instr.TheVariants.{Li, Add, Sub, Addi, Ld, St, Swap, Fadd, Beq, Bne, Jmp, Tid, Halt}
use Rattle.core_isa.specs.Core.{CoreState, Effect, Becomes, Loads, Stores, Swaps, Adds, Halts, effect_of, instr_at, received, loaded, stored}
use Rattle.report_text.specs.declared.access.Access.{Access}
use Rattle.report_text.specs.declared.access.AccessKind.{AccessKind}
use Rattle.report_text.specs.declared.access.AccessKind.TheVariants as kind
use Rattle.report_text.specs.Accesses.{reads, read_by}
use Rattle.chip_model.specs.declared.done.Done.{Done}
use Rattle.chip_model.specs.declared.pending.Pending.{Pending}
use Rattle.chip_model.specs.Chip.{address_in}
use Rattle.chip_model.specs.Node.{Node, Performed, node_after_access, node_after_request, node_after_message, has_entry}
use Rattle.chip_model.specs.Units.{UnitState, Acted, in_order, core_event, core_after, access_of, performed, access_tried, executed}
use Rattle.core_unit.specs.Counts.{CountsOne}

received_counts : (effect : Effect) (value : ℕ) (core : CoreState) → (received effect value core).steps ≤ core.steps + 1
received_counts (Becomes new) value core = le-add_right core.steps 1
received_counts (Loads register sum) value core = le_refl (core.steps + 1)
received_counts (Stores sum stored) value core = le-add_right core.steps 1
received_counts (Swaps register sum stored) value core = le_refl (core.steps + 1)
received_counts (Adds register sum stored) value core = le_refl (core.steps + 1)
received_counts Halts value core = le-add_right core.steps 1

after_counts : (program : List Instr) (access : Access) (core : CoreState) → (core_after program access core).steps ≤ core.steps + 1
unfolding loaded
after_counts program access core = by (reads access.kind)
  where
    by : (b : Bool) → (if b then loaded program (read_by access) core else stored core).steps ≤ core.steps + 1
    by true = received_counts (effect_of (instr_at program core.place) core) (read_by access) core
    by false = le_refl (core.steps + 1)

performed_counts : (unit : UnitState) (done : Performed) → (performed unit done).0.core.steps ≤ unit.core.steps + 1
performed_counts unit (node, None) = le-add_right unit.core.steps 1
performed_counts unit (node, Some done) = after_counts unit.program (access_of unit done) unit.core

-- whatever comes of an access that is tried
abbrev Counts : UnitState → Option Acted → Type 0
Counts unit o = (unwrap_or o (unit, None)).0.core.steps ≤ unit.core.steps + 1

tried_counts : (unit : UnitState) (o : Option Performed) → Counts unit (option_map (performed unit) o)
tried_counts unit None = le-add_right unit.core.steps 1
tried_counts unit (Some done) = performed_counts unit done

becomes_counts : (instr : Instr) (unit : UnitState) → Counts unit (executed unit (effect_of instr unit.core))
becomes_counts (Li rd n) unit = le_refl (unit.core.steps + 1)
becomes_counts (Add rd ra rb) unit = le_refl (unit.core.steps + 1)
becomes_counts (Sub rd ra rb) unit = le_refl (unit.core.steps + 1)
becomes_counts (Addi rd ra n) unit = le_refl (unit.core.steps + 1)
becomes_counts (Ld rd ra n) unit = tried_counts unit _
becomes_counts (St rs ra n) unit = tried_counts unit _
becomes_counts (Swap rd ra n) unit = tried_counts unit _
becomes_counts (Fadd rd ra n) unit = tried_counts unit _
becomes_counts (Beq ra rb target) unit = le_refl (unit.core.steps + 1)
becomes_counts (Bne ra rb target) unit = le_refl (unit.core.steps + 1)
becomes_counts (Jmp target) unit = le_refl (unit.core.steps + 1)
becomes_counts (Tid rd) unit = le_refl (unit.core.steps + 1)
becomes_counts Halt unit = le-add_right unit.core.steps 1

when_counts : (b : Bool) (unit : UnitState) (o : Option Acted) → Counts unit o → Counts unit (when b o)
when_counts true unit o h = h
when_counts false unit o h = le-add_right unit.core.steps 1

stepped_counts : (unit : UnitState) → Counts unit (core_event unit)
unfolding core_event
stepped_counts unit =
    when_counts (not (unit.halted || has_entry unit.node)) unit (executed unit (effect_of (instr_at unit.program unit.core.place) unit.core))
    (becomes_counts (instr_at unit.program unit.core.place) unit)

pub in_order_counts : CountsOne in_order
unfolding in_order
in_order_counts = record {
  stepped = stepped_counts;
  delivered = λ q unit. performed_counts unit (node_after_request q unit.node);
  received = λ msg unit. performed_counts unit (node_after_message msg unit.node);
}
