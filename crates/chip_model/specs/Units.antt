-- A unit: a core over a node. How it steps, and what it makes of deliveries and data, is its behaviour; that of in-order
-- cores stands here.
use Rattle.std.specs.Prelude.{ℕ, Bool, true, false, not, ◌||◌, List, [], Option, Some, None, is_some, option_map, unwrap_or, if◌then◌else◌}
use Rattle.mesh_gen.specs.declared.request.Request.{Request}
use Rattle.mesh_gen.specs.declared.msg.Msg.{Msg}
use Rattle.mesh_gen.specs.Partial.{when}
use Rattle.core_isa.specs.declared.instr.Instr.{Instr}
use Rattle.core_isa.specs.Core.{CoreState, new_core, Effect, Becomes, Loads, Stores, Swaps, Adds, Halts, effect_of, instr_at, loaded, stored}
use Rattle.report_text.specs.declared.access.Access.{Access}
use Rattle.report_text.specs.declared.access.AccessKind.{AccessKind}
use Rattle.report_text.specs.declared.access.AccessKind.TheVariants.{Load, Store, Swap, Add}
use Rattle.report_text.specs.Accesses.{reads, read_by}
use Rattle.chip_model.specs.declared.done.Done.{Done}
use Rattle.chip_model.specs.declared.pending.Pending.{Pending}
use Rattle.chip_model.specs.Chip.{Chip, address_in}
use Rattle.chip_model.specs.Node.{Node, Performed, opening_node, has_entry, node_after_access, node_after_request, node_after_message}

-- a store that was done and is not performed yet: how many instructions its core had done before, address and value
pub record BufferedStore : Type 0 where
  pub number : ℕ
  pub address : ℕ
  pub value : ℕ

-- a node, a program and its core, whether a core event has halted the core, and its buffered stores, the oldest first
pub record UnitState : Type 0 where
  pub node : Node
  pub program : List Instr
  pub core : CoreState
  pub halted : Bool
  pub buffered : List BufferedStore

-- a unit before any event
abbrev pub opening_unit : Chip → ℕ → List Instr → List ℕ → UnitState
opening_unit chip tile program memory = record {
  node = opening_node chip tile memory;
  program = program;
  core = new_core tile;
  halted = false;
  buffered = [];
}

-- what a unit becomes, and the access that it performs
abbrev pub Acted : Type 0
Acted = UnitState × Option Access

-- whether a core event is possible, and what it does; what the delivery of a request and the arrival of a message do
pub record Behaviour : Type 0 where
  pub ready : UnitState → Bool
  pub stepped : UnitState → Acted
  pub delivered : Request → UnitState → Acted
  pub received : Msg → UnitState → Acted

-- In-order cores.

-- the core after an access: one that reads gives it the word that was there
abbrev pub core_after : List Instr → Access → CoreState → CoreState
core_after program access core = if reads access.kind then loaded program (read_by access) core else stored core

-- the access of a unit's core that its node performed
abbrev pub access_of : UnitState → Done → Access
access_of unit done = record {
  tile = unit.node.tile;
  number = unit.core.steps;
  kind = done.kind;
  address = done.address;
  value = done.value;
  time = done.time;
  old = done.old;
}

-- the unit with what its node became, and where an access was performed with the core after it
abbrev pub performed : UnitState → Performed → Acted
performed unit (node, None) = (record unit { node = node }, None)
performed unit (node, Some done) =
    let access = access_of unit done in
    (record unit { node = node; core = core_after unit.program access unit.core }, Some access)

-- the unit tries an access at an address of its chip
abbrev pub access_tried : UnitState → AccessKind → ℕ → ℕ → Option Acted
access_tried unit kind sum value =
    let access : Pending = record { kind = kind; address = address_in unit.node.chip sum; value = value } in
    option_map (performed unit) (node_after_access access unit.node)

-- the effect of the next instruction
abbrev pub executed : UnitState → Effect → Option Acted
executed unit (Becomes core) = Some (record unit { core = core }, None)
executed unit (Loads register sum) = access_tried unit Load sum 0
executed unit (Stores sum value) = access_tried unit Store sum value
executed unit (Swaps register sum value) = access_tried unit Swap sum value
executed unit (Adds register sum value) = access_tried unit Add sum value
executed unit Halts = Some (record unit { halted = true }, None)

-- a core event: none where the core has halted or waits for words, where the access would miss on the line that is
-- written back, or where a write-back would have to wait
unfoldable pub core_event : UnitState → Option Acted
core_event unit =
    when (not (unit.halted || has_entry unit.node)) (executed unit (effect_of (instr_at unit.program unit.core.place) unit.core))

-- in-order cores
unfoldable pub in_order : Behaviour
in_order = record {
  ready = λ unit. is_some (core_event unit);
  stepped = λ unit. unwrap_or (core_event unit) (unit, None);
  delivered = λ q unit. performed unit (node_after_request q unit.node);
  received = λ msg unit. performed unit (node_after_message msg unit.node);
}
