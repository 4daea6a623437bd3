-- The laws of a behaviour: what a core event, a delivery and data may do to a unit, whatever kind of core it has.
use Rattle.std.specs.Prelude.{◌≡◌, ◌⊎◌, ℕ, ◌*◌, ◌<◌, ◌≤◌, Bool, true, false, ◌||◌, List, [], ◌∷◌, ◌++◌, length, Option, Some, None, IfSome}
use Rattle.mesh_gen.specs.declared.request.Request.{Request}
use Rattle.mesh_gen.specs.declared.msg.Msg.{Msg}
use Rattle.core_isa.specs.declared.instr.Instr.{Instr}
use Rattle.report_text.specs.declared.access.Access.{Access}
use Rattle.report_text.specs.Accesses.{writes}
use Rattle.chip_model.specs.declared.done.Done.{Done}
use Rattle.chip_model.specs.declared.pending.Pending.{Pending}
use Rattle.chip_model.specs.Chip.{Chip}
use Rattle.chip_model.specs.Node.{Node, Performed, waits_for_any, holds_back, node_after_access, node_after_request, node_after_message, after_request_sent, after_message_sent}
use Rattle.chip_model.specs.Units.{UnitState, BufferedStore, Acted, Behaviour, access_of, opening_unit}
use Rattle.chip_model.specs.NodeShape.{IsCache}

-- the access of instruction number n that a unit's node performed
abbrev pub numbered : UnitState → Done → ℕ → Access
numbered unit done n = record (access_of unit done) { number = n }

-- an access is of the core's next instruction, which then counts, and is no write while stores are buffered; or it is the
-- oldest buffered store, which then leaves the buffer
pub record IsOfNext (old new : UnitState) (a : Access) : Type 0 where
  pub number : a.number ≡ old.core.steps
  pub counts : old.core.steps < new.core.steps
  pub buffered : new.buffered ≡ old.buffered
  pub writes_last : writes a.kind ≡ true → old.buffered ≡ []

-- an access is the oldest store of the buffer, which it leaves
pub record IsOldestStore (old new : UnitState) (a : Access) : Type 0 where
  pub store : BufferedStore
  pub buffered : old.buffered ≡ store ∷ new.buffered
  pub number : a.number ≡ store.number

-- an access of a core is its next one, or its oldest buffered store
abbrev pub IsOfCore : UnitState → UnitState → Access → Type 0
IsOfCore old new a = IsOfNext old new a ⊎ IsOldestStore old new a

-- a store enters the end of the buffer
pub record Buffers (old new : UnitState) : Type 0 where
  pub store : BufferedStore
  pub buffered : new.buffered ≡ old.buffered ++ store ∷ []
  pub number : store.number ≡ old.core.steps
  pub counts : old.core.steps < new.core.steps

-- what no step changes of a unit
pub record SameUnit (old new : UnitState) : Type 0 where
  pub program : new.program ≡ old.program
  pub tile : new.core.tile ≡ old.core.tile
  pub registers : length new.core.registers ≡ length old.core.registers
  pub steps : old.core.steps ≤ new.core.steps

-- the node performed an access, and the unit answers it as its own; or it performed none, and the unit answers none
abbrev pub Answers : UnitState → UnitState → Option Done → Option Access → Type 0
Answers old new None answer = (answer ≡ None) × ((new.buffered ≡ old.buffered) ⊎ Buffers old new)
Answers old new (Some done) answer = (n : ℕ) × (answer ≡ Some (numbered old done n)) × IsOfCore old new (numbered old done n)

-- a unit goes on with what a step of its node left
pub record GoesOn (unit : UnitState) (step : Performed) (acted : Acted) : Type 0 where
  pub same : SameUnit unit acted.0
  pub node : acted.0.node ≡ step.0
  pub answers : Answers unit acted.0 step.1 acted.1

-- a core event without the node: a read of a buffered store is no access of the node, and has the time of a hit, since no
-- demand of the core waits
pub record WorksAlone (unit : UnitState) (acted : Acted) : Type 0 where
  pub same : SameUnit unit acted.0
  pub node : acted.0.node ≡ unit.node
  pub no_demand : unit.node.side.misses.demand ≡ None
  pub reads : IfSome acted.1 (λ a. (writes a.kind ≡ false) × (a.tile ≡ unit.node.tile) × (a.time ≡ unit.node.delivered) × IsOfCore unit acted.0 a)
  pub buffers : acted.1 ≡ None → (acted.0.buffered ≡ unit.buffered) ⊎ Buffers unit acted.0

-- a core event that tries an access at the node
pub record TriesAccess (unit : UnitState) (acted : Acted) : Type 0 where
  pub access : Pending
  pub left : Performed
  pub address : access.address < 4 * unit.node.chip.lines
  pub tried : node_after_access access unit.node ≡ Some left
  pub goes_on : GoesOn unit left acted

-- a delivery or data: the node's step, and the core has not halted by it
pub record Receives (unit : UnitState) (step : Performed) (acted : Acted) : Type 0 where
  pub goes_on : GoesOn unit step acted
  pub halted : acted.0.halted ≡ unit.halted

-- each set of a node's cache has ways
pub record HasWays (node : Node) : Type 0 where
  pub cache : IsCache node.chip node.side.cache
  pub sets : 0 < node.chip.sets
  pub ways : 0 < node.chip.ways

-- a core event works alone, or tries an access
abbrev pub Works : UnitState → Acted → Type 0
Works unit acted = WorksAlone unit acted ⊎ TriesAccess unit acted

-- The laws are of the units that such cores come to: a new unit is one, and each step makes one of one.
pub record KeepsLaws (b : Behaviour) : Type 0 where
  pub fits : UnitState → Bool
  pub opened : (chip : Chip) (tile : ℕ) (program : List Instr) (memory : List ℕ) → 0 < chip.lines → fits (opening_unit chip tile program memory) ≡ true
  pub asked : (unit : UnitState) → fits unit ≡ true → fits (record unit { node = after_request_sent unit.node }) ≡ true
  pub sent : (unit : UnitState) → fits unit ≡ true → fits (record unit { node = after_message_sent unit.node }) ≡ true
  pub stepped : (unit : UnitState) → fits unit ≡ true → b.ready unit ≡ true → (fits (b.stepped unit).0 ≡ true) × Works unit (b.stepped unit)
  pub delivered : (q : Request) (unit : UnitState) → fits unit ≡ true → (fits (b.delivered q unit).0 ≡ true) × Receives unit (node_after_request q unit.node) (b.delivered q unit)
  pub received : (msg : Msg) (unit : UnitState) → fits unit ≡ true → (fits (b.received msg unit).0 ≡ true) × Receives unit (node_after_message msg unit.node) (b.received msg unit)
  pub halted : (unit : UnitState) → unit.halted ≡ true → b.ready unit ≡ false
  -- a unit that waits waits for a request, for data, or for its queue; its sets have ways
  pub waits : (unit : UnitState) → fits unit ≡ true → HasWays unit.node → unit.halted ≡ false → b.ready unit ≡ false → (waits_for_any unit.node || holds_back unit.node.out) ≡ true
