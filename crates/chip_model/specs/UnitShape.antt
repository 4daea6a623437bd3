-- What holds of a unit beside its node: its program and its core, and for in-order cores what a demand waits for and in
-- which order accesses were performed.
use Rattle.std.specs.Prelude.{◌≡◌, ℕ, ◌<◌, ◌≤◌, false, [], length, Some, slice_get}
use Rattle.core_isa.specs.Core.{Effect, Becomes, Loads, Stores, Swaps, Adds, Halts, effect_of, instr_at}
use Rattle.report_text.specs.declared.access.Access.{Access}
use Rattle.report_text.specs.declared.access.AccessKind.TheVariants.{Load, Store, Swap, Add}
use Rattle.doc_text.specs.Doc.{Doc}
use Rattle.chip_model.specs.declared.pending.Pending.{Pending}
use Rattle.chip_model.specs.Chip.{Chip, address_in}
use Rattle.chip_model.specs.Misses.{Demand}
use Rattle.chip_model.specs.Units.{UnitState}
use Rattle.chip_model.specs.ChipState.{ChipState, program_of}

-- the unit of a tile runs the tile's program on a core of eight registers
pub record UnitFits (d : Doc) (t : ℕ) (unit : UnitState) : Type 0 where
  pub program : unit.program ≡ program_of d t
  pub tile : unit.core.tile ≡ t
  pub registers : length unit.core.registers ≡ 8

-- an effect is this access, in the chip's memory
abbrev pub IsAccess : Chip → Pending → Effect → Type 0
IsAccess chip pending (Loads register sum) = (pending.kind ≡ Load) × (pending.address ≡ address_in chip sum)
IsAccess chip pending (Stores sum value) = (pending.kind ≡ Store) × (pending.address ≡ address_in chip sum) × (pending.value ≡ value)
IsAccess chip pending (Swaps register sum value) = (pending.kind ≡ Swap) × (pending.address ≡ address_in chip sum) × (pending.value ≡ value)
IsAccess chip pending (Adds register sum value) = (pending.kind ≡ Add) × (pending.address ≡ address_in chip sum) × (pending.value ≡ value)
IsAccess chip pending (Becomes core) = ⊥
IsAccess chip pending Halts = ⊥

-- Of an in-order core: a demand waits for the access that comes next, and the core has not halted; each access that it
-- performed counts fewer instructions than it has done; a later one counts more than an earlier one, and is not earlier in
-- time; no store is buffered.
pub record InOrderHolds (s : ChipState) (t : ℕ) (unit : UnitState) : Type 0 where
  pub waits : (demand : Demand) → unit.node.side.misses.demand ≡ Some demand →
      (unit.halted ≡ false) × IsAccess unit.node.chip demand.pending (effect_of (instr_at unit.program unit.core.place) unit.core)
  pub numbers : (place : ℕ) (access : Access) → slice_get s.accesses place ≡ Some access → access.tile ≡ t → access.number < unit.core.steps
  pub rising : (before after : ℕ) (first second : Access) → before < after → slice_get s.accesses before ≡ Some first → slice_get s.accesses after ≡ Some second →
      first.tile ≡ t → second.tile ≡ t → (first.number < second.number) × (first.time ≤ second.time)
  pub unbuffered : unit.buffered ≡ []
