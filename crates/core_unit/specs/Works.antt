-- What a core event of an in-order core is to do, and what holds of every in-order core.
use Rattle.std.specs.Prelude.{◌≡◌, ℕ, ◌<◌, true, ◌||◌, List, Option, Some, None, option_map, if◌then◌else◌}
use Rattle.core_isa.specs.declared.instr.Instr.{Instr}
use Rattle.core_isa.specs.declared.next.Next.{Next}
use Rattle.core_isa.specs.declared.next.Next.TheVariants as next
use Rattle.core_isa.specs.Core.{CoreState, Effect, Becomes, Loads, Stores, Swaps, Adds, Halts, effect_of, instr_at, next_of, stepped}
use Rattle.report_text.specs.declared.access.AccessKind.{AccessKind}
use Rattle.report_text.specs.declared.access.AccessKind.TheVariants.{Load, Store, Swap, Add}
use Rattle.chip_model.specs.Chip.{Chip, address_in}
use Rattle.chip_model.specs.Misses.{Demand}
use Rattle.chip_model.specs.Node.{has_entry, node_after_access}
use Rattle.chip_model.specs.Units.{UnitState, Acted, performed}
use Rattle.core_unit.specs.declared.work.Work.{Work}
use Rattle.core_unit.specs.declared.work.Work.TheVariants.{Wait, Execute, Halt, Try}

-- the kind of access that an effect is, where it is one
abbrev pub kind_of_effect : Effect → Option AccessKind
kind_of_effect (Loads register sum) = Some Load
kind_of_effect (Stores sum value) = Some Store
kind_of_effect (Swaps register sum value) = Some Swap
kind_of_effect (Adds register sum value) = Some Add
kind_of_effect (Becomes core) = None
kind_of_effect Halts = None

-- the kind of access that the next instruction is, where it is one
abbrev pub access_next : List Instr → CoreState → Option AccessKind
access_next program core = kind_of_effect (effect_of (instr_at program core.place) core)

-- the next instruction of a unit is an access of this kind
abbrev pub IsNextKind : UnitState → AccessKind → Type 0
IsNextKind unit kind = access_next unit.program unit.core ≡ Some kind

-- an in-order core of this tile, in a memory of so many lines: what a demand waits for is its next instruction
pub record RunsInOrder (t count : ℕ) (unit : UnitState) : Type 0 where
  pub tile : unit.node.tile ≡ t
  pub lines : unit.node.chip.lines ≡ count
  pub some : 0 < count
  pub waits : (demand : Demand) → unit.node.side.misses.demand ≡ Some demand → IsNextKind unit demand.pending.kind

-- an access of a chip's memory
abbrev pub try_at : Chip → AccessKind → ℕ → ℕ → Work
try_at chip kind sum value = Try (record { kind = kind; address = address_in chip sum; value = value })

-- what the next instruction asks for
abbrev pub work_for : Chip → Next → Work
work_for chip next.Register = Execute
work_for chip (next.Load register sum) = try_at chip Load sum 0
work_for chip (next.Store sum value) = try_at chip Store sum value
work_for chip (next.Swap register sum value) = try_at chip Swap sum value
work_for chip (next.Add register sum value) = try_at chip Add sum value
work_for chip next.Halted = Halt

-- what a core event is to do: nothing where the core has halted or waits for words
abbrev pub work_of : UnitState → Work
work_of unit = if unit.halted || has_entry unit.node then Wait else work_for unit.node.chip (next_of unit.program unit.core)

-- what a unit becomes by that, and the access that it performs
abbrev pub done_by_work : UnitState → Work → Option Acted
done_by_work unit Wait = None
done_by_work unit Execute = option_map {U = Acted} (λ (core : CoreState). (record unit { core = core }, None)) (stepped unit.program unit.core)
done_by_work unit Halt = Some (record unit { halted = true }, None)
done_by_work unit (Try access) = option_map (performed unit) (node_after_access access unit.node)
