-- In-order cores by their accesses: each is what its own accesses make of a new core.
use Rattle.std.specs.Prelude.{◌≡◌, ℕ, ◌*◌, true, List, map, Some, slice_get}
use Rattle.core_isa.specs.Core.{Halts, new_core, effect_of, instr_at}
use Rattle.report_text.specs.declared.access.Access.{Access}
use Rattle.flat_ref.specs.Consistency.{accesses_of, run_alone}
use Rattle.chip_model.specs.Units.{UnitState}
use Rattle.chip_model.specs.ChipState.{ChipState}

-- the core is what its own of these accesses make of a new core, and it has halted only where a halt is next
pub record CoreRuns (accesses : List Access) (t : ℕ) (unit : UnitState) : Type 0 where
  pub runs : run_alone (4 * unit.node.chip.lines) unit.program (new_core t) (accesses_of t accesses) unit.core.steps ≡ Some unit.core
  pub halts : unit.halted ≡ true → effect_of (instr_at unit.program unit.core.place) unit.core ≡ Halts

-- that holds of each core
abbrev pub CoresRun : ChipState → Type 0
CoresRun s = (t : ℕ) (unit : UnitState) → slice_get s.units t ≡ Some unit → CoreRuns s.accesses t unit

-- how many instructions each core has done
abbrev pub steps_done : ChipState → List ℕ
steps_done s = map (λ (unit : UnitState). unit.core.steps) s.units
