-- Programs whose branches and jumps all go forward, instruction by instruction.
use Rattle.std.specs.Prelude.{◌≡◌, ℕ, true, Bool, List, Some, slice_get, nat_lt}
use Rattle.std.specs.List.{list_all}
use Rattle.core_isa.specs.declared.instr.Instr.{Instr}
use Rattle.chip_model.specs.Schedules.{targets}

-- an instruction at a place goes to no place but later ones, besides the next one
abbrev pub goes_forward : ℕ → Instr → Bool
goes_forward place instr = list_all (nat_lt place) (targets instr)

-- each instruction of a program does
abbrev pub ProgramIsForward : List Instr → Type 0
ProgramIsForward program = (place : ℕ) (instr : Instr) → slice_get program place ≡ Some instr → goes_forward place instr ≡ true
