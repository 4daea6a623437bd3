use Rattle.std.proofs.Common.{◌≡◌, ◌<◌, ℕ, List}
use Rattle.std.specs.Prelude.{Some, slice_get}
use Rattle.core_isa.specs.declared.instr.Instr.{Instr}
use Rattle.progress_core.specs.Forward.{ProgramIsForward}
use Rattle.progress_core.proofs.forward.forward_only.Given as goal

-- the programs so far go forward
abbrev pub invariant-loop-program : goal.invariant-loop-program
invariant-loop-program l = record {
  items : l.program-items ≡ l.document.programs;
  so_far : (tile : ℕ) (program : List Instr) → tile < l.program-index → slice_get l.document.programs tile ≡ Some program → ProgramIsForward program;
}
