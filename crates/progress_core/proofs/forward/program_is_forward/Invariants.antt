use Rattle.std.proofs.Common.{◌≡◌, ◌<◌, ℕ, true}
use Rattle.std.specs.Prelude.{Some, slice_get}
use Rattle.core_isa.specs.declared.instr.Instr.{Instr}
use Rattle.progress_core.specs.Forward.{goes_forward}
use Rattle.progress_core.proofs.forward.program_is_forward.Given as goal

-- the instructions so far go forward
abbrev pub invariant-loop-place : goal.invariant-loop-place
invariant-loop-place l = record {
  items : l.instr-items ≡ l.program;
  so_far : (place : ℕ) (instr : Instr) → place < l.place → slice_get l.program place ≡ Some instr → goes_forward place instr ≡ true;
}
