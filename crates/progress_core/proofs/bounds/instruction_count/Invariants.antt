use Rattle.std.proofs.Common.{◌≡◌, ◌*◌, ◌≤◌, length, take}
use Rattle.std.specs.List.{sum_by}
use Rattle.progress_core.proofs.bounds.instruction_count.Given as goal

-- the instructions of the programs so far
abbrev pub invariant-loop-program : goal.invariant-loop-program
invariant-loop-program l = record {
  items : l.program-items ≡ l.document.programs;
  so_far : l.count ≡ sum_by length (take l.program-index l.document.programs);
  few : l.count ≤ l.program-index * 1024;
}
