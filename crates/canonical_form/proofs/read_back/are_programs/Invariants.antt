use Rattle.std.proofs.Common.{take}
use Rattle.std.specs.List.{All}
use Rattle.core_isa.specs.Program.{IsProgram}
use Rattle.canonical_form.proofs.read_back.are_programs.Given as goal

abbrev pub invariant-loop-program : goal.invariant-loop-program
invariant-loop-program l = All IsProgram (take l.program-index l.programs)
