-- The lines so far have no fault, and these are their instructions.
use Rattle.std.proofs.Common.{take, drop}
use Rattle.core_isa.specs.LineSeen.{lines_seen}
use Rattle.core_isa.specs.LabelsSeen.{scope_seen}
use Rattle.core_isa.proofs.Progress.{Progress}
use Rattle.core_isa.proofs.assembly.assemble_lines.Given as goal

abbrev pub invariant-loop-index : goal.invariant-loop-index
invariant-loop-index l =
    Progress (scope_seen l.whole) (lines_seen (take l.index l.lines)) (lines_seen (drop l.index l.lines)) (lines_seen l.lines) (scope_seen l.before) l.instrs.items
