-- The labels are those of the lines so far.
use Rattle.std.proofs.Common.{◌≡◌, take}
use Rattle.core_isa.specs.LineSeen.{lines_seen}
use Rattle.core_isa.specs.Operands.{scope_of}
use Rattle.core_isa.specs.LabelsSeen.{scope_seen}
use Rattle.core_isa.proofs.assembly.labels_of.Given as goal

abbrev pub invariant-loop-raw : goal.invariant-loop-raw
invariant-loop-raw l = scope_seen l.labels ≡ scope_of (lines_seen (take l.raw-index l.lines))
