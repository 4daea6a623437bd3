-- The lines so far are read, and those that are left are the lines of the rest.
use Rattle.std.proofs.Common.{◌+◌, ◌≤◌, length}
use Rattle.report_text.specs.Lines.{lines_of}
use Rattle.report_text.proofs.ReadLines.{HasRead}
use Rattle.report_text.proofs.reading.read_events.Given as goal

abbrev pub invariant-loop-rest : goal.invariant-loop-rest
invariant-loop-rest l = record {
  read : HasRead (lines_of l.text) l.number l.events.items (lines_of l.rest);
  bound : l.number + length l.rest ≤ length l.text;
}

abbrev pub decreases-loop-rest : goal.decreases-loop-rest
decreases-loop-rest l = length l.rest
