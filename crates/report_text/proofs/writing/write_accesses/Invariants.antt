-- A prefix of the lines is written, and the rest is that of the items from here on.
use Rattle.std.proofs.Common.{drop}
use Rattle.outside_io.specs.Streams.{stream}
use Rattle.outside_io.proofs.Writes.{WritesAllBut}
use Rattle.report_text.specs.Lines.{text_of_lines}
use Rattle.report_text.specs.Report.{access_part, access_rows}
use Rattle.report_text.proofs.writing.write_accesses.Given as goal

abbrev pub invariant-loop-access : goal.invariant-loop-access
invariant-loop-access g l =
    WritesAllBut (stream g.K.Sink.held g.K.Sink.faults l.fn.sink l.sink) (text_of_lines (access_part l.accesses)) (text_of_lines (access_rows (drop l.access-index l.accesses)))
