-- A prefix of the lines is written, and the rest is that of the items from here on.
use Rattle.std.proofs.Common.{drop}
use Rattle.outside_io.specs.Streams.{stream}
use Rattle.outside_io.proofs.Writes.{WritesAllBut}
use Rattle.report_text.specs.Lines.{text_of_lines}
use Rattle.report_text.specs.Report.{memory_part, memory_rows}
use Rattle.report_text.proofs.writing.write_memory.Given as goal

abbrev pub invariant-loop-line : goal.invariant-loop-line
invariant-loop-line g l =
    WritesAllBut (stream g.K.Sink.held g.K.Sink.faults l.fn.sink l.sink) (text_of_lines (memory_part l.memory)) (text_of_lines (memory_rows l.line (drop l.line l.lines)))
