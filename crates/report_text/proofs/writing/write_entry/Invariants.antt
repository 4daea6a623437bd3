-- So many events of the core are written, and the rest of what the entry records is left.
use Rattle.std.proofs.Common.{drop}
use Rattle.outside_io.specs.Streams.{stream}
use Rattle.outside_io.proofs.Writes.{WritesAllBut}
use Rattle.report_text.specs.Journals.{recorded}
use Rattle.report_text.specs.Lines.{text_of_lines}
use Rattle.report_text.specs.Report.{event_rows}
use Rattle.report_text.proofs.writing.write_entry.Given as goal

abbrev pub invariant-loop : goal.invariant-loop
invariant-loop g l =
    WritesAllBut (stream g.K.Sink.held g.K.Sink.faults l.fn.sink l.sink) (text_of_lines (event_rows (recorded l.entry))) (text_of_lines (event_rows (drop l.counter (recorded l.entry))))
