-- A prefix of the lines is written, and the rest is that of the words from here on.
use Rattle.std.proofs.Common.{drop}
use Rattle.outside_io.specs.Streams.{stream}
use Rattle.outside_io.proofs.Writes.{WritesAllBut}
use Rattle.report_text.specs.Journals.{events_of}
use Rattle.report_text.specs.Lines.{text_of_lines}
use Rattle.report_text.specs.Report.{journal_part, event_rows}
use Rattle.report_text.proofs.writing.write_journal.Given as goal

abbrev pub invariant-loop-word : goal.invariant-loop-word
invariant-loop-word g l =
    WritesAllBut (stream g.K.Sink.held g.K.Sink.faults l.fn.sink l.sink) (text_of_lines (journal_part l.journal)) (text_of_lines (event_rows (events_of (drop l.word-index l.word-items))))
