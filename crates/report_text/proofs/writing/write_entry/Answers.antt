use Rattle.std.proofs.Common.{◌≡◌, List, drop, sym, ap, subst, ◌∙◌, arith}
use Rattle.outside_io.specs.Streams.{stream, Writes}
use Rattle.outside_io.proofs.Writes.{WritesAllBut-nothing, WritesAllBut-more, Writes-failed, Writes-last}
use Rattle.report_text.specs.declared.event.Event.{Event}
use Rattle.report_text.specs.Journals.{recorded}
use Rattle.report_text.specs.Lines.{text_of_lines}
use Rattle.report_text.specs.Report.{event_rows}
use Rattle.report_text.proofs.Journals.{next_of_core, own_last, records}
use Rattle.report_text.proofs.Pieces.{text_of_lines-first, text_of_lines-last}
use Rattle.report_text.proofs.writing.write_entry.Goals as goal

pub loop-init : goal.loop-init
loop-init g c = WritesAllBut-nothing (text_of_lines (event_rows (recorded c.in-Some.entry)))

pub returns-in_err-write : goal.returns-in_err-write
returns-in_err-write g c =
    let entry = c.in-Some.entry in
    let same = records c.args.word entry ((c.unpack.ensures entry).0 c.in-Some.is) in
    let next = text_of_lines-first _ _ _ _ c.event_line.ensures.text (ap event_rows (next_of_core entry c.loop.counter c.loop-test.true)) in
    subst (λ (all : List Event). Writes (stream g.K.Sink.held g.K.Sink.faults c.args.sink.now c.write.new.sink) (text_of_lines (event_rows all)) c.from_residual.result) (sym same)
    (Writes-failed _ c.from_residual.result c.from_residual.ensures.0 c.loop.invariant next c.in_err-write.ensures)

pub loop-preserved : goal.loop-preserved
loop-preserved g c =
    let next = text_of_lines-first _ _ _ _ c.event_line.ensures.text (ap event_rows (next_of_core c.in-Some.entry c.loop.counter c.loop-test.true)) in
    WritesAllBut-more c.loop.invariant next c.in_ok-write.ensures

pub returns : goal.returns
returns g c =
    let entry = c.in-Some.entry in
    let same = records c.args.word entry ((c.unpack.ensures entry).0 c.in-Some.is) in
    let all : c.loop.counter ≡ entry.cores = omega arith in
    let last = ap (λ k. text_of_lines (event_rows (drop k (recorded entry)))) all ∙ ap (λ (left : List Event). text_of_lines (event_rows left)) (own_last entry)
    ∙ text_of_lines-last _ _ c.event_line-2.ensures.text in
    subst (λ (all : List Event). Writes (stream g.K.Sink.held g.K.Sink.faults c.args.sink.now c.write-2.new.sink) (text_of_lines (event_rows all)) c.write-2.result) (sym same)
    (Writes-last c.write-2.result c.loop.invariant last c.write-2.ensures)
