use Rattle.std.proofs.Common.{refl}
use Rattle.outside_io.proofs.Writes.{WritesAllBut-nothing, WritesAllBut-more, Writes-failed}
use Rattle.report_text.specs.Lines.{text_of_lines}
use Rattle.report_text.specs.Report.{request_part, request_rows}
use Rattle.report_text.proofs.Pieces.{text_of_lines-first}
use Rattle.report_text.proofs.Sections.{request_rows-drop}
use Rattle.report_text.proofs.writing.write_requests.Goals as goal

pub returns-in_err-write : goal.returns-in_err-write
returns-in_err-write g c =
    let lines = request_part c.args.requests.now in
    let first = text_of_lines-first _ _ lines (request_rows 0 c.args.requests.now) c.count_line.ensures.text refl in
    Writes-failed _ c.from_residual.result c.from_residual.ensures.0 (WritesAllBut-nothing (text_of_lines lines)) first c.in_err-write.ensures

pub loop-place-init : goal.loop-place-init
loop-place-init g c =
    let lines = request_part c.args.requests.now in
    let first = text_of_lines-first _ _ lines (request_rows 0 c.args.requests.now) c.count_line.ensures.text refl in
    WritesAllBut-more (WritesAllBut-nothing (text_of_lines lines)) first c.in_ok-write.ensures

pub returns-in_err-write-2 : goal.returns-in_err-write-2
returns-in_err-write-2 g c =
    let next = text_of_lines-first _ _ _ _ c.request_line.ensures.text (request_rows-drop c.args.requests.now c.loop-place.place c.loop-place-test.true) in
    Writes-failed _ c.from_residual-in_err-write-2.result c.from_residual-in_err-write-2.ensures.0 c.loop-place.invariant next c.in_err-write-2.ensures

pub loop-place-preserved : goal.loop-place-preserved
loop-place-preserved g c =
    let next = text_of_lines-first _ _ _ _ c.request_line.ensures.text (request_rows-drop c.args.requests.now c.loop-place.place c.loop-place-test.true) in
    WritesAllBut-more c.loop-place.invariant next c.in_ok-write-2.ensures
