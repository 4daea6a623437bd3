use Rattle.std.proofs.Common.{refl}
use Rattle.outside_io.proofs.Writes.{WritesAllBut-nothing, WritesAllBut-more, Writes-failed}
use Rattle.report_text.specs.Lines.{text_of_lines}
use Rattle.report_text.specs.Report.{access_part, access_rows}
use Rattle.report_text.proofs.Pieces.{text_of_lines-first}
use Rattle.report_text.proofs.Sections.{access_rows-drop}
use Rattle.report_text.proofs.writing.write_accesses.Goals as goal

pub returns-in_err-write : goal.returns-in_err-write
returns-in_err-write g c =
    let lines = access_part c.args.accesses.now in
    let first = text_of_lines-first _ _ lines (access_rows c.args.accesses.now) c.count_line.ensures.text refl in
    Writes-failed _ c.from_residual.result c.from_residual.ensures.0 (WritesAllBut-nothing (text_of_lines lines)) first c.in_err-write.ensures

pub loop-access-init : goal.loop-access-init
loop-access-init g c =
    let lines = access_part c.args.accesses.now in
    let first = text_of_lines-first _ _ lines (access_rows c.args.accesses.now) c.count_line.ensures.text refl in
    WritesAllBut-more (WritesAllBut-nothing (text_of_lines lines)) first c.in_ok-write.ensures

pub returns-in_err-write-2 : goal.returns-in_err-write-2
returns-in_err-write-2 g c =
    let next = text_of_lines-first _ _ _ _ c.access_line.ensures.text (access_rows-drop c.args.accesses.now c.loop-access.access-index c.loop-access-test.true) in
    Writes-failed _ c.from_residual-in_err-write-2.result c.from_residual-in_err-write-2.ensures.0 c.loop-access.invariant next c.in_err-write-2.ensures

pub loop-access-preserved : goal.loop-access-preserved
loop-access-preserved g c =
    let next = text_of_lines-first _ _ _ _ c.access_line.ensures.text (access_rows-drop c.args.accesses.now c.loop-access.access-index c.loop-access-test.true) in
    WritesAllBut-more c.loop-access.invariant next c.in_ok-write-2.ensures
