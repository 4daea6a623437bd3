use Rattle.outside_io.proofs.Writes.{WritesAllBut-nothing, WritesAllBut-more, Writes-failed}
use Rattle.report_text.specs.Lines.{text_of_lines}
use Rattle.report_text.specs.Report.{memory_part, memory_rows}
use Rattle.report_text.proofs.Pieces.{text_of_lines-first}
use Rattle.report_text.proofs.Sections.{memory_part-chunks, memory_rows-drop}
use Rattle.report_text.proofs.writing.write_memory.Goals as goal

pub returns-in_err-write : goal.returns-in_err-write
returns-in_err-write g c =
    let lines = memory_part c.args.memory.now in
    let first = text_of_lines-first _ _ lines (memory_rows 0 c.as_chunks.result.0.now) c.count_line.ensures.text (memory_part-chunks c.args.memory.now c.as_chunks.result.0.now c.as_chunks.ensures.front) in
    Writes-failed _ c.from_residual.result c.from_residual.ensures.0 (WritesAllBut-nothing (text_of_lines lines)) first c.in_err-write.ensures

pub loop-line-init : goal.loop-line-init
loop-line-init g c =
    let lines = memory_part c.args.memory.now in
    let first = text_of_lines-first _ _ lines (memory_rows 0 c.as_chunks.result.0.now) c.count_line.ensures.text (memory_part-chunks c.args.memory.now c.as_chunks.result.0.now c.as_chunks.ensures.front) in
    WritesAllBut-more (WritesAllBut-nothing (text_of_lines lines)) first c.in_ok-write.ensures

pub returns-in_err-write-2 : goal.returns-in_err-write-2
returns-in_err-write-2 g c =
    let next = text_of_lines-first _ _ _ _ c.memory_line.ensures.text (memory_rows-drop c.as_chunks.result.0.now c.loop-line.line c.loop-line-test.true) in
    Writes-failed _ c.from_residual-in_err-write-2.result c.from_residual-in_err-write-2.ensures.0 c.loop-line.invariant next c.in_err-write-2.ensures

pub loop-line-preserved : goal.loop-line-preserved
loop-line-preserved g c =
    let next = text_of_lines-first _ _ _ _ c.memory_line.ensures.text (memory_rows-drop c.as_chunks.result.0.now c.loop-line.line c.loop-line-test.true) in
    WritesAllBut-more c.loop-line.invariant next c.in_ok-write-2.ensures
