use Rattle.std.proofs.Common.{refl}
use Rattle.outside_io.proofs.Writes.{WritesAllBut-nothing, WritesAllBut-more, Writes-failed}
use Rattle.report_text.specs.Lines.{text_of_lines}
use Rattle.report_text.specs.Report.{tile_part, tile_rows}
use Rattle.report_text.proofs.Pieces.{text_of_lines-first}
use Rattle.report_text.proofs.Sections.{tile_rows-drop}
use Rattle.report_text.proofs.writing.write_tiles.Goals as goal

pub returns-in_err-write : goal.returns-in_err-write
returns-in_err-write g c =
    let lines = tile_part c.args.seen.now c.args.steps.now in
    let first = text_of_lines-first _ _ lines (tile_rows 0 c.args.seen.now c.args.steps.now) c.count_line.ensures.text refl in
    Writes-failed _ c.from_residual.result c.from_residual.ensures.0 (WritesAllBut-nothing (text_of_lines lines)) first c.in_err-write.ensures

pub loop-tile-init : goal.loop-tile-init
loop-tile-init g c =
    let lines = tile_part c.args.seen.now c.args.steps.now in
    let first = text_of_lines-first _ _ lines (tile_rows 0 c.args.seen.now c.args.steps.now) c.count_line.ensures.text refl in
    WritesAllBut-more (WritesAllBut-nothing (text_of_lines lines)) first c.in_ok-write.ensures

pub returns-in_err-write-2 : goal.returns-in_err-write-2
returns-in_err-write-2 g c =
    let next = text_of_lines-first _ _ _ _ c.tile_line.ensures.text (tile_rows-drop c.args.seen.now c.args.steps.now c.loop-tile.tile c.requires c.loop-tile-test.true) in
    Writes-failed _ c.from_residual-in_err-write-2.result c.from_residual-in_err-write-2.ensures.0 c.loop-tile.invariant next c.in_err-write-2.ensures

pub loop-tile-preserved : goal.loop-tile-preserved
loop-tile-preserved g c =
    let next = text_of_lines-first _ _ _ _ c.tile_line.ensures.text (tile_rows-drop c.args.seen.now c.args.steps.now c.loop-tile.tile c.requires c.loop-tile-test.true) in
    WritesAllBut-more c.loop-tile.invariant next c.in_ok-write-2.ensures
