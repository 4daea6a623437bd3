use Rattle.std.proofs.Common.{[], ◌∷◌, codes, refl}
use Rattle.outside_io.proofs.Writes.{WritesAllBut-nothing, WritesAllBut-more, Writes-failed, Writes-last}
use Rattle.report_text.specs.Lines.{text_of_lines}
use Rattle.report_text.specs.Report.{count_part, count_row}
use Rattle.report_text.proofs.Pieces.{text_of_lines-first, text_of_lines-last}
use Rattle.report_text.proofs.writing.write_counts.Goals as goal

pub returns-in_err-write : goal.returns-in_err-write
returns-in_err-write g c =
    let lines = count_part c.args.windows c.args.hops in
    let first = text_of_lines-first _ _ lines (count_row (codes "hops") c.args.hops ∷ []) c.count_line.ensures.text refl in
    Writes-failed _ c.from_residual.result c.from_residual.ensures.0 (WritesAllBut-nothing (text_of_lines lines)) first c.in_err-write.ensures

pub returns : goal.returns
returns g c =
    let lines = count_part c.args.windows c.args.hops in
    let first = text_of_lines-first _ _ lines (count_row (codes "hops") c.args.hops ∷ []) c.count_line.ensures.text refl in
    let last = text_of_lines-last _ _ c.count_line-2.ensures.text in
    Writes-last c.write-2.result (WritesAllBut-more (WritesAllBut-nothing (text_of_lines lines)) first c.in_ok-write.ensures) last c.write-2.ensures
