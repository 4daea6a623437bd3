use Rattle.std.proofs.Common.{◌≡◌, ◌-◌, [], ◌∷◌, List, length, drop, codes, refl, sym, ap, arith}
use Rattle.std.proofs.lemmas.List.{length-drop, nil_from_length}
use Rattle.outside_io.proofs.Writes.{WritesAllBut-nothing, WritesAllBut-more, Writes-all, Writes-failed}
use Rattle.report_text.specs.declared.event.Event.{Event}
use Rattle.report_text.specs.Journals.{events_of}
use Rattle.report_text.specs.Lines.{text_of_lines}
use Rattle.report_text.specs.Report.{journal_part, event_rows, count_row}
use Rattle.report_text.proofs.Journals.{rows_of_next}
use Rattle.report_text.proofs.Pieces.{text_of_lines-first}
use Rattle.report_text.proofs.writing.write_journal.Goals as goal

pub returns-in_err-write : goal.returns-in_err-write
returns-in_err-write g c =
    let events = c.args.journal.now in
    let lines = journal_part events in
    let count = rw c.length.ensures at c.count_line.ensures.text in
    let first = text_of_lines-first _ _ lines (event_rows events) count refl in
    Writes-failed _ c.from_residual.result c.from_residual.ensures.0 (WritesAllBut-nothing (text_of_lines lines)) first c.in_err-write.ensures

pub loop-word-init : goal.loop-word-init
loop-word-init g c =
    let events = c.args.journal.now in
    let lines = journal_part events in
    let count = rw c.length.ensures at c.count_line.ensures.text in
    let left : lines ≡ count_row (codes "journal") (length events) ∷ event_rows (events_of c.words-word-items.result.now) =
    ap (λ (all : List Event). count_row (codes "journal") (length events) ∷ event_rows all) (sym c.words-word-items.ensures.events) in
    let first = text_of_lines-first _ _ lines (event_rows (events_of c.words-word-items.result.now)) count left in
    WritesAllBut-more (WritesAllBut-nothing (text_of_lines lines)) first c.in_ok-write.ensures

pub returns-in_err-write_entry : goal.returns-in_err-write_entry
returns-in_err-write_entry g c =
    let next = rows_of_next c.words-word-items.result.now c.loop-word.word-index c.loop-word-test.true in
    Writes-failed _ c.from_residual-in_err-write_entry.result c.from_residual-in_err-write_entry.ensures.0 c.loop-word.invariant next c.in_err-write_entry.ensures

pub loop-word-preserved : goal.loop-word-preserved
loop-word-preserved g c =
    let next = rows_of_next c.words-word-items.result.now c.loop-word.word-index c.loop-word-test.true in
    WritesAllBut-more c.loop-word.invariant next c.in_ok-write_entry.ensures

pub returns : goal.returns
returns g c =
    let words = c.words-word-items.result.now in
    let left : length (drop c.loop-word.word-index words) ≡ length words - c.loop-word.word-index = length-drop c.loop-word.word-index words in
    let none : drop c.loop-word.word-index words ≡ [] = nil_from_length (drop c.loop-word.word-index words) (omega (arith, left)) in
    Writes-all tt (rw none at c.loop-word.invariant)
