use Rattle.std.proofs.Common.{◌≡◌, ℕ, ◌+◌, List, ◌++◌, drop, sym, ◌∙◌, ap}
use Rattle.std.specs.List.{flat_map}
use Rattle.outside_io.proofs.Writes.{WritesAllBut-more, Writes-failed}
use Rattle.doc_text.proofs.Pieces.{flat_map-drop}
use Rattle.commands.proofs.summary.write_lines.Goals as goal

pub returns-in_err-write : goal.returns-in_err-write
returns-in_err-write g c =
    let left : List ℕ = flat_map (λ (line : List ℕ). line) (drop (c.loop-line.line-index + 1) c.args.lines.now) in
    let next = flat_map-drop (λ (line : List ℕ). line) c.args.lines.now c.loop-line.line-index c.line-item.result c.loop-line-test.true
    ∙ ap (λ (piece : List ℕ). piece ++ left) (sym c.line-item.is) in
    Writes-failed left c.from_residual.result c.from_residual.ensures.0 c.loop-line.invariant next c.in_err-write.ensures

pub loop-line-preserved : goal.loop-line-preserved
loop-line-preserved g c =
    let left : List ℕ = flat_map (λ (line : List ℕ). line) (drop (c.loop-line.line-index + 1) c.args.lines.now) in
    let next = flat_map-drop (λ (line : List ℕ). line) c.args.lines.now c.loop-line.line-index c.line-item.result c.loop-line-test.true
    ∙ ap (λ (piece : List ℕ). piece ++ left) (sym c.line-item.is) in
    WritesAllBut-more c.loop-line.invariant next c.in_ok-write.ensures
