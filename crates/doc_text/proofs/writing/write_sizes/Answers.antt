use Rattle.std.proofs.Common.{ℕ, List}
use Rattle.std.specs.Prelude.{decimal}
use Rattle.doc_text.specs.declared.key.Key.{Key}
use Rattle.doc_text.specs.declared.key.Key.TheVariants.{Mesh}
use Rattle.doc_text.specs.Canonical.{value_line}
use Rattle.outside_io.proofs.Writes.{WritesAllBut-more, Writes-failed}
use Rattle.doc_text.proofs.Pieces.{flat_map-drop}
use Rattle.doc_text.proofs.writing.write_sizes.Goals as goal

abbrev line_of : Key × ℕ → List ℕ
line_of size = value_line size.0 (decimal size.1)

pub returns-in_err-write_number_line : goal.returns-in_err-write_number_line
returns-in_err-write_number_line g c =
    let next = flat_map-drop line_of c.args.sizes.now c.loop-key.key-index (Mesh, 0) c.loop-key-test.true in
    Writes-failed _ c.from_residual.result c.from_residual.ensures.0 c.loop-key.invariant next c.in_err-write_number_line.ensures

pub loop-key-preserved : goal.loop-key-preserved
loop-key-preserved g c =
    let next = flat_map-drop line_of c.args.sizes.now c.loop-key.key-index (Mesh, 0) c.loop-key-test.true in
    WritesAllBut-more c.loop-key.invariant next c.in_ok-write_number_line.ensures
