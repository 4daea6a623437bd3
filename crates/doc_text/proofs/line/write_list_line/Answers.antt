use Rattle.std.proofs.Common.{◌≡◌, ◌++◌, map, codes, refl}
use Rattle.std.specs.List.{join_with_byte}
use Rattle.doc_text.specs.Keys.{row_of}
use Rattle.outside_io.proofs.Writes.{WritesAllBut-nothing, WritesAllBut-more, Writes-failed, Writes-last}
use Rattle.doc_text.proofs.Pieces.{value_line-list}
use Rattle.doc_text.proofs.line.write_list_line.Goals as goal

pub returns-in_err-write_numbers : goal.returns-in_err-write_numbers
returns-in_err-write_numbers g c =
    let values = join_with_byte 44 (map g.N.Integer.text c.args.numbers.now) in
    let opens : c.as_str.result.now ≡ (row_of c.args.key).name ++ codes " = [" = rw c.as_str.ensures.value c.named-opening.ensures.text in
    Writes-failed (codes "]\n") c.from_residual.result c.from_residual.ensures.0 (WritesAllBut-nothing _) (value_line-list c.args.key values) (rw opens at c.in_err-write_numbers.ensures)

pub returns : goal.returns
returns g c =
    let values = join_with_byte 44 (map g.N.Integer.text c.args.numbers.now) in
    let opens : c.as_str.result.now ≡ (row_of c.args.key).name ++ codes " = [" = rw c.as_str.ensures.value c.named-opening.ensures.text in
    let written = WritesAllBut-more {rest = codes "]\n"} (WritesAllBut-nothing _) (value_line-list c.args.key values) (rw opens at c.in_ok-write_numbers.ensures) in
    Writes-last c.write_piece.result written refl c.write_piece.ensures
