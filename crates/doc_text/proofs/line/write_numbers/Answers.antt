use Rattle.std.proofs.Common.{List, ◌∷◌, [], ◌++◌, map, codes, refl, ap, arith}
use lib.Utf8.{encode}
use Rattle.std.specs.List.{join_with_byte}
use Rattle.outside_io.proofs.Writes.{WritesAllBut-nothing, WritesAllBut-more, Writes-failed}
use Rattle.doc_text.proofs.Pieces.{values_after, values_after-comma, drop_item}
use Rattle.doc_text.proofs.line.write_numbers.Goals as goal

pub loop-number-init : goal.loop-number-init
loop-number-init g c =
    let text = g.N.Integer.text in
    let whole = c.args.before.now ++ join_with_byte 44 (map text c.args.numbers.now) in
    record { utf8 = c.utf8.before; short = c.requires.short; written = rw (values_after-comma text c.args.before.now c.args.numbers.now c.requires.some) (WritesAllBut-nothing whole) }

pub returns-in_err-write_number : goal.returns-in_err-write_number
returns-in_err-write_number g c =
    let text = g.N.Integer.text in
    let next = drop_item c.args.numbers.now c.loop-number.number-index c.number-item.result c.loop-number-test.true c.number-item.is in
    let first = ap (λ (numbers : List g.row.N.Denot). values_after c.loop-number.before.now (codes ",") (map text numbers)) next in
    Writes-failed _ c.from_residual.result c.from_residual.ensures.0 c.loop-number.invariant.written first c.in_err-write_number.ensures

pub loop-number-preserved : goal.loop-number-preserved
unfolding encode
loop-number-preserved g c =
    let text = g.N.Integer.text in
    let next = drop_item c.args.numbers.now c.loop-number.number-index c.number-item.result c.loop-number-test.true c.number-item.is in
    let first = ap (λ (numbers : List g.row.N.Denot). values_after c.loop-number.before.now (codes ",") (map text numbers)) next in
    record { utf8 = (44 ∷ [], (refl, refl)); short = omega arith; written = WritesAllBut-more c.loop-number.invariant.written first c.in_ok-write_number.ensures }
