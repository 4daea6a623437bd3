use lib.Utf8.{encode}
use Rattle.std.proofs.Common.{◌≡◌, ◌+◌, ◌<◌, ℕ, List, [], ◌∷◌, ◌++◌, length, map, codes, drop, get_or, refl, ◌∙◌, ap, append_assoc, arith}
use Rattle.std.proofs.lemmas.List.{drop_all}
use Rattle.doc_text.specs.Keys.{row_of}
use Rattle.outside_io.proofs.Writes.{WritesAllBut-nothing, WritesAllBut-more, Writes-failed, Writes-last}
use Rattle.doc_text.proofs.Pieces.{joined, values_after, value_line-lists, drop_item}
use Rattle.doc_text.proofs.line.write_lists_line.Goals as goal

-- what is left from a list on: that list with the text before it, and the lists after it
from_list : (before : List ℕ) (lists : List (List ℕ)) (at : ℕ) (list : List ℕ) → at < length lists → list ≡ get_or lists at list
    → values_after before (codes "],[") (map joined (drop at lists)) ++ codes "]]\n"
    ≡ (before ++ joined list) ++ (values_after (codes "],[") (codes "],[") (map joined (drop (at + 1) lists)) ++ codes "]]\n")
from_list before lists at list within is =
    ap (λ (ls : List (List ℕ)). values_after before (codes "],[") (map joined ls) ++ codes "]]\n") (drop_item lists at list within is) ∙ append_assoc (before ++ joined list) _ (codes "]]\n")

pub loop-list-init : goal.loop-list-init
loop-list-init g c =
    let opens : c.as_str-before.result.now ≡ (row_of c.args.key).name ++ codes " = [[" = c.as_str-before.ensures.value ∙ c.named-opening.ensures.text in
    record {
      utf8 = c.as_str-before.utf8;
      short = omega (arith, ap length c.as_str-before.ensures.value);
      written = rw (opens, ← value_line-lists c.args.key c.args.lists.now c.requires.some) (WritesAllBut-nothing _);
    }

pub returns-in_err-write_numbers : goal.returns-in_err-write_numbers
returns-in_err-write_numbers g c =
    let first = from_list c.loop-list.before.now c.args.lists.now c.loop-list.list-index c.list-item.result c.loop-list-test.true c.list-item.is in
    Writes-failed _ c.from_residual.result c.from_residual.ensures.0 c.loop-list.invariant.written first (rw c.as_slice.ensures at c.in_err-write_numbers.ensures)

pub loop-list-preserved : goal.loop-list-preserved
unfolding encode
loop-list-preserved g c =
    let first = from_list c.loop-list.before.now c.args.lists.now c.loop-list.list-index c.list-item.result c.loop-list-test.true c.list-item.is in
    record {
      utf8 = (93 ∷ 44 ∷ 91 ∷ [], (refl, refl));
      short = omega arith;
      written = WritesAllBut-more c.loop-list.invariant.written first (rw c.as_slice.ensures at c.in_ok-write_numbers.ensures);
    }

pub returns : goal.returns
returns g c =
    let none = drop_all c.loop-list.list-index c.args.lists.now (omega arith) in
    let last = ap (λ (ls : List (List ℕ)). values_after c.loop-list.before.now (codes "],[") (map joined ls) ++ codes "]]\n") none in
    Writes-last c.write_piece.result c.loop-list.invariant.written last c.write_piece.ensures
