use Rattle.std.proofs.Common.{◌≡◌, ◌==◌, ℕ, false, List, [], ◌∷◌, ◌++◌, length, map, codes, refl}
use Rattle.doc_text.specs.declared.key.Key.TheVariants.{Posts}
use Rattle.doc_text.specs.Canonical.{value_line, list_text, numbers_text, posts_text}
use Rattle.outside_io.proofs.Writes.{WritesAllBut-nothing, WritesAllBut-more, Writes-failed, Writes-last}
use Rattle.doc_text.proofs.writing.write_posts.Goals as goal

abbrev first_line : List (List ℕ) → List ℕ
first_line posts = value_line Posts (list_text (map numbers_text posts))

lines : (posts : List (List ℕ)) → false ≡ (length posts == 0) → posts_text posts ≡ first_line posts ++ codes "\n"
lines [] some = cc
lines (window ∷ windows) some = refl

pub returns-in_err-write_lists_line : goal.returns-in_err-write_lists_line
returns-in_err-write_lists_line g c =
    let posts = c.as_slice-posts.result.now in
    rw (← c.as_slice-posts.ensures)
    (Writes-failed _ c.from_residual.result c.from_residual.ensures.0 (WritesAllBut-nothing (posts_text posts)) (lines posts c.if-is_empty.ensures) c.in_err-write_lists_line.ensures)

pub returns : goal.returns
returns g c =
    let posts = c.as_slice-posts.result.now in
    let first = WritesAllBut-more (WritesAllBut-nothing (posts_text posts)) (lines posts c.if-is_empty.ensures) c.in_ok-write_lists_line.ensures in
    rw (← c.as_slice-posts.ensures) (Writes-last c.write_piece.result first refl c.write_piece.ensures)
