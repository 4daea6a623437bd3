use Rattle.std.proofs.Common.{[], ◌∷◌, refl, lit<, lit≤}
use Rattle.std.specs.List.{IsDistinct}
use Rattle.doc_text.specs.Limits.{ArePosts}
use Rattle.document_tests.proofs.canonical_texts.four_tiles.Goals as goal

two_windows : ArePosts 4 ((0 ∷ 3 ∷ []) ∷ (1 ∷ []) ∷ [])
unfolding IsDistinct
two_windows = record {
  few = lit≤ tt;
  each = (record { some = lit< tt; distinct = ((refl, tt), (tt, tt)); inside = (lit< tt, (lit< tt, tt)) }, (record { some = lit< tt; distinct = (tt, tt); inside = (lit< tt, tt) }, tt));
}

pub invariant_of-result-clause-posts_limit : goal.invariant_of-result-clause-posts_limit
invariant_of-result-clause-posts_limit c =
    let size = c.in_ok-four_tile_mesh.ensures in ∣ rw (size.0, size.1, c.in_ok-two_windows.ensures) two_windows ∣₁
