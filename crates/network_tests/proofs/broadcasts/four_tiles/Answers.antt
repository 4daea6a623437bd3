use Rattle.std.proofs.Common.{[], ◌∷◌, refl, lit<, lit≤}
use Rattle.std.specs.List.{IsDistinct}
use Rattle.doc_text.specs.Limits.{ArePosts}
use Rattle.network_tests.proofs.broadcasts.four_tiles.Goals as goal

three_windows : ArePosts 4 ((0 ∷ 3 ∷ []) ∷ (1 ∷ 3 ∷ []) ∷ (2 ∷ []) ∷ [])
unfolding IsDistinct
three_windows = record {
  few = lit≤ tt;
  each = (
    record { some = lit< tt; distinct = ((refl, tt), (tt, tt)); inside = (lit< tt, (lit< tt, tt)) },
    (record { some = lit< tt; distinct = ((refl, tt), (tt, tt)); inside = (lit< tt, (lit< tt, tt)) }, (record { some = lit< tt; distinct = (tt, tt); inside = (lit< tt, tt) }, tt)),
  );
}

pub invariant_of-result-clause-posts_limit : goal.invariant_of-result-clause-posts_limit
invariant_of-result-clause-posts_limit c =
    let size = c.in_ok-of_size.ensures in ∣ rw (size.cols_is, size.rows_is, c.in_ok-three_windows.ensures) three_windows ∣₁
