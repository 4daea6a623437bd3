-- So many tiles, from tile 0 on, are tiles of a mesh that has as many.
use Rattle.std.proofs.Common.{◌≡◌, ℕ, zero, suc, ◌+◌, ◌<◌, ◌≤◌, false, List, [], ◌∷◌, ◌++◌, refl, ◌∙◌, ap, arith, length}
use Rattle.std.specs.Prelude.{nat_eq}
use Rattle.std.specs.List.{IsDistinct, AllByRecursion, range_with_len}
use Rattle.std.proofs.lemmas.Bool.{ne_eqb}
use Rattle.mesh_gen.specs.Limits.{AreTiles}
use Rattle.doc_text.specs.Limits.{ArePosts}

others_above : (t first count : ℕ) → t < first → AllByRecursion (λ u. nat_eq t u ≡ false) (range_with_len first count)
others_above t first zero above = tt
others_above t first (suc count) above = (ne_eqb t first (λ same. omega arith), others_above t (first + 1) count (omega arith))

range_distinct : (first count : ℕ) → IsDistinct nat_eq (range_with_len first count)
unfolding IsDistinct
range_distinct first zero = tt
range_distinct first (suc count) = (others_above first (first + 1) count (omega arith), range_distinct (first + 1) count)

range_below : (first count most : ℕ) → first + count ≤ most → AllByRecursion (λ t. t < most) (range_with_len first count)
range_below first zero most few = tt
range_below first (suc count) most few = (omega arith, range_below (first + 1) count most (omega arith))

pub are_tiles : (count : ℕ) → AreTiles (suc count) (range_with_len 0 (suc count))
are_tiles count = record { some = omega arith; distinct = range_distinct 0 (suc count); inside = range_below 0 (suc count) (suc count) (omega arith) }

pub one_window_posts : (count : ℕ) → ArePosts (suc count) (range_with_len 0 (suc count) ∷ [])
one_window_posts count = record { few = omega arith; each = (are_tiles count, tt) }

range_more : (first count : ℕ) → range_with_len first (count + 1) ≡ range_with_len first count ++ (first + count) ∷ []
range_more first zero = ap (λ (n : ℕ). n ∷ []) (omega arith)
range_more first (suc count) =
    let next : suc count + 1 ≡ suc (count + 1) = omega arith in
    rw next (ap (λ (ns : List ℕ). first ∷ ns) (range_more (first + 1) count ∙ ap (λ (n : ℕ). range_with_len (first + 1) count ++ n ∷ []) (omega arith)))

-- one tile more
pub next_tile : (count : ℕ) → range_with_len 0 (count + 1) ≡ range_with_len 0 count ++ count ∷ []
next_tile count = range_more 0 count ∙ ap (λ (n : ℕ). range_with_len 0 count ++ n ∷ []) (omega arith)
