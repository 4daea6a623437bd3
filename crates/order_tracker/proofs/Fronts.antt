-- The first window that is not used up, and what comes next from it.
use Rattle.std.proofs.Common.{◌≡◌, ℕ, ◌+◌, ◌*◌, ◌%◌, ◌^◌, ◌<◌, ◌≤◌, List, [], ◌∷◌, ◌++◌, drop, Option, None, Some, option_map, refl, ◌∙◌, ap, subst, arith, bit_and, w64}
use Rattle.std.specs.Prelude.{slice_get, slice_index}
use Rattle.std.specs.List.{AllByRecursion}
use Rattle.std.specs.Int.{bit_not}
use Rattle.std.proofs.Math.Pow.{pow_mono}
use Rattle.order_tracker.specs.Order.{order_from}
use Rattle.order_tracker.specs.Tracker.{TrackerState, IsWindow, left_of, next_request_of}
use Rattle.order_tracker.specs.FirstFrom.{IsFirstFrom}
use Rattle.order_tracker.proofs.Priorities.{Loses, has_tile-below, round_first, expansion-none}
use Rattle.order_tracker.proofs.Words.{has_tile-without}

-- a list by its first item
pub front_is : {X : Type 0} (xs : List X) (x : X) → slice_get xs 0 ≡ Some x → xs ≡ x ∷ drop 1 xs
front_is [] x is = cc
front_is (y ∷ ys) x is = let same : y ≡ x = cc in ap (λ z. z ∷ ys) same

pub front_none : {X : Type 0} (xs : List X) → slice_get xs 0 ≡ None → xs ≡ []
front_none [] is = refl
front_none (y ∷ ys) is = cc

pub first_all : {X : Type 0} (P : X → Type 0) (xs : List X) (x : X) → AllByRecursion P xs → slice_get xs 0 ≡ Some x → P x
first_all P [] x all is = cc
first_all P (y ∷ ys) x all is = let same : y ≡ x = cc in subst P same all.0

pub rest_all : {X : Type 0} (P : X → Type 0) (xs : List X) → AllByRecursion P xs → AllByRecursion P (drop 1 xs)
rest_all P [] all = tt
rest_all P (y ∷ ys) all = all.1

-- the words of a mesh's tiles fit
pub fits_word : (tiles window : ℕ) → tiles ≤ 64 → window < 2 ^ tiles → window < 2 ^ 64
fits_word tiles window few small = omega (arith, pow_mono {i = tiles} {j = 64} few)

module _ (tiles number window t : ℕ) (tail : List ℕ) (some : 0 < tiles) (few : tiles ≤ 64) (small : window < 2 ^ tiles) (is : IsFirstFrom window (number % tiles) t) where
  -- what is left begins with the first tile of the first window
  pub left_is : (rest : ℕ) → Loses window t rest → order_from tiles number (window ∷ tail) ≡ t ∷ order_from tiles number (rest ∷ tail)
  left_is rest loses =
      ap (λ (xs : List ℕ). xs ++ order_from tiles (number + 1) tail) (round_first tiles (number % tiles) window t rest (omega arith) few small is loses)

  -- and with nothing more of that window where it was its last tile
  pub left_is_last : Loses window t 0 → order_from tiles number (window ∷ tail) ≡ t ∷ order_from tiles (number + 1) tail
  left_is_last loses =
      left_is 0 loses ∙ ap (λ (xs : List ℕ). t ∷ (xs ++ order_from tiles (number + 1) tail)) (expansion-none tiles number)

  pub head_is : slice_get (order_from tiles number (window ∷ tail)) 0 ≡ Some t
  head_is =
      ap (λ (xs : List ℕ). slice_get xs 0) (left_is (bit_and window (bit_not w64 (1 * 2 ^ t % 2 ^ 64))) (λ u. has_tile-without window t u (fits_word tiles window few small) is.word))

  pub source_below : t < tiles
  source_below = has_tile-below tiles window t small is.inside

-- the request that comes next
pub next_is : (s : TrackerState) (window t : ℕ) → 0 < s.tiles → s.tiles ≤ 64 → AllByRecursion (IsWindow s.tiles) s.windows → slice_get s.windows 0 ≡ Some window
    → IsFirstFrom window (s.number % s.tiles) t → next_request_of s ≡ Some (t, slice_index s.used t)
next_is s window t some few all front is =
    let small = (first_all (IsWindow s.tiles) s.windows window all front).inside in
    let head : slice_get (left_of s) 0 ≡ Some t = ap (λ (ws : List ℕ). slice_get (order_from s.tiles s.number ws) 0) (front_is s.windows window front) ∙ head_is s.tiles s.number window t (drop 1 s.windows) some few small is in
    ap (λ (o : Option ℕ). option_map {U = ℕ × ℕ} (λ source. (source, slice_index s.used source)) o) head

pub next_none : (s : TrackerState) → slice_get s.windows 0 ≡ None → next_request_of s ≡ None
next_none s none = rw (front_none s.windows none) refl
