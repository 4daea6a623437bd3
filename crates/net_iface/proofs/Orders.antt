-- The order of windows, front by front.
use Rattle.std.proofs.Common.{◌≡◌, ℕ, zero, suc, ◌+◌, ◌-◌, ◌%◌, ◌<◌, ◌≤◌, Bool, true, false, ◌&&◌, ◌||◌, ◌==◌, List, [], ◌∷◌, ◌++◌, length, take, drop, refl, sym, ◌∙◌, ap, inl, inr, append_assoc, append-nil, arith, length-append, length-take-le}
use Rattle.std.specs.Prelude.{slice_get, filter, nat_lt, nat_le, Some}
use Rattle.std.specs.List.{AllByRecursion}
use Rattle.std.proofs.lemmas.Bool.{cases_Bool, true≢false, and_cases}
use Rattle.std.proofs.lemmas.Bool.Decides.{nat_tests}
use Rattle.std.proofs.lemmas.List.{take-append-drop}
use Rattle.std.proofs.lemmas.List.Folds.{list_any-append}
use Rattle.mesh_gen.specs.TileSet.{has_tile, is_among}
use Rattle.mesh_gen.proofs.TileSets.{has_tile-none, same_sets, is_among-filter}
use Rattle.order_tracker.specs.Order.{upwards, round_from, expansion, order_from, order}
use Rattle.order_tracker.specs.Tracker.{IsWindow}
use Rattle.order_tracker.proofs.Priorities.{has_tile-below}

-- ---- windows one after another

pub order_from-append : (n k : ℕ) (xs ys : List ℕ) → order_from n k (xs ++ ys) ≡ order_from n k xs ++ order_from n (k + length xs) ys
order_from-append n k [] ys = ap (λ (j : ℕ). order_from n j ys) (omega arith)
order_from-append n k (x ∷ xs) ys =
    let later : k + 1 + length xs ≡ k + length (x ∷ xs) = omega arith in
    ap (λ (rest : List ℕ). expansion n k x ++ rest) (order_from-append n (k + 1) xs ys)
    ∙ sym (append_assoc (expansion n k x) (order_from n (k + 1) xs) (order_from n (k + 1 + length xs) ys))
    ∙ ap (λ (j : ℕ). (expansion n k x ++ order_from n (k + 1) xs) ++ order_from n j ys) later

-- one window more
pub order-push : (n : ℕ) (windows : List ℕ) (window : ℕ) → order n (windows ++ window ∷ []) ≡ order n windows ++ expansion n (length windows) window
order-push n windows window = by (order_from-append n 0 windows (window ∷ []))
  where
    same : (j : ℕ) → j ≡ length windows → expansion n j window ++ [] ≡ expansion n (length windows) window
    same j is = rw (is, append-nil) refl

    by : order_from n 0 (windows ++ window ∷ []) ≡ order_from n 0 windows ++ (expansion n (0 + length windows) window ++ []) → order n (windows ++ window ∷ []) ≡ order n windows ++ expansion n (length windows) window
    by split = split ∙ ap (λ (rest : List ℕ). order n windows ++ rest) (same (0 + length windows) (omega arith))

-- the order of the first windows, and what follows
pub order_split : (n k : ℕ) (windows : List ℕ) → k ≤ length windows → order n windows ≡ order n (take k windows) ++ order_from n k (drop k windows)
order_split n k windows within =
    let split = order_from-append n 0 (take k windows) (drop k windows) in
    let start : 0 + length (take k windows) ≡ k = omega (arith, length-take-le k windows within) in
    ap (λ (ws : List ℕ). order_from n 0 ws) (sym (take-append-drop k windows)) ∙ split
    ∙ ap (λ (j : ℕ). order n (take k windows) ++ order_from n j (drop k windows)) start

-- ---- every window has a tile

is_among-upwards : (a c t : ℕ) → is_among (upwards a c) t ≡ (nat_le a t && nat_lt t (a + c))
is_among-upwards a zero t = grind (arith, nat_tests)
is_among-upwards a (suc c) t = let rest = is_among-upwards (a + 1) c t in rw rest (first_or_later a c t)
  where
    first_or_later : (a c t : ℕ) → ((a == t) || (nat_le (a + 1) t && nat_lt t (a + 1 + c))) ≡ (nat_le a t && nat_lt t (a + suc c))
    first_or_later a c t = grind (arith, nat_tests)

-- a round has each tile
pub is_among-round_from : (n first t : ℕ) → first ≤ n → t < n → is_among (round_from n first) t ≡ true
is_among-round_from n first t within inside =
    list_any-append (λ s. s == t) (upwards first (n - first)) (upwards 0 first)
    ∙ rw (is_among-upwards first (n - first) t, is_among-upwards 0 first t) (grind (arith, nat_tests))

none_among : (p : ℕ → Bool) (list : List ℕ) (t : ℕ) → filter p list ≡ [] → is_among list t ≡ true → p t ≡ false
none_among p list t none among =
    let both : (is_among list t && p t) ≡ false = sym (is_among-filter p list t) ∙ ap (λ (rest : List ℕ). is_among rest t) none in
    elim (and_cases (is_among list t) (p t) both) [ inl not_there ↦ absurd (true≢false (sym among ∙ not_there)) | inr fails ↦ fails ]

some_or_none : (n k window : ℕ) (turns : List ℕ) → expansion n k window ≡ turns → 0 < n → IsWindow n window → 0 < length turns
some_or_none n k window (t ∷ turns) is some fits = omega arith
some_or_none n k window [] is some fits =
    let first : k % n < n = omega arith in
    let empty : window ≡ 0 = same_sets window 0 (λ t. elim (cases_Bool (has_tile window t)) [
      | inl there ↦
          let inside = has_tile-below n window t fits.inside there in
          absurd (true≢false (sym there ∙ none_among (has_tile window) (round_from n (k % n)) t is (is_among-round_from n (k % n) t (omega arith) inside)))
      | inr not_there ↦ not_there ∙ sym (has_tile-none t)
    ]) in
    absurd (omega (arith, fits.some))

pub expansion-some : (n k window : ℕ) → 0 < n → IsWindow n window → 0 < length (expansion n k window)
expansion-some n k window some fits = some_or_none n k window (expansion n k window) refl some fits

-- so windows have at least one request each
pub length-order_from-ge : (n k : ℕ) (windows : List ℕ) → 0 < n → AllByRecursion (IsWindow n) windows → length windows ≤ length (order_from n k windows)
length-order_from-ge n k [] some fit = omega arith
length-order_from-ge n k (window ∷ windows) some fit =
    omega (arith, expansion-some n k window some fit.0, length-order_from-ge n (k + 1) windows some fit.1, length-append (expansion n k window) (order_from n (k + 1) windows))

-- what is said of each window by its number, of all
pub each_window : (P : ℕ → Type 0) (windows : List ℕ) → ((k window : ℕ) → slice_get windows k ≡ Some window → P window) → AllByRecursion P windows
each_window P [] each = tt
each_window P (window ∷ windows) each = (each 0 window refl, each_window P windows (λ k. each (suc k)))
