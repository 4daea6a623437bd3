-- The first possible one of the events that a tile tries.
use Rattle.std.proofs.Common.{◌≡◌, ℕ, zero, suc, ◌+◌, ◌-◌, ◌*◌, ◌%◌, ◌<◌, ◌≤◌, Bool, true, false, cond, List, [], ◌∷◌, ◌++◌, Some, length, length-append, take, drop, refl, sym, ◌∙◌, ap, arith, inl, inr}
use Rattle.std.specs.Prelude.{filter, find, slice_get}
use Rattle.std.proofs.lemmas.Bool.{cases_lt}
use Rattle.std.proofs.lemmas.Nat.{mod-mul-add}

-- ---- places of a list that begins at an offset and goes round

get_drop : {X : Type 0} (o k : ℕ) (xs : List X) → slice_get (drop o xs) k ≡ slice_get xs (o + k)
get_drop zero k xs = ap (slice_get xs) (omega arith)
get_drop (suc o) k [] = refl
get_drop (suc o) k (x ∷ xs) = let same : suc o + k ≡ suc (o + k) = omega arith in get_drop o k xs ∙ ap (slice_get (x ∷ xs)) (sym same)

get_take : {X : Type 0} (n k : ℕ) (xs : List X) → k < n → slice_get (take n xs) k ≡ slice_get xs k
get_take zero k xs below = absurd (omega (arith, below))
get_take (suc n) k [] below = refl
get_take (suc n) zero (x ∷ xs) below = refl
get_take (suc n) (suc k) (x ∷ xs) below = get_take n k xs (omega (arith, below))

get_first : {X : Type 0} (xs ys : List X) (k : ℕ) → k < length xs → slice_get (xs ++ ys) k ≡ slice_get xs k
get_first [] ys k below = absurd (omega (arith, below))
get_first (x ∷ xs) ys zero below = refl
get_first (x ∷ xs) ys (suc k) below = get_first xs ys k (omega (arith, below))

get_second : {X : Type 0} (xs ys : List X) (k : ℕ) → slice_get (xs ++ ys) (length xs + k) ≡ slice_get ys k
get_second [] ys k = ap (slice_get ys) (omega arith)
get_second (x ∷ xs) ys k =
    let same : length (x ∷ xs) + k ≡ suc (length xs + k) = omega arith in ap (slice_get (x ∷ (xs ++ ys))) same ∙ get_second xs ys k

drop_long : {X : Type 0} (o : ℕ) (xs : List X) → o ≤ length xs → length (drop o xs) + o ≡ length xs
drop_long zero xs within = omega arith
drop_long (suc o) [] within = absurd (omega (arith, within))
drop_long (suc o) (x ∷ xs) within = omega (arith, drop_long o xs (omega (arith, within)))

-- the turned list is as long
pub turned_long : {X : Type 0} (xs : List X) (o : ℕ) → o ≤ length xs → length (drop o xs ++ take o xs) ≡ length xs
turned_long xs o within = omega (arith, length-append (drop o xs) (take o xs), drop_long o xs within, take_long o xs within)
  where
    take_long : {X : Type 0} (o : ℕ) (xs : List X) → o ≤ length xs → length (take o xs) ≡ o
    take_long zero xs within = refl
    take_long (suc o) [] within = absurd (omega (arith, within))
    take_long (suc o) (x ∷ xs) within = ap suc (take_long o xs (omega (arith, within)))

-- a place that is turned by an offset, before the end and after it
turned_first : (n o k : ℕ) → o + k < n → (o + k) % n ≡ o + k
turned_first n o k below = let same : 0 * n + (o + k) ≡ o + k = omega arith in ap (λ (m : ℕ). m % n) (sym same) ∙ mod-mul-add 0 n (o + k) below

turned_second : (n o k : ℕ) → o < n → k < n → n ≤ o + k → (o + k) % n ≡ o + k - n
turned_second n o k inside below beyond =
    let same : 1 * n + (o + k - n) ≡ o + k = omega (arith, beyond) in
    ap (λ (m : ℕ). m % n) (sym same) ∙ mod-mul-add 1 n (o + k - n) (omega (arith, inside, below, beyond))

-- the element at a place of the turned list
pub turned_at : {X : Type 0} (xs : List X) (o k j : ℕ) → o < length xs → k < length xs → j ≡ (o + k) % length xs
    → slice_get (drop o xs ++ take o xs) k ≡ slice_get xs j
turned_at xs o k j inside below is = elim (cases_lt k (length (drop o xs))) [
  | inl first ↦ (
      let long = drop_long o xs (omega (arith, inside)) in
      let same : o + k ≡ j = omega (arith, is, turned_first (length xs) o k (omega (arith, long, first))) in
      get_first (drop o xs) (take o xs) k first ∙ get_drop o k xs ∙ ap (slice_get xs) same)
  | inr second ↦ (
      let long = drop_long o xs (omega (arith, inside)) in
      let rest : length (drop o xs) + (k - length (drop o xs)) ≡ k = omega (arith, second) in
      let same : k - length (drop o xs) ≡ j = omega (arith, long, second, is, turned_second (length xs) o k inside below (omega (arith, long, second))) in
      ap (slice_get (drop o xs ++ take o xs)) (sym rest)
      ∙ get_second (drop o xs) (take o xs) (k - length (drop o xs))
      ∙ get_take o (k - length (drop o xs)) xs (omega (arith, long, second, below))
      ∙ ap (slice_get xs) same)
]

-- ---- the first one that passes

-- none of those that are kept passes
abbrev pub NonePasses : {X : Type 0} → (X → Bool) → (X → Bool) → List X → ℕ → Type 0
NonePasses {X} keep test xs n = (k : ℕ) (x : X) → k < n → slice_get xs k ≡ Some x → keep x ≡ true → test x ≡ false

pub none_before : {X : Type 0} (keep test : X → Bool) (xs ys : List X) → NonePasses keep test xs (length xs) → find test (filter keep xs ++ ys) ≡ find test ys
none_before keep test [] ys none = refl
none_before {X} keep test (x ∷ xs) ys none = by (keep x) refl (none_before keep test xs ys (λ k y below at kept. none (suc k) y (omega (arith, below)) at kept))
  where
    by : (kept : Bool) → keep x ≡ kept → find test (filter keep xs ++ ys) ≡ find test ys → find test (cond kept (x ∷ filter keep xs) (filter keep xs) ++ ys) ≡ find test ys
    by true is rest = rw (none 0 x (omega arith) refl is) rest
    by false is rest = rest

pub first_passes : {X : Type 0} (keep test : X → Bool) (xs ys : List X) (n : ℕ) (x : X) → slice_get xs n ≡ Some x → keep x ≡ true → test x ≡ true
    → NonePasses keep test xs n → find test (filter keep xs ++ ys) ≡ Some x
first_passes keep test [] ys n x at kept passes none = cc
first_passes keep test (y ∷ xs) ys zero x at kept passes none =
    let same : y ≡ x = cc in rw (same, kept, passes) refl
first_passes keep test (y ∷ xs) ys (suc n) x at kept passes none =
    by (keep y) refl (first_passes keep test xs ys n x at kept passes (λ k z below there is_kept. none (suc k) z (omega (arith, below)) there is_kept))
  where
    by : (k : Bool) → keep y ≡ k → find test (filter keep xs ++ ys) ≡ Some x → find test (cond k (y ∷ filter keep xs) (filter keep xs) ++ ys) ≡ Some x
    by true is rest = rw (none 0 y (omega arith) refl is) rest
    by false is rest = rest
