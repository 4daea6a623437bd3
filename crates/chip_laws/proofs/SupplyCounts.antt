-- Sums and counts over lists, as one element changes and as a list grows.
use Rattle.std.proofs.Common.{◌≡◌, ◌≢◌, ℕ, zero, suc, ◌+◌, ◌<◌, ◌≤◌, Bool, cond, List, [], ◌∷◌, ◌++◌, length, set, drop, refl, sym, ◌∙◌, ap, arith, inl, inr, Option, Some, None}
use Rattle.std.specs.Prelude.{slice_get, slice_index_or}
use Rattle.std.specs.List.{sum_by, count_by}
use Rattle.std.proofs.lemmas.Bool.{cases_eq}
use Rattle.std.proofs.lemmas.List.Sums.{sum_by-cons, sum_by-append}
use Rattle.mesh_gen.specs.Ports.{count_if}
use Rattle.order_tracker.specs.Order.{upwards}
use Rattle.chip_laws.proofs.Options.{none_some}

pub count_by-cons : {X : Type 0} (p : X → Bool) (x : X) (xs : List X) → count_by p (x ∷ xs) ≡ count_if (p x) + count_by p xs
count_by-cons p x xs = sum_by-cons (λ y. cond (p y) 1 0) x xs

pub count_by-append : {X : Type 0} (p : X → Bool) (xs ys : List X) → count_by p (xs ++ ys) ≡ count_by p xs + count_by p ys
count_by-append p xs ys = sum_by-append (λ y. cond (p y) 1 0) xs ys

-- one element is replaced
pub sum_by-set : {X : Type 0} (f : X → ℕ) (xs : List X) (k : ℕ) (x y : X) → slice_get xs k ≡ Some x → sum_by f (set xs k y) + f x ≡ sum_by f xs + f y
sum_by-set f [] k x y at = none_some x at
sum_by-set f (z ∷ xs) zero x y at =
    let same : f z ≡ f x = ap f (cc) in
    omega (arith, sum_by-cons f z xs, sum_by-cons f y xs)
sum_by-set f (z ∷ xs) (suc k) x y at =
    omega (arith, sum_by-cons f z xs, sum_by-cons f z (set xs k y), sum_by-set f xs k x y at)

-- the first one leaves
pub count_by-drop : {X : Type 0} (p : X → Bool) (xs : List X) (x : X) → slice_get xs 0 ≡ Some x → count_by p (drop 1 xs) + count_if (p x) ≡ count_by p xs
count_by-drop p [] x at = none_some x at
count_by-drop p (y ∷ xs) x at =
    let same : count_if (p y) ≡ count_if (p x) = ap (λ z. count_if (p z)) (cc) in
    omega (arith, count_by-cons p y xs)

pub slice_of_index : {X : Type 0} (xs : List (Option X)) (k : ℕ) (x : X) → slice_index_or xs k None ≡ Some x → slice_get xs k ≡ Some (Some x)
slice_of_index [] k x at = none_some x at
slice_of_index (y ∷ xs) zero x at = ap Some at
slice_of_index (y ∷ xs) (suc k) x at = slice_of_index xs k x at

-- ---- counts of places
pub count_by-same : (p q : ℕ → Bool) (start count : ℕ) → ((k : ℕ) → start ≤ k → k < start + count → p k ≡ q k) → count_by p (upwards start count) ≡ count_by q (upwards start count)
count_by-same p q start zero same = refl
count_by-same p q start (suc count) same =
    let here : count_if (p start) ≡ count_if (q start) = ap count_if (same start (omega arith) (omega arith)) in
    let rest = count_by-same p q (start + 1) count (λ k above below. same k (omega arith) (omega arith)) in
    omega (arith, count_by-cons p start (upwards (start + 1) count), count_by-cons q start (upwards (start + 1) count))

-- two tests that differ at one place
pub count_by-one : (p q : ℕ → Bool) (start count place : ℕ) → start ≤ place → place < start + count → ((k : ℕ) → k ≢ place → p k ≡ q k)
    → count_by p (upwards start count) + count_if (q place) ≡ count_by q (upwards start count) + count_if (p place)
count_by-one p q start zero place above below same = absurd (omega arith)
count_by-one p q start (suc count) place above below same = elim (cases_eq start place) [
  | inl here ↦ (
      let rest = count_by-same p q (start + 1) count (λ k beyond within. same k (λ at. absurd (omega (arith, at, here)))) in
      let first_p : count_if (p start) ≡ count_if (p place) = ap (λ k. count_if (p k)) here in
      let first_q : count_if (q start) ≡ count_if (q place) = ap (λ k. count_if (q k)) here in
      omega (arith, count_by-cons p start (upwards (start + 1) count), count_by-cons q start (upwards (start + 1) count)))
  | inr away ↦ (
      let first : count_if (p start) ≡ count_if (q start) = ap count_if (same start away) in
      let rest = count_by-one p q (start + 1) count place (beyond start place above away) (omega arith) same in
      omega (arith, count_by-cons p start (upwards (start + 1) count), count_by-cons q start (upwards (start + 1) count)))
]
  where
    beyond : (a b : ℕ) → a ≤ b → a ≢ b → a + 1 ≤ b
    beyond a b le ne = elim (cases_eq b a) [ inl same ↦ absurd (ne (sym same)) | inr other ↦ omega arith ]

-- the places of a list, each tested by what stands there
pub count_by-places : {X : Type 0} (p : ℕ → Bool) (q : X → Bool) (xs : List X) (start : ℕ) → ((k : ℕ) (x : X) → slice_get xs k ≡ Some x → p (start + k) ≡ q x)
    → count_by p (upwards start (length xs)) ≡ count_by q xs
count_by-places p q [] start same = refl
count_by-places p q (x ∷ xs) start same =
    let at : start ≡ start + 0 = omega arith in
    let here : count_if (p start) ≡ count_if (q x) = ap count_if (ap p at ∙ same 0 x refl) in
    let rest = count_by-places p q xs (start + 1) (λ k y is. ap p (let next : start + 1 + k ≡ start + suc k = omega arith in next) ∙ same (suc k) y is) in
    omega (arith, count_by-cons p start (upwards (start + 1) (length xs)), count_by-cons q x xs)

pub upwards-append : (start m n : ℕ) → upwards start (m + n) ≡ upwards start m ++ upwards (start + m) n
upwards-append start zero n =
    let same : start ≡ start + 0 = omega arith in
    let none : zero + n ≡ n = omega arith in
    ap (upwards start) none ∙ ap (λ k. upwards k n) same
upwards-append start (suc m) n =
    let more : suc m + n ≡ suc (m + n) = omega arith in
    let next : start + 1 + m ≡ start + suc m = omega arith in
    ap (upwards start) more ∙ ap (λ (rest : List ℕ). start ∷ rest) (upwards-append (start + 1) m n ∙ ap (λ k. upwards (start + 1) m ++ upwards k n) next)
