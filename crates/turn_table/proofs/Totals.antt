-- Totals over lists, and over the notes of all views.
use Rattle.std.proofs.Common.{◌≡◌, ℕ, zero, suc, ◌+◌, ◌≤◌, ◌≢◌, List, [], ◌∷◌, ◌++◌, length, set, sym, refl, ap, ◌∙◌, arith}
use Rattle.std.specs.List.{enumerate_from}
use mathlib.Core.Option.{some, some-injective, some-ne-none}
use lib.ListN.{get_elem?}
use Rattle.turn_table.specs.Rule.{total, total_of_views}

module _ {A : Type 0} where
  pub total-append : (f : A → ℕ) (xs ys : List A) → total f (xs ++ ys) ≡ total f xs + total f ys
  total-append f [] ys = omega arith
  total-append f (x ∷ xs) ys = let rest = total-append f xs ys in omega arith

  pub total-set : (f : A → ℕ) (xs : List A) (i : ℕ) (old new : A) → get_elem? xs i ≡ some old → total f (set xs i new) + f old ≡ total f xs + f new
  total-set f [] i old new at = absurd (some-ne-none old (sym at))
  total-set f (x ∷ xs) zero old new at = let same : f x ≡ f old = ap f (some-injective x old at) in omega arith
  total-set f (x ∷ xs) (suc i) old new at = let rest = total-set f xs i old new at in omega arith

  -- one element weighs at most what all do
  pub total_at : (f : A → ℕ) (xs : List A) (i : ℕ) (a : A) → get_elem? xs i ≡ some a → f a ≤ total f xs
  total_at f [] i a at = absurd (some-ne-none a (sym at))
  total_at f (x ∷ xs) zero a at = let same : f x ≡ f a = ap f (some-injective x a at) in omega arith
  total_at f (x ∷ xs) (suc i) a at = let rest = total_at f xs i a at in omega arith

  -- and so do two elements
  pub total_at_two : (f : A → ℕ) (xs : List A) (i j : ℕ) (a b : A) → i ≢ j → get_elem? xs i ≡ some a → get_elem? xs j ≡ some b → f a + f b ≤ total f xs
  total_at_two f [] i j a b apart at at' = absurd (some-ne-none a (sym at))
  total_at_two f (x ∷ xs) zero zero a b apart at at' = absurd (apart refl)
  total_at_two f (x ∷ xs) zero (suc j) a b apart at at' = let same : f x ≡ f a = ap f (some-injective x a at) in let rest = total_at f xs j b at' in omega arith
  total_at_two f (x ∷ xs) (suc i) zero a b apart at at' = let same : f x ≡ f b = ap f (some-injective x b at') in let rest = total_at f xs i a at in omega arith
  total_at_two f (x ∷ xs) (suc i) (suc j) a b apart at at' = let rest = total_at_two f xs i j a b (λ (same : i ≡ j). apart (ap suc same)) at at' in omega arith

  -- where f is at most g at each element, its total is at most that of g
  pub total_le : (f g : A → ℕ) (xs : List A) → ((j : ℕ) (b : A) → get_elem? xs j ≡ some b → f b ≤ g b) → total f xs ≤ total g xs
  total_le f g [] le = omega arith
  total_le f g (x ∷ xs) le = let first = le 0 x refl in let rest = total_le f g xs (λ j b at. le (suc j) b at) in omega arith

  -- and what is missing at one element is missing in the total
  pub total_below : (f g : A → ℕ) (xs : List A) → ((j : ℕ) (b : A) → get_elem? xs j ≡ some b → f b ≤ g b) → (i : ℕ) (a : A) → get_elem? xs i ≡ some a → total f xs + g a ≤ total g xs + f a
  total_below f g [] le i a at = absurd (some-ne-none a (sym at))
  total_below f g (x ∷ xs) le zero a at =
      let same : f x ≡ f a = ap f (some-injective x a at) in
      let same' : g x ≡ g a = ap g (some-injective x a at) in
      let rest = total_le f g xs (λ j b at'. le (suc j) b at') in omega arith
  total_below f g (x ∷ xs) le (suc i) a at = let first = le 0 x refl in let rest = total_below f g xs (λ j b at'. le (suc j) b at') i a at in omega arith

  pub total-ones : (xs : List A) → total (λ _. 1) xs ≡ length xs
  total-ones [] = refl
  total-ones (x ∷ xs) = let rest = total-ones xs in omega arith

-- a weight that does not read the position
pub total-enumerate_from : (f : ℕ → ℕ) (i : ℕ) (xs : List ℕ) → total (λ (pair : ℕ × ℕ). f pair.1) (enumerate_from i xs) ≡ total f xs
total-enumerate_from f i [] = refl
total-enumerate_from f i (x ∷ xs) = let rest = total-enumerate_from f (i + 1) xs in omega arith

pub enumerate_from-snoc : (i : ℕ) (xs : List ℕ) (x : ℕ) → enumerate_from i (xs ++ x ∷ []) ≡ enumerate_from i xs ++ (i + length xs, x) ∷ []
enumerate_from-snoc i [] x = let here : i ≡ i + 0 = omega arith in ap (λ (k : ℕ). (k, x) ∷ []) here
enumerate_from-snoc i (y ∷ ys) x = let here : (i + 1) + length ys ≡ i + length (y ∷ ys) = omega arith in
    ap (λ rest. (i, y) ∷ rest) (enumerate_from-snoc (i + 1) ys x ∙ ap (λ (k : ℕ). enumerate_from (i + 1) ys ++ (k, x) ∷ []) here)

-- where a view has one note, before and after
pub total_of_views-set : {A : Type 0} (f : A → ℕ) (views : List (List A)) (i : ℕ) (old new : A) → get_elem? views i ≡ some (old ∷ []) → total_of_views f (set views i (new ∷ [])) + f old ≡ total_of_views f views + f new
total_of_views-set f views i old new at = let all = total-set (total f) views i (old ∷ []) (new ∷ []) at in omega arith

pub total_of_views_at : {A : Type 0} (f : A → ℕ) (views : List (List A)) (i : ℕ) (note : A) → get_elem? views i ≡ some (note ∷ []) → f note ≤ total_of_views f views
total_of_views_at f views i note at = let all = total_at (total f) views i (note ∷ []) at in omega arith
