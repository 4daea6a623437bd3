-- Sums over lists, by the numbers of their elements.
use Rattle.std.proofs.Common.{◌≡◌, ℕ, zero, suc, ◌+◌, ◌<◌, ◌≤◌, refl, subst, arith, List, [], ◌∷◌, length, set, get_or, ⊎_elim}
use Rattle.std.proofs.lemmas.Bool.{cases_eq}
use Rattle.std.proofs.Math.Nat.{zero-add}
use Rattle.vc_bank.specs.Places.{sum_from}

-- the number of an element, counted from one more
next_number : (n k : ℕ) → suc n + k ≡ n + suc k
next_number n k = omega arith

-- a write changes the sum by what it takes out and what it puts in
pub sum_from-set : {X : Type 0} (f : ℕ → X → ℕ) (n : ℕ) (xs : List X) (k : ℕ) (x d : X) → k < length xs → sum_from f n (set xs k x) + f (n + k) (get_or xs k d) ≡ sum_from f n xs + f (n + k) x
sum_from-set f n [] k x d below = absurd (omega arith)
sum_from-set f n (y ∷ xs) zero x d below = let first : n + 0 ≡ n = omega arith in rw first (omega arith)
sum_from-set f n (y ∷ xs) (suc k) x d below =
    let rest = sum_from-set f (suc n) xs k x d (omega arith) in
    let rest_here : sum_from f (suc n) (set xs k x) + f (n + suc k) (get_or xs k d) ≡ sum_from f (suc n) xs + f (n + suc k) x = rw (next_number n k) at rest in
    omega arith

-- a sum that is positive has a positive part
sum_from-found : {X : Type 0} (f : ℕ → X → ℕ) (n : ℕ) (xs : List X) (d : X) → 0 < sum_from f n xs → (k : ℕ) × (k < length xs) × (0 < f (n + k) (get_or xs k d))
sum_from-found f n [] d some = absurd (omega arith)
sum_from-found f n (x ∷ xs) d some = ⊎_elim
    (λ none. let rest = sum_from-found f (suc n) xs d (omega arith) in (suc rest.0, omega arith, subst (λ (i : ℕ). 0 < f i (get_or xs rest.0 d)) (next_number n rest.0) rest.2))
    (λ here. let first : n ≡ n + 0 = omega arith in (0, omega arith, subst (λ (i : ℕ). 0 < f i x) first (omega arith)))
    (cases_eq (f n x) 0)

-- the same of numbers from 0 on
pub sum_from-found_at : {X : Type 0} (f : ℕ → X → ℕ) (xs : List X) (d : X) → 0 < sum_from f 0 xs → (k : ℕ) × (k < length xs) × (0 < f k (get_or xs k d))
sum_from-found_at f xs d some = let part = sum_from-found f 0 xs d some in (part.0, part.1, subst (λ (i : ℕ). 0 < f i (get_or xs part.0 d)) (zero-add part.0) part.2)

-- a sum whose parts are sums
pub sum_from-add : {X : Type 0} (f g h : ℕ → X → ℕ) → ((k : ℕ) (x : X) → f k x ≡ g k x + h k x) → (n : ℕ) (xs : List X) → sum_from f n xs ≡ sum_from g n xs + sum_from h n xs
sum_from-add f g h parts n [] = refl
sum_from-add f g h parts n (x ∷ xs) = omega (arith, parts n x, sum_from-add f g h parts (suc n) xs)

-- a sum whose parts are at most those of another
pub sum_from-le : {X : Type 0} (f g : ℕ → X → ℕ) → ((k : ℕ) (x : X) → f k x ≤ g k x) → (n : ℕ) (xs : List X) → sum_from f n xs ≤ sum_from g n xs
sum_from-le f g below n [] = omega arith
sum_from-le f g below n (x ∷ xs) = omega (arith, below n x, sum_from-le f g below (suc n) xs)
