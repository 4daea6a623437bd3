-- Sums over lists that a step changes.
use Rattle.std.proofs.Common.{◌≡◌, ℕ, zero, suc, ◌+◌, ◌-◌, ◌*◌, ◌<◌, ◌≤◌, Bool, true, false, cond, List, [], ◌∷◌, Option, Some, None, length, refl, arith}
use Rattle.std.specs.List.{sum_by, filter_map, cons_option}
use Rattle.std.proofs.Math.Nat.{mul-add}
use Rattle.std.proofs.lemmas.List.Sums.{sum_by-cons}
use Rattle.mesh_gen.specs.Ports.{count_if}
use Rattle.order_tracker.specs.Order.{upwards}

-- a test counts one or none
pub counts_one : (b : Bool) → b ≡ true → count_if b ≡ 1
counts_one true is = refl
counts_one false is = cc

pub counts_none : (b : Bool) → b ≡ false → count_if b ≡ 0
counts_none true is = cc
counts_none false is = refl

pub cond_le : (b : Bool) (n : ℕ) → cond b n 0 ≤ n
cond_le true n = omega arith
cond_le false n = omega arith

pub sum_same : {X : Type 0} (f g : X → ℕ) (xs : List X) → ((x : X) → f x ≡ g x) → sum_by f xs ≡ sum_by g xs
sum_same f g [] same = refl
sum_same f g (x ∷ xs) same =
    let rest = sum_same f g xs same in
    let first = same x in
    omega (arith, sum_by-cons f x xs, sum_by-cons g x xs)

-- where each part grows by at most so much, the sum grows by at most so much for each
pub sum_rises : {X : Type 0} (f g : X → ℕ) (more : ℕ) (xs : List X) → ((x : X) → f x ≤ g x + more) → sum_by f xs ≤ sum_by g xs + more * length xs
sum_rises f g more [] each = omega arith
sum_rises f g more (x ∷ xs) each =
    let rest = sum_rises f g more xs each in
    let first = each x in
    omega (arith, sum_by-cons f x xs, sum_by-cons g x xs, mul-add more 1 (length xs))

-- a product whose factor falls by one
pub product_falls : (price a b : ℕ) → b < a → price * (a - (b + 1)) + price ≡ price * (a - b)
product_falls price a b less = let split : a - b ≡ (a - (b + 1)) + 1 = omega arith in rw split (omega (arith, mul-add price (a - (b + 1)) 1))

pub length-filter_map-le : {X Y : Type 0} (h : X → Option Y) (xs : List X) → length (filter_map h xs) ≤ length xs
length-filter_map-le h [] = omega arith
length-filter_map-le {X} {Y} h (x ∷ xs) = by (h x) (length-filter_map-le h xs)
  where
    by : (first : Option Y) → length (filter_map h xs) ≤ length xs → length (cons_option first (filter_map h xs)) ≤ length (x ∷ xs)
    by None rest = omega arith
    by (Some y) rest = omega arith

-- where each part is at most one, the sum is at most their number
pub sum_ones : (f : ℕ → ℕ) (first count : ℕ) → ((x : ℕ) → f x ≤ 1) → sum_by f (upwards first count) ≤ count
sum_ones f first zero each = omega arith
sum_ones f first (suc count) each =
    let rest = sum_ones f (first + 1) count each in
    let here = each first in
    omega (arith, sum_by-cons f first (upwards (first + 1) count))
