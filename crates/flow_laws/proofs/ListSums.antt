-- Sums, counts and filters of lists, by what stands in the lists.
use Rattle.std.proofs.Common.{◌≡◌, ℕ, zero, suc, ◌<◌, Bool, true, false, cond, List, [], ◌∷◌, Some, get_or, refl, ap, subst, inl, inr, arith}
use Rattle.std.specs.Prelude.{slice_get, filter, count_by}
use Rattle.std.specs.List.{sum_by, list_all, fold}
use Rattle.std.proofs.lemmas.Bool.{cases_lt}
use Rattle.std.proofs.lemmas.List.Sums.{sum_by-cons, AllPass-from_list_all, list_all-from_AllPass}
use Rattle.std.proofs.lemmas.Option.{slice_get_within, slice_get-get_or, get_or_from_slice_get}

-- an item of a list that passes a test
pub record HasPassing {X : Type 0} (p : X → Bool) (xs : List X) (x : X) : Type 0 where
  pub place : ℕ
  pub there : slice_get xs place ≡ Some x
  pub passes : p x ≡ true

-- what a filter keeps stands in the list, and passes
pub kept_passes : {X : Type 0} (p : X → Bool) (xs : List X) (k : ℕ) (x : X) → slice_get (filter p xs) k ≡ Some x → HasPassing p xs x
kept_passes p [] k x there = cc
kept_passes {X} p (first ∷ xs) k x there = by (p first) refl k (λ j is. kept_passes p xs j x is) there
  where
    later : HasPassing p xs x → HasPassing p (first ∷ xs) x
    later rest = record { place = suc rest.place; there = rest.there; passes = rest.passes }

    by : (b : Bool) → p first ≡ b → (k : ℕ) → ((j : ℕ) → slice_get (filter p xs) j ≡ Some x → HasPassing p xs x) → slice_get (cond b (first ∷ filter p xs) (filter p xs)) k ≡ Some x
        → HasPassing p (first ∷ xs) x
    by true is zero rest there = let same : first ≡ x = cc in record { place = 0; there = ap Some same; passes = subst (λ (y : X). p y ≡ true) same is }
    by true is (suc k) rest there = later (rest k there)
    by false is k rest there = later (rest k there)

-- an item that adds to a sum
pub record Adds {X : Type 0} (f : X → ℕ) (xs : List X) : Type 0 where
  pub place : ℕ
  pub item : X
  pub there : slice_get xs place ≡ Some item
  pub some : 0 < f item

pub sum_some : {X : Type 0} (f : X → ℕ) (xs : List X) → 0 < sum_by f xs → Adds f xs
sum_some f [] some = absurd (omega arith)
sum_some f (x ∷ xs) some = elim (cases_lt 0 (f x)) [
  | inl here ↦ record { place = 0; item = x; there = refl; some = here }
  | inr none ↦ let rest = sum_some f xs (omega (arith, sum_by-cons f x xs)) in record { place = suc rest.place; item = rest.item; there = rest.there; some = rest.some }
]

pub sum_none : {X : Type 0} (f : X → ℕ) (xs : List X) → ((k : ℕ) (x : X) → slice_get xs k ≡ Some x → f x ≡ 0) → sum_by f xs ≡ 0
sum_none f [] none = refl
sum_none f (x ∷ xs) none =
    let first = none 0 x refl in
    let rest = sum_none f xs (λ k y there. none (suc k) y there) in
    omega (arith, sum_by-cons f x xs)

-- an item that is counted
pub record Counts {X : Type 0} (p : X → Bool) (xs : List X) : Type 0 where
  pub place : ℕ
  pub item : X
  pub there : slice_get xs place ≡ Some item
  pub passes : p item ≡ true

pub count_some : {X : Type 0} (p : X → Bool) (xs : List X) → 0 < count_by p xs → Counts p xs
count_some {X} p xs some =
    let one = sum_some (λ x. cond (p x) 1 0) xs some in
    record { place = one.place; item = one.item; there = one.there; passes = passes (p one.item) one.some }
  where
    passes : (b : Bool) → 0 < cond b 1 0 → b ≡ true
    passes true some = refl
    passes false some = absurd (omega arith)

pub count_none : {X : Type 0} (p : X → Bool) (xs : List X) → ((k : ℕ) (x : X) → slice_get xs k ≡ Some x → p x ≡ false) → count_by p xs ≡ 0
count_none p xs none = sum_none (λ x. cond (p x) 1 0) xs (λ k x there. ap (λ (b : Bool). cond b 1 0) (none k x there))

-- ---- folds, and tests of every item
pub fold_keeps : {A B : Type 0} (P : B → Type 0) (f : B → A → B) (xs : List A) (b : B) → P b → ((k : ℕ) (x : A) (b : B) → slice_get xs k ≡ Some x → P b → P (f b x)) → P (fold f b xs)
fold_keeps P f [] b first each = first
fold_keeps P f (x ∷ xs) b first each = fold_keeps P f xs (f b x) (each 0 x b refl first) (λ k y b there kept. each (suc k) y b there kept)

pub all_pass : {X : Type 0} (p : X → Bool) (xs : List X) → ((k : ℕ) (x : X) → slice_get xs k ≡ Some x → p x ≡ true) → list_all p xs ≡ true
all_pass p xs each = list_all-from_AllPass p xs (λ k d within. each k (get_or xs k d) (slice_get-get_or xs k d within))

pub passes_at : {X : Type 0} (p : X → Bool) (xs : List X) → list_all p xs ≡ true → (k : ℕ) (x : X) → slice_get xs k ≡ Some x → p x ≡ true
passes_at {X} p xs all k x there =
    subst (λ (y : X). p y ≡ true) (get_or_from_slice_get xs k x x there) (AllPass-from_list_all p xs all k x (slice_get_within xs k x there))
