-- What was read at a place of a list.
use Rattle.std.proofs.Common.{◌≡◌, ◌≢◌, ℕ, zero, suc, ◌+◌, ◌<◌, ◌≤◌, List, [], ◌∷◌, length, set, get_or, Option, Some, None, refl, sym, ◌∙◌, ap, arith}
use Rattle.std.specs.Prelude.{slice_get}
use Rattle.std.proofs.lemmas.List.{get_or_default}
use Rattle.std.proofs.lemmas.Option.{slice_get-get_or}

pub slice_at : {X : Type 0} (xs : List X) (k t : ℕ) (x : X) → k ≡ t → k < length xs → x ≡ get_or xs k x → slice_get xs t ≡ Some x
slice_at xs k t x same inside is = ap (slice_get xs) (sym same) ∙ slice_get-get_or xs k x inside ∙ ap Some (sym is)

-- an item that was read is the one that is known to be there
pub same_item : {X : Type 0} (xs : List X) (k t : ℕ) (x y : X) → k ≡ t → k < length xs → x ≡ get_or xs k x → slice_get xs t ≡ Some y → x ≡ y
same_item xs k t x y same inside is there = let here = slice_at xs k t x same inside is in cc

-- where nothing is found, the list has ended
pub past_end : {X : Type 0} (xs : List X) (t : ℕ) → slice_get xs t ≡ None → length xs ≤ t
past_end [] t none = omega arith
past_end (x ∷ xs) zero none = cc
past_end (x ∷ xs) (suc t) none = let rest = past_end xs t none in omega arith

pub same_some : {X : Type 0} (a b : X) → ◌≡◌ {A = Option X} (Some a) (Some b) → a ≡ b
same_some a b same = cc

-- a place within the list has an item
pub record HasItem {X : Type 0} (xs : List X) (k : ℕ) : Type 0 where
  pub item : X
  pub there : slice_get xs k ≡ Some item

pub item_at : {X : Type 0} (xs : List X) (k : ℕ) → k < length xs → HasItem xs k
item_at [] k inside = absurd (omega arith)
item_at (x ∷ xs) zero inside = record { item = x; there = refl }
item_at (x ∷ xs) (suc k) inside = let rest = item_at xs k (omega arith) in record { item = rest.item; there = rest.there }

-- a list after one place has changed
pub slice_get-set_same : {X : Type 0} (xs : List X) (k : ℕ) (y : X) → k < length xs → slice_get (set xs k y) k ≡ Some y
slice_get-set_same [] k y inside = absurd (omega arith)
slice_get-set_same (x ∷ xs) zero y inside = refl
slice_get-set_same (x ∷ xs) (suc k) y inside = slice_get-set_same xs k y (omega arith)

pub slice_get-set_other : {X : Type 0} (xs : List X) (k j : ℕ) (y : X) → j ≢ k → slice_get (set xs k y) j ≡ slice_get xs j
slice_get-set_other [] k j y other = refl
slice_get-set_other (x ∷ xs) zero zero y other = absurd (other refl)
slice_get-set_other (x ∷ xs) zero (suc j) y other = refl
slice_get-set_other (x ∷ xs) (suc k) zero y other = refl
slice_get-set_other (x ∷ xs) (suc k) (suc j) y other = slice_get-set_other xs k j y (λ same. other (ap (λ (n : ℕ). suc n) same))

-- a count that was read
pub count_read : (counts : List ℕ) (k t s n : ℕ) → k ≡ t → s ≡ t → k < length counts → n ≡ get_or counts k n → n ≡ get_or counts s 0
count_read counts k t s n at same inside is = is ∙ get_or_default counts k n 0 inside ∙ ap (λ (j : ℕ). get_or counts j 0) (at ∙ sym same)

-- and has risen by one
pub risen : (counts : List ℕ) (k t s n : ℕ) → k ≡ t → s ≡ t → k < length counts → n ≡ get_or counts k n → set counts k (n + 1) ≡ set counts s (get_or counts s 0 + 1)
risen counts k t s n at same inside is =
    let place : k ≡ s = at ∙ sym same in
    let value : n ≡ get_or counts k 0 = is ∙ get_or_default counts k n 0 inside in
    ap (λ (m : ℕ). set counts k (m + 1)) value ∙ ap (λ (j : ℕ). set counts j (get_or counts j 0 + 1)) place
