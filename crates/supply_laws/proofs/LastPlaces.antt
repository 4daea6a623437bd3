-- The last place below a bound that passes a test, and the next one from a place on.
use Rattle.std.proofs.Common.{◌≡◌, ◌≢◌, ℕ, zero, suc, ◌+◌, ◌<◌, ◌≤◌, Bool, true, false, cond, List, [], ◌∷◌, refl, sym, ◌∙◌, ap, subst, arith, inl, inr, Option, Some, None}
use Rattle.std.specs.Prelude.{filter, nat_le}
use Rattle.std.specs.List.{count_by}
use Rattle.std.proofs.lemmas.Bool.{cases_lt, cases_eq, cases_order, both_ways, leb-true, leb-false}
use Rattle.mesh_gen.specs.Ports.{count_if}
use Rattle.order_tracker.specs.Order.{upwards}
use Rattle.chip_model.specs.Suppliers.{last, next_from}
use Rattle.chip_laws.proofs.SupplyCounts.{count_by-cons}

-- the places of an interval that pass
abbrev pub passing : (ℕ → Bool) → ℕ → ℕ → List ℕ
passing p start count = filter p (upwards start count)

-- ---- the last one
pub record IsLastOf (p : ℕ → Bool) (start count place : ℕ) : Type 0 where
  pub from : start ≤ place
  pub below : place < start + count
  pub passes : p place ≡ true
  pub after : (k : ℕ) → place < k → k < start + count → p k ≡ false

abbrev pub NonePasses : (ℕ → Bool) → ℕ → ℕ → Type 0
NonePasses p start count = (k : ℕ) → start ≤ k → k < start + count → p k ≡ false

abbrev pub LastIs : (ℕ → Bool) → ℕ → ℕ → Option ℕ → Type 0
LastIs p start count None = NonePasses p start count
LastIs p start count (Some place) = IsLastOf p start count place

-- what holds at the first place and at those after it
first_or_after : (P : ℕ → Type 0) (start k : ℕ) → start ≤ k → P start → (start + 1 ≤ k → P k) → P k
first_or_after P start k above here rest = elim (cases_lt start k) [
  | inl beyond ↦ rest (omega (arith, beyond))
  | inr within ↦ (let same : start ≡ k = omega (arith, within, above) in subst P same here)
]

none_last : {P : Type 0} (y : ℕ) (rest : List ℕ) → last (y ∷ rest) ≡ None → P
none_last y [] is = cc
none_last y (z ∷ rest) is = none_last z rest is

last-first : (x : ℕ) (rest : List ℕ) → last rest ≡ None → last (x ∷ rest) ≡ Some x
last-first x [] none = refl
last-first x (y ∷ rest) none = none_last y rest none

last-later : (x : ℕ) (rest : List ℕ) (place : ℕ) → last rest ≡ Some place → last (x ∷ rest) ≡ Some place
last-later x [] place is = cc
last-later x (y ∷ rest) place is = is

pub last_is : (p : ℕ → Bool) (start count : ℕ) → LastIs p start count (last (passing p start count))
last_is p start zero = λ k above below. absurd (omega (arith, above, below))
last_is p start (suc count) = by (p start) refl (last (passing p (start + 1) count)) refl (last_is p (start + 1) count) where
  rest : List ℕ
  rest = passing p (start + 1) count

  by : (b : Bool) → p start ≡ b → (o : Option ℕ) → last rest ≡ o → LastIs p (start + 1) count o → LastIs p start (suc count) (last (cond {A = List ℕ} b (start ∷ rest) rest))
  by true first None e is =
      subst (LastIs p start (suc count)) (sym (last-first start rest e))
      (record { from = omega arith; below = omega arith; passes = first; after = λ k above below. is k (omega (arith, above)) (omega (arith, below)) })
  by true first (Some place) e is =
      subst (LastIs p start (suc count)) (sym (last-later start rest place e))
      (record { from = omega (arith, is.from); below = omega (arith, is.below); passes = is.passes; after = λ k above below. is.after k above (omega (arith, below)) })
  by false first None e is =
      subst (LastIs p start (suc count)) (sym e)
      (λ k above below. first_or_after (λ j. p j ≡ false) start k above first (λ beyond. is k beyond (omega (arith, below))))
  by false first (Some place) e is =
      subst (LastIs p start (suc count)) (sym e)
      (record { from = omega (arith, is.from); below = omega (arith, is.below); passes = is.passes; after = λ k above below. is.after k above (omega (arith, below)) })

later_not : (p : ℕ → Bool) (start count one other : ℕ) → IsLastOf p start count one → IsLastOf p start count other → one < other → ⊥
later_not p start count one other is also before = both_ways (p other) (is.after other before also.below) also.passes

pub last_unique : (p : ℕ → Bool) (start count : ℕ) (one other : Option ℕ) → LastIs p start count one → LastIs p start count other → one ≡ other
last_unique p start count None None is also = refl
last_unique p start count None (Some place) is also = absurd (both_ways (p place) (is place also.from also.below) also.passes)
last_unique p start count (Some place) None is also = absurd (both_ways (p place) (also place is.from is.below) is.passes)
last_unique p start count (Some one) (Some other) is also = elim (cases_order one other) [
  | inl same ↦ ap (λ (k : ℕ). Some k) same
  | inr (inl before) ↦ absurd (later_not p start count one other is also before)
  | inr (inr after) ↦ absurd (later_not p start count other one also is after)
]

-- tests that agree below the bound
pub last_agrees : (p q : ℕ → Bool) (start count : ℕ) (o : Option ℕ) → ((k : ℕ) → start ≤ k → k < start + count → p k ≡ q k) → LastIs p start count o → LastIs q start count o
last_agrees p q start count None same is = λ k above below. sym (same k above below) ∙ is k above below
last_agrees p q start count (Some place) same is = record {
  from = is.from;
  below = is.below;
  passes = sym (same place is.from is.below) ∙ is.passes;
  after = λ k above below. sym (same k (omega (arith, is.from, above)) below) ∙ is.after k above below;
}

-- one place more
at_end : (p : ℕ → Bool) (n k : ℕ) → p n ≡ false → (k < n → p k ≡ false) → k < n + 1 → p k ≡ false
at_end p n k fails rest below = elim (cases_lt k n) [ inl less ↦ rest less | inr more ↦ (let same : n ≡ k = omega (arith, more, below) in subst (λ j. p j ≡ false) same fails) ]

pub last_more_no : (p : ℕ → Bool) (n : ℕ) (o : Option ℕ) → p n ≡ false → LastIs p 0 n o → LastIs p 0 (n + 1) o
last_more_no p n None fails is = λ k above below. at_end p n k fails (λ less. is k above (omega (arith, less))) (omega (arith, below))
last_more_no p n (Some place) fails is = record {
  from = is.from;
  below = omega (arith, is.below);
  passes = is.passes;
  after = λ k above below. at_end p n k fails (λ less. is.after k above (omega (arith, less))) (omega (arith, below));
}

pub last_more_yes : (p : ℕ → Bool) (n : ℕ) → p n ≡ true → LastIs p 0 (n + 1) (Some n)
last_more_yes p n holds = record { from = omega arith; below = omega arith; passes = holds; after = λ k above below. absurd (omega (arith, above, below)) }

-- ---- the next one
pub record IsNextOf (p : ℕ → Bool) (bound from place : ℕ) : Type 0 where
  pub beyond : from ≤ place
  pub below : place < bound
  pub passes : p place ≡ true
  pub before : (k : ℕ) → from ≤ k → k < place → p k ≡ false

abbrev pub NextIs : (ℕ → Bool) → ℕ → ℕ → Option ℕ → Type 0
NextIs p bound from None = (k : ℕ) → from ≤ k → k < bound → p k ≡ false
NextIs p bound from (Some place) = IsNextOf p bound from place

-- the same among the places of an interval
record IsNextAmong (p : ℕ → Bool) (start count from place : ℕ) : Type 0 where
  pub within : start ≤ place
  pub below : place < start + count
  pub beyond : from ≤ place
  pub passes : p place ≡ true
  pub before : (k : ℕ) → start ≤ k → from ≤ k → k < place → p k ≡ false

abbrev NextAmong : (ℕ → Bool) → ℕ → ℕ → ℕ → Option ℕ → Type 0
NextAmong p start count from None = (k : ℕ) → start ≤ k → k < start + count → from ≤ k → p k ≡ false
NextAmong p start count from (Some place) = IsNextAmong p start count from place

next_passed : (p : ℕ → Bool) (start count from : ℕ) (o : Option ℕ) → (from ≤ start → p start ≡ false) → NextAmong p (start + 1) count from o → NextAmong p start (suc count) from o
next_passed p start count from None first is =
    λ k above below beyond. first_or_after (λ j. from ≤ j → p j ≡ false) start k above first (λ later. is k later (omega (arith, below))) beyond
next_passed p start count from (Some place) first is = record {
  within = omega (arith, is.within);
  below = omega (arith, is.below);
  beyond = is.beyond;
  passes = is.passes;
  before = λ k above beyond less. first_or_after (λ j. from ≤ j → j < place → p j ≡ false) start k above (λ b l. first b) (λ later b l. is.before k later b l) beyond less;
}

next_among : (p : ℕ → Bool) (start count from : ℕ) → NextAmong p start count from (next_from from (passing p start count))
next_among p start zero from = λ k above below beyond. absurd (omega (arith, above, below))
next_among p start (suc count) from = by (p start) refl (nat_le from start) refl (next_among p (start + 1) count from) where
  rest : List ℕ
  rest = passing p (start + 1) count

  by : (b : Bool) → p start ≡ b → (c : Bool) → nat_le from start ≡ c → NextAmong p (start + 1) count from (next_from from rest)
      → NextAmong p start (suc count) from (next_from from (cond {A = List ℕ} b (start ∷ rest) rest))
  by true first true here is =
      subst (λ (b : Bool). NextAmong p start (suc count) from (cond {A = Option ℕ} b (Some start) (next_from from rest))) (sym here)
      (record { within = omega arith; below = omega arith; beyond = leb-true from start here; passes = first; before = λ k above beyond less. absurd (omega (arith, above, less)) })
  by true first false later is =
      subst (λ (b : Bool). NextAmong p start (suc count) from (cond {A = Option ℕ} b (Some start) (next_from from rest))) (sym later)
      (next_passed p start count from (next_from from rest) (λ le. absurd (let gt = leb-false from start later in omega (arith, gt, le))) is)
  by false first c later is = next_passed p start count from (next_from from rest) (λ le. first) is

of_among : (p : ℕ → Bool) (bound from : ℕ) (o : Option ℕ) → NextAmong p 0 bound from o → NextIs p bound from o
of_among p bound from None is = λ k above below. is k (omega arith) (omega (arith, below)) above
of_among p bound from (Some place) is =
    record { beyond = is.beyond; below = omega (arith, is.below); passes = is.passes; before = λ k above less. is.before k (omega arith) above less }

pub next_is : (p : ℕ → Bool) (bound from : ℕ) → NextIs p bound from (next_from from (passing p 0 bound))
next_is p bound from = of_among p bound from (next_from from (passing p 0 bound)) (next_among p 0 bound from)

sooner_not : (p : ℕ → Bool) (bound from one other : ℕ) → IsNextOf p bound from one → IsNextOf p bound from other → one < other → ⊥
sooner_not p bound from one other is also before = both_ways (p one) (also.before one is.beyond before) is.passes

pub next_unique : (p : ℕ → Bool) (bound from : ℕ) (one other : Option ℕ) → NextIs p bound from one → NextIs p bound from other → one ≡ other
next_unique p bound from None None is also = refl
next_unique p bound from None (Some place) is also = absurd (both_ways (p place) (is place also.beyond also.below) also.passes)
next_unique p bound from (Some place) None is also = absurd (both_ways (p place) (also place is.beyond is.below) is.passes)
next_unique p bound from (Some one) (Some other) is also = elim (cases_order one other) [
  | inl same ↦ ap (λ (k : ℕ). Some k) same
  | inr (inl before) ↦ absurd (sooner_not p bound from one other is also before)
  | inr (inr after) ↦ absurd (sooner_not p bound from other one also is after)
]

-- from one place later
pub next_more_no : (p : ℕ → Bool) (bound n : ℕ) (o : Option ℕ) → p n ≡ false → NextIs p bound n o → NextIs p bound (n + 1) o
next_more_no p bound n None fails is = λ k above below. is k (omega (arith, above)) below
next_more_no p bound n (Some place) fails is = record {
  beyond = elim (cases_eq n place) [
    | inl same ↦ absurd (both_ways (p place) (subst (λ j. p j ≡ false) same fails) is.passes)
    | inr away ↦ omega (arith, is.beyond, away)
  ];
  below = is.below;
  passes = is.passes;
  before = λ k above less. is.before k (omega (arith, above)) less;
}

pub next_here : (p : ℕ → Bool) (bound n : ℕ) → n < bound → p n ≡ true → NextIs p bound n (Some n)
next_here p bound n less holds = record { beyond = omega arith; below = less; passes = holds; before = λ k above below. absurd (omega (arith, above, below)) }

-- ---- counts of those that pass
pub count_none : (p : ℕ → Bool) (start count : ℕ) → NonePasses p start count → count_by p (upwards start count) ≡ 0
count_none p start zero none = refl
count_none p start (suc count) none =
    let first : count_if (p start) ≡ 0 = ap count_if (none start (omega arith) (omega arith)) in
    let rest = count_none p (start + 1) count (λ k above below. none k (omega (arith, above)) (omega (arith, below))) in
    omega (arith, first, rest, count_by-cons p start (upwards (start + 1) count))

-- one that passes and no other
pub count_only : (p : ℕ → Bool) (start count place : ℕ) → start ≤ place → place < start + count → p place ≡ true
    → ((k : ℕ) → start ≤ k → k < start + count → k ≢ place → p k ≡ false) → count_by p (upwards start count) ≡ 1
count_only p start zero place above below holds others = absurd (omega (arith, above, below))
count_only p start (suc count) place above below holds others = elim (cases_eq start place) [
  | inl here ↦ (
      let one : count_if (p start) ≡ 1 = ap (λ k. count_if (p k)) here ∙ ap count_if holds in
      let rest = count_none p (start + 1) count (λ k beyond within. others k (omega (arith, beyond)) (omega (arith, within)) (λ same. absurd (omega (arith, same, here, beyond)))) in
      omega (arith, one, rest, count_by-cons p start (upwards (start + 1) count)))
  | inr away ↦ (
      let first : count_if (p start) ≡ 0 = ap count_if (others start (omega arith) (omega arith) away) in
      let rest = count_only p (start + 1) count place (omega (arith, above, away)) (omega (arith, below)) holds
      (λ k beyond within. others k (omega (arith, beyond)) (omega (arith, within))) in
      omega (arith, first, rest, count_by-cons p start (upwards (start + 1) count)))
]
