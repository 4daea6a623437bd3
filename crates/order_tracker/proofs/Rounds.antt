-- What a test keeps of numbers that go upwards.
use Rattle.std.proofs.Common.{length, ◌≡◌, ℕ, zero, suc, ◌+◌, ◌<◌, ◌≤◌, Bool, true, false, cond, List, [], ◌∷◌, refl, ◌∙◌, inl, inr, arith}
use Rattle.std.specs.Prelude.{filter}
use Rattle.std.specs.List.{AllByRecursion}
use Rattle.std.proofs.lemmas.Bool.{cases_eq}
use Rattle.order_tracker.specs.Order.{upwards}

module _ (p : ℕ → Bool) where
  keep : (x : ℕ) (rest : List ℕ) → p x ≡ true → cond (p x) (x ∷ rest) rest ≡ x ∷ rest
  keep x rest passes = rw passes refl

  pass_over : (x : ℕ) (rest : List ℕ) → p x ≡ false → cond (p x) (x ∷ rest) rest ≡ rest
  pass_over x rest fails = rw fails refl

  -- none of them passes
  pub filter-none : (a c : ℕ) → ((i : ℕ) → a ≤ i → i < a + c → p i ≡ false) → filter p (upwards a c) ≡ []
  filter-none a zero fails = refl
  filter-none a (suc c) fails =
      pass_over a (filter p (upwards (a + 1) c)) (fails a (omega arith) (omega arith))
      ∙ filter-none (a + 1) c (λ i low high. fails i (omega arith) (omega arith))

  -- none of those below b passes
  pub filter-skip : (a b c e : ℕ) → a ≤ b → a + c ≡ b + e → ((i : ℕ) → a ≤ i → i < b → p i ≡ false) → filter p (upwards a c) ≡ filter p (upwards b e)
  filter-skip a b zero e below same fails =
      let e_is : e ≡ 0 = omega arith in
      rw e_is refl
  filter-skip a b (suc c) e below same fails = elim (cases_eq a b) [
    | inl here ↦ let e_is : e ≡ suc c = omega arith in rw (here, e_is) refl
    | inr before ↦
        pass_over a (filter p (upwards (a + 1) c)) (fails a (omega arith) (omega arith))
        ∙ filter-skip (a + 1) b c e (omega arith) (omega arith) (λ i low high. fails i (omega arith) high)
  ]

  -- t is the first that passes
  pub filter-first : (a t c e : ℕ) → a ≤ t → a + c ≡ t + suc e → p t ≡ true → ((i : ℕ) → a ≤ i → i < t → p i ≡ false)
      → filter p (upwards a c) ≡ t ∷ filter p (upwards (t + 1) e)
  filter-first a t c e below same passes fails =
      filter-skip a t c (suc e) below same fails ∙ keep t (filter p (upwards (t + 1) e)) passes

-- two tests that agree on them
pub filter-same : (p q : ℕ → Bool) (a c : ℕ) → ((i : ℕ) → a ≤ i → i < a + c → p i ≡ q i) → filter p (upwards a c) ≡ filter q (upwards a c)
filter-same p q a zero same = refl
filter-same p q a (suc c) same =
    rw (same a (omega arith) (omega arith), filter-same p q (a + 1) c (λ i low high. same i (omega arith) (omega arith))) refl

kept_below : (p : ℕ → Bool) (n x : ℕ) (rest : List ℕ) (b : Bool) → x < n → AllByRecursion (λ t. t < n) rest → AllByRecursion (λ t. t < n) (cond b (x ∷ rest) rest)
kept_below p n x rest true inside all = (inside, all)
kept_below p n x rest false inside all = all

-- what is kept of numbers below n is below n
pub filter-below : (p : ℕ → Bool) (n a c : ℕ) → a + c ≤ n → AllByRecursion (λ t. t < n) (filter p (upwards a c))
filter-below p n a zero within = tt
filter-below p n a (suc c) within = kept_below p n a (filter p (upwards (a + 1) c)) (p a) (omega arith) (filter-below p n (a + 1) c (omega arith))

kept_le : (p : ℕ → Bool) (x : ℕ) (rest : List ℕ) (b : Bool) (n : ℕ) → length rest ≤ n → length (cond b (x ∷ rest) rest) ≤ n + 1
kept_le p x rest true n few = omega arith
kept_le p x rest false n few = omega arith

pub filter_le : (p : ℕ → Bool) (a c : ℕ) → length (filter p (upwards a c)) ≤ c
filter_le p a zero = omega arith
filter_le p a (suc c) = omega (arith, kept_le p a (filter p (upwards (a + 1) c)) (p a) c (filter_le p (a + 1) c))
