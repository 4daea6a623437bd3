-- Lists of pairs that any weights add up to the same are permutations of each other.
use Rattle.std.proofs.Common.{◌≡◌, ℕ, ◌+◌, ◌*◌, ◌<◌, ◌≢◌, List, [], ◌∷◌, flat_map, refl, ap, ◌∙◌, sym, subst, arith, eqb, eq-eqb, ne_eqb, IsPermutation}
use Rattle.std.proofs.lemmas.List.Sorted.{IsPermutation-refl, IsPermutation-cons, IsPermutation-insert, IsPermutation-trans}
use mathlib.Core.Logic.{dite}
use native.Mathlib.Decide.{ℕ_discrete}
use Rattle.turn_table.specs.Rule.{total, bit}
use Rattle.turn_table.proofs.Totals.{total-append}

pub total-flat_map : {A B : Type 0} (f : B → ℕ) (g : A → List B) (xs : List A) → total f (flat_map g xs) ≡ total (λ x. total f (g x)) xs
total-flat_map f g [] = refl
total-flat_map f g (x ∷ xs) = let more = total-append f (g x) (flat_map g xs) in let rest = total-flat_map f g xs in omega arith

-- 1 at one pair, and else 0
is_pair : ℕ × ℕ → ℕ × ℕ → ℕ
is_pair p q = bit (eqb q.0 p.0) * bit (eqb q.1 p.1)

is_pair-same : (p : ℕ × ℕ) → is_pair p p ≡ 1
unfolding is_pair
is_pair-same p = let first : bit (eqb p.0 p.0) ≡ 1 = ap bit (eq-eqb p.0 p.0 refl) in let second : bit (eqb p.1 p.1) ≡ 1 = ap bit (eq-eqb p.1 p.1 refl) in λ i. first i * second i

is_pair-first : (p q : ℕ × ℕ) → q.0 ≢ p.0 → is_pair p q ≡ 0
unfolding is_pair
is_pair-first p q apart = let other : bit (eqb q.0 p.0) ≡ 0 = ap bit (ne_eqb q.0 p.0 apart) in ap (λ (k : ℕ). k * bit (eqb q.1 p.1)) other ∙ (let none : 0 * bit (eqb q.1 p.1) ≡ 0 = omega arith in none)

is_pair-second : (p q : ℕ × ℕ) → q.1 ≢ p.1 → is_pair p q ≡ 0
unfolding is_pair
is_pair-second p q apart = let other : bit (eqb q.1 p.1) ≡ 0 = ap bit (ne_eqb q.1 p.1 apart) in ap (λ (k : ℕ). bit (eqb q.0 p.0) * k) other ∙ (let none : bit (eqb q.0 p.0) * 0 ≡ 0 = omega arith in none)

-- a list is a pair of it and a rest
record HasRest (p : ℕ × ℕ) (ps : List (ℕ × ℕ)) : Type 0 where
  rest : List (ℕ × ℕ)
  moved : IsPermutation (p ∷ rest) ps
  weighs : (weight : ℕ × ℕ → ℕ) → weight p + total weight rest ≡ total weight ps

first_has_rest : (p q : ℕ × ℕ) (ps : List (ℕ × ℕ)) → q ≡ p → HasRest p (q ∷ ps)
first_has_rest p q ps same = record {
  rest = ps;
  moved = subst (λ (x : ℕ × ℕ). IsPermutation (p ∷ ps) (x ∷ ps)) (sym same) (IsPermutation-refl (p ∷ ps));
  weighs = λ weight. let this : weight q ≡ weight p = ap weight same in omega arith;
}

later_has_rest : (p q : ℕ × ℕ) (ps : List (ℕ × ℕ)) → HasRest p ps → HasRest p (q ∷ ps)
later_has_rest p q ps later = record {
  rest = q ∷ later.rest;
  moved = IsPermutation-trans (p ∷ q ∷ later.rest) (q ∷ p ∷ later.rest) (q ∷ ps) (IsPermutation-insert (q ∷ later.rest) 1 p) (IsPermutation-cons q (p ∷ later.rest) ps later.moved);
  weighs = λ weight. let rest = later.weighs weight in omega arith;
}

has_rest : (p : ℕ × ℕ) (ps : List (ℕ × ℕ)) → 0 < total (is_pair p) ps → HasRest p ps
has_rest p [] there = absurd (omega arith)
has_rest p (q ∷ ps) there = dite (ℕ_discrete q.0 p.0)
    (λ first. dite (ℕ_discrete q.1 p.1)
    (λ second. first_has_rest p q ps (λ i. (first i, second i)))
    (λ apart. let other = is_pair-second p q apart in later_has_rest p q ps (has_rest p ps (omega arith))))
    (λ apart. let other = is_pair-first p q apart in later_has_rest p q ps (has_rest p ps (omega arith)))

pub permutation_by_weights : (ps qs : List (ℕ × ℕ)) → ((weight : ℕ × ℕ → ℕ) → total weight ps ≡ total weight qs) → IsPermutation ps qs
permutation_by_weights [] [] same = IsPermutation-refl []
permutation_by_weights [] (q ∷ qs) same = let count = same (λ _. 1) in absurd (omega arith)
permutation_by_weights (p ∷ ps) qs same =
    let here = is_pair-same p in let there = same (is_pair p) in let has = has_rest p qs (omega arith) in
    IsPermutation-trans (p ∷ ps) (p ∷ has.rest) qs
    (IsPermutation-cons p ps has.rest (permutation_by_weights ps has.rest (λ weight. let all = same weight in let rest = has.weighs weight in omega arith))) has.moved
