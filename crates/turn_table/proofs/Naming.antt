-- The entries that name a seat, and the elements that a count finds.
use Rattle.std.proofs.Common.{◌≡◌, ℕ, zero, suc, ◌+◌, ◌<◌, ◌≤◌, ◌≢◌, List, [], ◌∷◌, length, get_or, filter, map, refl, ap, ◌∙◌, sym, subst, arith, eqb, eq-eqb, ne_eqb, Bool, true, false, cond, Any, AllPairs}
use mathlib.Core.Logic.{dite}
use mathlib.Core.Option.{some}
use native.Mathlib.Decide.{ℕ_discrete}
use lib.ListN.{get_elem?}
use Rattle.atomic_table.proofs.Lists.{at_index}
use Rattle.turn_table.specs.Rule.{total, bit, entries_naming}
use Rattle.turn_table.proofs.Totals.{total_at, total_at_two}

module _ {A : Type 0} where
  get_elem?-get_or : (xs : List A) (i : ℕ) (default : A) → i < length xs → get_elem? xs i ≡ some (get_or xs i default)
  get_elem?-get_or [] i default within = absurd (omega arith)
  get_elem?-get_or (x ∷ xs) zero default within = refl
  get_elem?-get_or (x ∷ xs) (suc i) default within = get_elem?-get_or xs i default (omega arith)

  any_first : (test : A → Bool) (x : A) (xs : List A) → test x ≡ true → Any (λ y. test y ≡ true) (x ∷ xs)
  any_first test x xs passes = (0, x, omega arith, refl, passes)

  any_later : (test : A → Bool) (x : A) (xs : List A) → Any (λ y. test y ≡ true) xs → Any (λ y. test y ≡ true) (x ∷ xs)
  any_later test x xs some_later = (suc some_later.0, some_later.1, omega (arith, some_later.2), some_later.3, some_later.4)

  any_counted-at : (test : A → Bool) (x : A) (xs : List A) (b : Bool) → test x ≡ b → (0 < total (λ y. bit (test y)) xs → Any (λ y. test y ≡ true) xs) → 0 < bit b + total (λ y. bit (test y)) xs → Any (λ y. test y ≡ true) (x ∷ xs)
  any_counted-at test x xs true is rest counted = any_first test x xs is
  any_counted-at test x xs false is rest counted = any_later test x xs (rest (omega arith))

  -- what is counted is there
  pub any_counted : (test : A → Bool) (xs : List A) → 0 < total (λ y. bit (test y)) xs → Any (λ y. test y ≡ true) xs
  any_counted test [] counted = absurd (omega arith)
  any_counted test (x ∷ xs) counted = any_counted-at test x xs (test x) refl (any_counted test xs) counted

  -- and what is there is counted
  pub counted_any : (test : A → Bool) (xs : List A) → Any (λ y. test y ≡ true) xs → 0 < total (λ y. bit (test y)) xs
  counted_any test xs found =
      let i = found.0 in let x = found.1 in let within = found.2 in let at = at_index xs i x within (sym found.3) in
      let one = total_at (λ y. bit (test y)) xs i x at in let passes : bit (test x) ≡ 1 = ap bit found.4 in omega arith

  none_filtered-at : (test : A → Bool) (x : A) (xs : List A) (b : Bool) → bit b + total (λ y. bit (test y)) xs ≤ 0 → filter test xs ≡ [] → cond b (x ∷ filter test xs) (filter test xs) ≡ []
  none_filtered-at test x xs true none rest = absurd (omega arith)
  none_filtered-at test x xs false none rest = rest

  none_filtered : (test : A → Bool) (xs : List A) → total (λ y. bit (test y)) xs ≤ 0 → filter test xs ≡ []
  none_filtered test [] none = refl
  none_filtered test (x ∷ xs) none = none_filtered-at test x xs (test x) none (none_filtered test xs (omega arith))

-- where an entry passes that is there, and no two do, it is the only one
module _ (test : ℕ → Bool) (entry : ℕ) (passes : test entry ≡ true) where
  counted_both : (xs : List ℕ) → total (λ x. bit (eqb x entry)) xs ≤ total (λ x. bit (test x)) xs
  counted_both [] = omega arith
  counted_both (x ∷ xs) = let rest = counted_both xs in dite (ℕ_discrete x entry)
      (λ same. let this : bit (eqb x entry) ≡ 1 = ap bit (eq-eqb x entry same) in let passes' : bit (test x) ≡ 1 = ap (λ (y : ℕ). bit (test y)) same ∙ ap bit passes in omega arith)
      (λ apart. let other : bit (eqb x entry) ≡ 0 = ap bit (ne_eqb x entry apart) in omega arith)

  drop_failing : (x : ℕ) (xs : List ℕ) (b : Bool) → bit b ≤ 0 → filter test xs ≡ entry ∷ [] → cond b (x ∷ filter test xs) (filter test xs) ≡ entry ∷ []
  drop_failing x xs true fails rest = absurd (omega arith)
  drop_failing x xs false fails rest = rest

  keep_passing : (x : ℕ) (xs : List ℕ) (b : Bool) → b ≡ true → x ≡ entry → filter test xs ≡ [] → cond b (x ∷ filter test xs) (filter test xs) ≡ entry ∷ []
  keep_passing x xs b is same none = subst (λ (c : Bool). cond c (x ∷ filter test xs) (filter test xs) ≡ entry ∷ []) (sym is) (λ i. same i ∷ none i)

  pub one_filtered : (xs : List ℕ) → total (λ x. bit (test x)) xs ≤ 1 → 0 < total (λ x. bit (eqb x entry)) xs → filter test xs ≡ entry ∷ []
  one_filtered [] few there = absurd (omega arith)
  one_filtered (x ∷ xs) few there = dite (ℕ_discrete x entry)
      (λ same. let is : test x ≡ true = ap test same ∙ passes in let this : bit (test x) ≡ 1 = ap bit is in keep_passing x xs (test x) is same (none_filtered test xs (omega arith)))
      (λ apart. let other : bit (eqb x entry) ≡ 0 = ap bit (ne_eqb x entry apart) in let both = counted_both xs in drop_failing x xs (test x) (omega arith) (one_filtered xs (omega arith) (omega arith)))

-- the entries that name a seat are those of a list of at most one pair, if they are as many and its entry is among them
pub named_are_own : (names : ℕ → ℕ) (number : ℕ) (made : List ℕ) (own : List (ℕ × ℕ)) → length own ≤ 1 → entries_naming names number made ≡ total (λ (pair : ℕ × ℕ). bit (eqb (names pair.1) number)) own
    → ((entry : ℕ) → total (λ (pair : ℕ × ℕ). bit (eqb pair.1 entry)) own ≤ total (λ x. bit (eqb x entry)) made) → ((number' : ℕ) → total (λ (pair : ℕ × ℕ). bit (eqb (names pair.1) number')) own ≤ bit (eqb number number'))
    → filter (λ entry. eqb (names entry) number) made ≡ map (λ pair. pair.1) own
named_are_own names number made [] one count there named = none_filtered (λ entry. eqb (names entry) number) made (omega arith)
named_are_own names number made (pair ∷ []) one count there named =
    let entry : ℕ = pair.1 in let here : bit (eqb entry entry) ≡ 1 = ap bit (eq-eqb entry entry refl) in let among = there entry in
    let this : bit (eqb (names entry) (names entry)) ≡ 1 = ap bit (eq-eqb (names entry) (names entry) refl) in let mine = named (names entry) in
    let same : number ≡ names entry = dite (ℕ_discrete number (names entry)) (λ is. is) (λ apart. let other : bit (eqb number (names entry)) ≡ 0 = ap bit (ne_eqb number (names entry) apart) in absurd (omega arith)) in
    let passes : eqb (names entry) number ≡ true = eq-eqb (names entry) number (sym same) in let one_pair : bit (eqb (names entry) number) ≡ 1 = ap bit passes in
    one_filtered (λ x. eqb (names x) number) entry passes made (omega arith) (omega arith)
named_are_own names number made (pair ∷ other ∷ pairs) one count there named = absurd (omega arith)

-- where no seat is named by two entries, any two of them name two seats
pub names_apart : (names : ℕ → ℕ) (made : List ℕ) → ((number : ℕ) → entries_naming names number made ≤ 1) → AllPairs (λ entry later. names entry ≢ names later) made
names_apart names made once i j default before within same =
    let entry : ℕ = get_or made i default in let later : ℕ = get_or made j default in
    let number : ℕ = names later in let f : ℕ → ℕ = λ x. bit (eqb (names x) number) in
    let two = total_at_two f made i j entry later (λ equal. omega arith) (get_elem?-get_or made i default (omega arith)) (get_elem?-get_or made j default within) in
    let first : bit (eqb (names entry) number) ≡ 1 = ap bit (eq-eqb (names entry) number same) in let second : bit (eqb (names later) number) ≡ 1 = ap bit (eq-eqb (names later) number refl) in
    let one = once number in absurd (omega arith)
