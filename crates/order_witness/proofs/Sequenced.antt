-- Accesses that are sorted by their keys are in sequence.
use Rattle.std.proofs.Common.{◌≡◌, ◌≤◌, ℕ, suc, ◌+◌, ◌<◌, Bool, true, false, cond, List, [], ◌∷◌, length, get_or, refl, sym, ◌∙◌, ap, arith}
use Rattle.std.specs.Prelude.{IsPermutation, IsSortedByKey}
use Rattle.std.specs.List.{AllByRecursion, sum_by, count_by}
use Rattle.std.specs.Prelude.{◌==◌, ◌&&◌}
use Rattle.std.proofs.lemmas.Bool.{eqb-true}
use Rattle.std.proofs.lemmas.Bool.Decides.{nat_tests}
use Rattle.std.proofs.lemmas.List.Sums.{sum_by-cons}
use Rattle.std.proofs.lemmas.List.Sorted.{sum_by-IsPermutation}
use Rattle.core_isa.proofs.Elements.{AllByRecursion-map}
use Rattle.report_text.specs.declared.access.Access.{Access}
use Rattle.chip_model.specs.Witness.{is_before, inserted, in_sequence}
use Rattle.value_laws.specs.Sequences.{AllPairs, Differs}
use Rattle.order_witness.specs.Keys.{key_of, key_cmp}
use Rattle.order_witness.proofs.Befores.{is_of, before_trans, before_other, before_by_key}
use Rattle.order_witness.proofs.SameSums.{IsRising, same_lists}

-- ---- sums stay where accesses are put in sequence
sum_inserted : (f : Access → ℕ) (a : Access) (xs : List Access) → sum_by f (inserted a xs) ≡ f a + sum_by f xs
sum_inserted f a [] = sum_by-cons f a []
sum_inserted f a (b ∷ xs) = by (is_before b a) (sum_inserted f a xs)
  where
    by : (before : Bool) → sum_by f (inserted a xs) ≡ f a + sum_by f xs → sum_by f (cond {A = List Access} before (b ∷ inserted a xs) (a ∷ b ∷ xs)) ≡ f a + sum_by f (b ∷ xs)
    by true rest = omega (arith, sum_by-cons f b (inserted a xs), rest, sum_by-cons f b xs)
    by false rest = sum_by-cons f a (b ∷ xs)

sum_in_sequence : (f : Access → ℕ) (xs : List Access) → sum_by f (in_sequence xs) ≡ sum_by f xs
sum_in_sequence f [] = refl
sum_in_sequence f (a ∷ xs) = omega (arith, sum_inserted f a (in_sequence xs), sum_in_sequence f xs, sum_by-cons f a xs)

-- ---- accesses of which no two are of one instruction
-- no instruction of a tile has two accesses
abbrev IsOneEach : List Access → Type 0
IsOneEach accesses = (tile number : ℕ) → count_by (is_of tile number) accesses ≤ 1

none_counted : (p : Access → Bool) (xs : List Access) → count_by p xs ≡ 0 → AllByRecursion (λ b. p b ≡ false) xs
none_counted p [] none = record {}
none_counted p (b ∷ xs) none = (first (p b) refl, none_counted p xs (omega (arith, none, sum_by-cons (λ (x : Access). cond {A = ℕ} (p x) 1 0) b xs)))
  where
    first : (passes : Bool) → p b ≡ passes → p b ≡ false
    first false is = is
    first true is = absurd (let one : cond {A = ℕ} (p b) 1 0 ≡ 1 = ap (λ (c : Bool). cond {A = ℕ} c 1 0) is in omega (arith, none, sum_by-cons (λ (x : Access). cond {A = ℕ} (p x) 1 0) b xs, one))

own_instruction : (a : Access) → is_of a.tile a.number a ≡ true
own_instruction a = grind (arith, nat_tests)

parts : (tile number : ℕ) (a : Access) → is_of tile number a ≡ true → (a.tile ≡ tile) × (a.number ≡ number)
parts tile number a own = by (a.tile == tile) (a.number == number) refl refl own
  where
    by : (one two : Bool) → (a.tile == tile) ≡ one → (a.number == number) ≡ two → (one && two) ≡ true → (a.tile ≡ tile) × (a.number ≡ number)
    by true true one two both = (eqb-true a.tile tile one, eqb-true a.number number two)
    by true false one two both = cc
    by false two one is both = cc

none_of : (tile number : ℕ) (a : Access) (xs : List Access) → is_of tile number a ≡ true → AllByRecursion (Differs a) xs → count_by (is_of tile number) xs ≡ 0
none_of tile number a [] own differ = refl
none_of tile number a (b ∷ xs) own differ =
    let none : cond {A = ℕ} (is_of tile number b) 1 0 ≡ 0 = by (is_of tile number b) refl in
    omega (arith, sum_by-cons (λ (x : Access). cond {A = ℕ} (is_of tile number x) 1 0) b xs, none, none_of tile number a xs own differ.1)
  where
    by : (same : Bool) → is_of tile number b ≡ same → cond {A = ℕ} same 1 0 ≡ 0
    by false is = refl
    by true is = absurd (let one = parts tile number a own in let two = parts tile number b is in differ.0 (one.0 ∙ sym two.0) (one.1 ∙ sym two.1))

one_each : (xs : List Access) → AllPairs Differs xs → IsOneEach xs
one_each [] differ tile number = omega arith
one_each (a ∷ xs) differ tile number = by (is_of tile number a) refl (one_each xs differ.1 tile number)
  where
    by : (own : Bool) → is_of tile number a ≡ own → count_by (is_of tile number) xs ≤ 1 → count_by (is_of tile number) (a ∷ xs) ≤ 1
    by false is rest =
        let none : cond {A = ℕ} (is_of tile number a) 1 0 ≡ 0 = ap (λ (c : Bool). cond {A = ℕ} c 1 0) is in
        omega (arith, sum_by-cons (λ (x : Access). cond {A = ℕ} (is_of tile number x) 1 0) a xs, none, rest)
    by true is rest =
        let one : cond {A = ℕ} (is_of tile number a) 1 0 ≡ 1 = ap (λ (c : Bool). cond {A = ℕ} c 1 0) is in
        omega (arith, sum_by-cons (λ (x : Access). cond {A = ℕ} (is_of tile number x) 1 0) a xs, one, none_of tile number a xs is differ.0)

others : (a : Access) (xs : List Access) → IsOneEach (a ∷ xs) → AllByRecursion (λ b. is_of a.tile a.number b ≡ false) xs
others a xs one =
    none_counted (is_of a.tile a.number) xs
    (let own : cond {A = ℕ} (is_of a.tile a.number a) 1 0 ≡ 1 = ap (λ (c : Bool). cond {A = ℕ} c 1 0) (own_instruction a) in
    omega (arith, one a.tile a.number, sum_by-cons (λ (x : Access). cond {A = ℕ} (is_of a.tile a.number x) 1 0) a xs, own))

rest_one : (a : Access) (xs : List Access) → IsOneEach (a ∷ xs) → IsOneEach xs
rest_one a xs one tile number = omega (arith, one tile number, sum_by-cons (λ (x : Access). cond {A = ℕ} (is_of tile number x) 1 0) a xs)

-- ---- in sequence they rise
each_inserted : (P : Access → Type 0) (a : Access) (xs : List Access) → P a → AllByRecursion P xs → AllByRecursion P (inserted a xs)
each_inserted P a [] own all = (own, all)
each_inserted P a (b ∷ xs) own all = by (is_before b a) (each_inserted P a xs own all.1)
  where
    by : (before : Bool) → AllByRecursion P (inserted a xs) → AllByRecursion P (cond {A = List Access} before (b ∷ inserted a xs) (a ∷ b ∷ xs))
    by true rest = (all.0, rest)
    by false rest = (own, all)

rising_inserted : (a : Access) (xs : List Access) → AllByRecursion (λ b. is_of a.tile a.number b ≡ false) xs → IsRising xs → IsRising (inserted a xs)
rising_inserted a [] other up = (record {}, up)
rising_inserted a (b ∷ xs) other up = by (is_before b a) refl (rising_inserted a xs other.1 up.1)
  where
    by : (before : Bool) → is_before b a ≡ before → IsRising (inserted a xs) → IsRising (cond {A = List Access} before (b ∷ inserted a xs) (a ∷ b ∷ xs))
    by true before rest = (each_inserted (λ c. is_before b c ≡ true) a xs before up.0, rest)
    by false before rest =
        let first = before_other a b before other.0 in
        ((first, AllByRecursion-map (λ c. is_before b c ≡ true) (λ c. is_before a c ≡ true) (λ c later. before_trans a b c first later) xs up.0), up)

rising_in_sequence : (xs : List Access) → IsOneEach xs → IsRising (in_sequence xs)
rising_in_sequence [] one = record {}
rising_in_sequence (a ∷ xs) one =
    rising_inserted a (in_sequence xs)
    (none_counted (is_of a.tile a.number) (in_sequence xs) (sum_in_sequence (λ (x : Access). cond {A = ℕ} (is_of a.tile a.number x) 1 0) xs ∙ counted a xs (others a xs one)))
    (rising_in_sequence xs (rest_one a xs one))
  where
    counted : (a : Access) (xs : List Access) → AllByRecursion (λ b. is_of a.tile a.number b ≡ false) xs → count_by (is_of a.tile a.number) xs ≡ 0
    counted a [] other = refl
    counted a (b ∷ xs) other =
        let none : cond {A = ℕ} (is_of a.tile a.number b) 1 0 ≡ 0 = ap (λ (c : Bool). cond {A = ℕ} c 1 0) other.0 in
        omega (arith, sum_by-cons (λ (x : Access). cond {A = ℕ} (is_of a.tile a.number x) 1 0) b xs, none, counted a xs other.1)

-- ---- sorted they rise
abbrev Adjacent : List Access → Type 0
Adjacent xs = (k : ℕ) (d : Access) → k + 1 < length xs → is_before (get_or xs (k + 1) d) (get_or xs k d) ≡ false

rising_sorted : (xs : List Access) → IsOneEach xs → Adjacent xs → IsRising xs
rising_sorted [] one sorted = record {}
rising_sorted (a ∷ []) one sorted = (record {}, record {})
rising_sorted (a ∷ b ∷ xs) one sorted =
    let rest = rising_sorted (b ∷ xs) (rest_one a (b ∷ xs) one) (λ k d below. later k d (sorted (suc k) d (omega (arith, below)))) in
    let first = before_other a b (sorted 0 a (omega arith)) (others a (b ∷ xs) one).0 in
    ((first, AllByRecursion-map (λ c. is_before b c ≡ true) (λ c. is_before a c ≡ true) (λ c next. before_trans a b c first next) xs rest.0), rest)
  where
    later : (k : ℕ) (d : Access) → is_before (get_or (a ∷ b ∷ xs) (suc k + 1) d) (get_or (a ∷ b ∷ xs) (suc k) d) ≡ false → is_before (get_or (b ∷ xs) (k + 1) d) (get_or (b ∷ xs) k d) ≡ false
    later k d is = let next : suc k + 1 ≡ suc (k + 1) = omega arith in rw next at is

-- ---- so they are in sequence
pub sorted_in_sequence : (old new : List Access) → AllPairs Differs old → IsPermutation old new → IsSortedByKey key_of key_cmp new → new ≡ in_sequence old
sorted_in_sequence old new differ moved sorted =
    let one : IsOneEach old = one_each old differ in
    let same : (f : Access → ℕ) → sum_by f new ≡ sum_by f old = λ f. sum_by-IsPermutation f old new moved in
    let each : IsOneEach new = λ tile number. omega (arith, one tile number, same (λ (x : Access). cond {A = ℕ} (is_of tile number x) 1 0)) in
    same_lists new (in_sequence old)
    (rising_sorted new each (λ k d below. sym (before_by_key (get_or new (k + 1) d) (get_or new k d)) ∙ sorted k d (omega arith) below))
    (rising_in_sequence old one)
    (λ f. same f ∙ sym (sum_in_sequence f old))
