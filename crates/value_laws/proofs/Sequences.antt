-- The accesses in sequence: what comes before what, and that each tile's stand there as they were performed.
use Rattle.std.proofs.Common.{◌≡◌, ℕ, ◌<◌, ◌≤◌, Bool, true, false, cond, ◌==◌, List, [], ◌∷◌, ◌++◌, filter, sym, ap, ◌∙◌, refl, inl, inr, arith}
use Rattle.std.specs.List.{AllByRecursion}
use Rattle.std.proofs.lemmas.Bool.{cases_eq, false≢true}
use Rattle.std.proofs.lemmas.Bool.Decides.{nat_tests}
use Rattle.core_isa.proofs.Elements.{AllByRecursion-map}
use Rattle.report_text.specs.declared.access.Access.{Access}
use Rattle.flat_ref.specs.Consistency.{accesses_of}
use Rattle.flat_ref.proofs.Parts.{own_first, own_other}
use Rattle.chip_model.specs.Witness.{is_before, inserted, in_sequence}
use Rattle.value_laws.specs.Sequences.{AllPairs, AreRising, Follows, AreSucceeding, Succeeds}

-- ---- of two accesses

pub before_itself : (a : Access) → is_before a a ≡ false
before_itself a = grind (arith, nat_tests)

pub before_trans : (a b c : Access) → is_before a b ≡ true → is_before b c ≡ true → is_before a c ≡ true
before_trans a b c first second = grind (arith, nat_tests)

pub before_asym : (a b : Access) → is_before a b ≡ true → is_before b a ≡ false
before_asym a b e = grind (arith, nat_tests)

-- what does not come before b comes after all that does
pub before_between : (a b c : Access) → is_before b a ≡ false → is_before b c ≡ true → is_before a c ≡ true
before_between a b c fails passes = grind (arith, nat_tests)

-- an access at an earlier time comes before
pub before_time : (a b : Access) → a.time < b.time → is_before a b ≡ true
before_time a b less = grind (arith, nat_tests)

pub one_before : (a b : Access) → Succeeds a b → is_before b a ≡ false → is_before a b ≡ true
one_before a b succeeds fails = elim (cases_eq a.tile b.tile) [
  | inl same ↦ elim (succeeds same) [ inl first ↦ first | inr second ↦ absurd (false≢true (sym fails ∙ second.0)) ]
  | inr other ↦ grind (arith, nat_tests)
]

-- what follows succeeds
pub all_succeed : (a : Access) (xs : List Access) → AllByRecursion (λ b. Follows b a) xs → AllByRecursion (λ b. Succeeds b a) xs
all_succeed a xs all = AllByRecursion-map (λ b. Follows b a) (λ b. Succeeds b a) (λ b follows same. inl (follows same)) xs all

pub all_succeeding : (xs : List Access) → AreRising xs → AreSucceeding xs
all_succeeding [] rising = tt
all_succeeding (a ∷ xs) rising = (
  AllByRecursion-map (Follows a) (Succeeds a) (λ b follows same. inl (follows same)) xs rising.0,
  all_succeeding xs rising.1,
)

-- what is so for each pair is so without the last, and for the last with each before it
pub pairs_before : (R : Access → Access → Type 0) (xs : List Access) (a : Access) → AllPairs R (xs ++ a ∷ []) → AllPairs R xs
pairs_before R [] a all = tt
pairs_before R (x ∷ xs) a all = (before xs all.0, pairs_before R xs a all.1) where
  before : (ys : List Access) → AllByRecursion (R x) (ys ++ a ∷ []) → AllByRecursion (R x) ys
  before [] every = tt
  before (y ∷ ys) every = (every.0, before ys every.1)

pub pairs_last : (R : Access → Access → Type 0) (xs : List Access) (a : Access) → AllPairs R (xs ++ a ∷ []) → AllByRecursion (λ b. R b a) xs
pairs_last R [] a all = tt
pairs_last R (x ∷ xs) a all = (last xs all.0, pairs_last R xs a all.1) where
  last : (ys : List Access) → AllByRecursion (R x) (ys ++ a ∷ []) → R x a
  last [] every = every.0
  last (y ∷ ys) every = last ys every.1

-- and so it is with one more that has it with each
pub pairs_push : (R : Access → Access → Type 0) (xs : List Access) (a : Access) → AllPairs R xs → AllByRecursion (λ b. R b a) xs → AllPairs R (xs ++ a ∷ [])
pairs_push R [] a all last = (tt, tt)
pairs_push R (x ∷ xs) a all last = (push xs all.0, pairs_push R xs a all.1 last.1) where
  push : (ys : List Access) → AllByRecursion (R x) ys → AllByRecursion (R x) (ys ++ a ∷ [])
  push [] every = (last.0, tt)
  push (y ∷ ys) every = (every.0, push ys every.1)

-- a later access of a tile counts more instructions, and is not earlier in time
pub follows_by : (a b : Access) → (a.tile ≡ b.tile → (a.number < b.number) × (a.time ≤ b.time)) → Follows a b
follows_by a b h same = let (number, time) = h same in grind (arith, nat_tests)

-- ---- of lists

-- each comes before all after it
abbrev pub InOrder : List Access → Type 0
InOrder [] = Unit {0}
InOrder (a ∷ rest) = AllByRecursion (λ b. is_before a b ≡ true) rest × InOrder rest

pub each_middle : {X : Type 0} (P : X → Type 0) (before rest : List X) (x : X) → AllByRecursion P (before ++ x ∷ rest) → P x
each_middle P [] rest x all = all.0
each_middle P (y ∷ before) rest x all = each_middle P before rest x all.1

-- ---- insertion

pub each_inserted : (P : Access → Type 0) (a : Access) (xs : List Access) → P a → AllByRecursion P xs → AllByRecursion P (inserted a xs)
each_inserted P a [] here all = (here, tt)
each_inserted P a (b ∷ xs) here all =
    elim (is_before b a) as (λ t. AllByRecursion P (cond t (b ∷ inserted a xs) (a ∷ b ∷ xs))) [
      | true ↦ (all.0, each_inserted P a xs here all.1)
      | false ↦ (here, (all.0, all.1))
    ]

pub each_in_sequence : (P : Access → Type 0) (xs : List Access) → AllByRecursion P xs → AllByRecursion P (in_sequence xs)
each_in_sequence P [] all = tt
each_in_sequence P (a ∷ xs) all = each_inserted P a (in_sequence xs) all.0 (each_in_sequence P xs all.1)

in_order_by : (a b : Access) (xs : List Access) (t : Bool) → is_before b a ≡ t → Succeeds a b → AllByRecursion (Succeeds a) xs → InOrder (b ∷ xs)
    → InOrder (inserted a xs)
    → InOrder (cond t (b ∷ inserted a xs) (a ∷ b ∷ xs))
in_order_by a b xs true e one all order rest = (each_inserted (λ y. is_before b y ≡ true) a xs e order.0, rest)
in_order_by a b xs false e one all order rest =
    let first : is_before a b ≡ true = one_before a b one e in
    ((first, AllByRecursion-map (λ y. is_before b y ≡ true) (λ y. is_before a y ≡ true) (λ y later. before_trans a b y first later) xs order.0), order)

in_order_inserted : (a : Access) (xs : List Access) → AllByRecursion (Succeeds a) xs → InOrder xs → InOrder (inserted a xs)
in_order_inserted a [] all order = (tt, tt)
in_order_inserted a (b ∷ xs) all order =
    in_order_by a b xs (is_before b a) refl all.0 all.1 order (in_order_inserted a xs all.1 order.1)

-- the accesses in sequence are in order
pub in_order_sequence : (xs : List Access) → AreSucceeding xs → InOrder (in_sequence xs)
in_order_sequence [] succeeding = tt
in_order_sequence (a ∷ xs) succeeding =
    in_order_inserted a (in_sequence xs) (each_in_sequence (Succeeds a) xs succeeding.0) (in_order_sequence xs succeeding.1)

-- ---- what comes before an access in sequence is what stands before it

none_before : (a : Access) (xs : List Access) → AllByRecursion (λ b. is_before a b ≡ true) xs → filter (λ b. is_before b a) xs ≡ []
none_before a [] all = refl
none_before a (b ∷ xs) all = let fails : is_before b a ≡ false = before_asym a b all.0 in rw fails (none_before a xs all.1)

pub before_is : (before rest : List Access) (a : Access) → InOrder (before ++ a ∷ rest) → filter (λ b. is_before b a) (before ++ a ∷ rest) ≡ before
before_is [] rest a order = let fails : is_before a a ≡ false = before_itself a in rw fails (none_before a rest order.0)
before_is (b ∷ before) rest a order =
    let passes : is_before b a ≡ true = each_middle (λ y. is_before b y ≡ true) before rest a order.0 in
    rw passes (ap (λ (xs : List Access). b ∷ xs) (before_is before rest a order.1))

-- ---- a tile's own accesses

own_by : (t : ℕ) (a b : Access) (xs : List Access) (c : Bool) → is_before b a ≡ c → a.tile ≡ t → Follows a b
    → accesses_of t (inserted a xs) ≡ a ∷ accesses_of t xs
    → accesses_of t (cond c (b ∷ inserted a xs) (a ∷ b ∷ xs)) ≡ a ∷ accesses_of t (b ∷ xs)
own_by t a b xs false e own follows rest = own_first t a (b ∷ xs) own
own_by t a b xs true e own follows rest =
    let other : b.tile ≡ t → ⊥ = λ same. false≢true (sym (before_asym a b (follows (own ∙ sym same))) ∙ e) in
    own_other t b (inserted a xs) other ∙ (rest ∙ ap (λ (ys : List Access). a ∷ ys) (sym (own_other t b xs other)))

own_inserted : (t : ℕ) (a : Access) (xs : List Access) → a.tile ≡ t → AllByRecursion (Follows a) xs → accesses_of t (inserted a xs) ≡ a ∷ accesses_of t xs
own_inserted t a [] own all = own_first t a [] own
own_inserted t a (b ∷ xs) own all = own_by t a b xs (is_before b a) refl own all.0 (own_inserted t a xs own all.1)

with_first : (t : ℕ) (b : Access) (xs ys : List Access) → accesses_of t xs ≡ accesses_of t ys → accesses_of t (b ∷ xs) ≡ accesses_of t (b ∷ ys)
with_first t b xs ys e =
    ap (λ (zs : List Access). cond (b.tile == t) (b ∷ zs) zs) e

others_inserted : (t : ℕ) (a : Access) (xs : List Access) → (a.tile ≡ t → ⊥) → accesses_of t (inserted a xs) ≡ accesses_of t xs
others_inserted t a [] other = own_other t a [] other
others_inserted t a (b ∷ xs) other =
    elim (is_before b a) as (λ c. accesses_of t (cond c (b ∷ inserted a xs) (a ∷ b ∷ xs)) ≡ accesses_of t (b ∷ xs)) [
      | true ↦ with_first t b (inserted a xs) xs (others_inserted t a xs other)
      | false ↦ own_other t a (b ∷ xs) other
    ]

-- they stand in sequence as they were performed
pub own_sequence : (t : ℕ) (xs : List Access) → AreRising xs → accesses_of t (in_sequence xs) ≡ accesses_of t xs
own_sequence t [] rising = refl
own_sequence t (a ∷ xs) rising =
    elim (cases_eq a.tile t) [
      | inl own ↦ own_inserted t a (in_sequence xs) own (each_in_sequence (Follows a) xs rising.0)
          ∙ (ap (λ (ys : List Access). a ∷ ys) (own_sequence t xs rising.1) ∙ sym (own_first t a xs own))
      | inr other ↦ others_inserted t a (in_sequence xs) other ∙ (own_sequence t xs rising.1 ∙ sym (own_other t a xs other))
    ]
