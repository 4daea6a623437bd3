-- One more access: where it stands in sequence, and which accesses then pass a test.
use Rattle.std.proofs.Common.{◌≡◌, Bool, true, false, cond, List, [], ◌∷◌, ◌++◌, filter, sym, ap, ◌∙◌, refl, subst}
use Rattle.std.specs.List.{AllByRecursion}
use Rattle.std.proofs.lemmas.Bool.{false≢true}
use Rattle.report_text.specs.declared.access.Access.{Access}
use Rattle.chip_model.specs.Witness.{is_before, inserted, in_sequence}
use Rattle.value_laws.specs.Sequences.{Succeeds}
use Rattle.value_laws.proofs.Sequences.{InOrder, one_before, before_asym, before_between, before_trans}

-- ---- two accesses of which one comes before the other are inserted in any order

abbrev put : Access → Access → List Access → Bool → List Access
put a b xs t = cond t (b ∷ inserted a xs) (a ∷ b ∷ xs)

swapped_at : (x a b : Access) (xs : List Access) (p q : Bool) → is_before b x ≡ p → is_before b a ≡ q → Succeeds x a
    → inserted x (inserted a xs) ≡ inserted a (inserted x xs)
    → inserted x (put a b xs q) ≡ inserted a (put x b xs p)
swapped_at x a b xs true true ep eq follows rest = rw (ep, eq) (ap (λ (ys : List Access). b ∷ ys) rest)
swapped_at x a b xs false true ep eq follows rest =
    let first : is_before x a ≡ true = before_between x b a ep eq in
    rw (ep, first, eq) refl
swapped_at x a b xs true false ep eq follows rest =
    let first : is_before a x ≡ true = before_between a b x eq ep in
    rw (first, ep, eq) refl
swapped_at x a b xs false false ep eq follows rest =
    -- x and a both go before b
    subst (λ (ys : List Access). cond (is_before a x) (a ∷ ys) (x ∷ a ∷ b ∷ xs) ≡ inserted a (x ∷ b ∷ xs)) (sym x_here)
    (subst (λ (ys : List Access). cond (is_before a x) (a ∷ x ∷ b ∷ xs) (x ∷ a ∷ b ∷ xs) ≡ cond (is_before x a) (x ∷ ys) (a ∷ x ∷ b ∷ xs)) (sym a_here)
    (pair (is_before a x) (is_before x a) refl refl)) where
      x_here : inserted x (b ∷ xs) ≡ x ∷ b ∷ xs
      x_here = rw ep refl

      a_here : inserted a (b ∷ xs) ≡ a ∷ b ∷ xs
      a_here = rw eq refl

      pair : (p q : Bool) → is_before a x ≡ p → is_before x a ≡ q → cond p (a ∷ x ∷ b ∷ xs) (x ∷ a ∷ b ∷ xs) ≡ cond q (x ∷ a ∷ b ∷ xs) (a ∷ x ∷ b ∷ xs)
      pair true false e f = refl
      pair false true e f = refl
      pair true true e f = absurd (false≢true (sym (before_asym x a f) ∙ e))
      pair false false e f = absurd (false≢true (sym f ∙ one_before x a follows e))

swapped : (x a : Access) (xs : List Access) → Succeeds x a → inserted x (inserted a xs) ≡ inserted a (inserted x xs)
swapped x a [] follows = pair (is_before a x) (is_before x a) refl refl where
  pair : (p q : Bool) → is_before a x ≡ p → is_before x a ≡ q → cond p (a ∷ x ∷ []) (x ∷ a ∷ []) ≡ cond q (x ∷ a ∷ []) (a ∷ x ∷ [])
  pair true false e f = refl
  pair false true e f = refl
  pair true true e f = absurd (false≢true (sym (before_asym x a f) ∙ e))
  pair false false e f = absurd (false≢true (sym f ∙ one_before x a follows e))
swapped x a (b ∷ xs) follows = swapped_at x a b xs (is_before b x) (is_before b a) refl refl follows (swapped x a xs follows)

-- the last access performed stands in sequence as if it had been inserted last
pub sequence_push : (xs : List Access) (a : Access) → AllByRecursion (λ x. Succeeds x a) xs → in_sequence (xs ++ a ∷ []) ≡ inserted a (in_sequence xs)
sequence_push [] a all = refl
sequence_push (x ∷ xs) a all =
    ap (inserted x) (sequence_push xs a all.1) ∙ swapped x a (in_sequence xs) all.0

-- ---- which accesses pass a test

-- one that does not pass changes nothing
pub passed_over : (p : Access → Bool) (a : Access) (xs : List Access) → p a ≡ false → filter p (inserted a xs) ≡ filter p xs
passed_over p a [] fails = rw fails refl
passed_over p a (b ∷ xs) fails =
    elim (is_before b a) as (λ t. filter p (put a b xs t) ≡ filter p (b ∷ xs)) [
      | true ↦ ap (λ (ys : List Access). cond (p b) (b ∷ ys) ys) (passed_over p a xs fails)
      | false ↦ rw fails refl
    ]

none_passes : (p : Access → Bool) (xs : List Access) → AllByRecursion (λ b. p b ≡ false) xs → filter p xs ≡ []
none_passes p [] all = refl
none_passes p (b ∷ xs) all = let fails : p b ≡ false = all.0 in rw fails (none_passes p xs all.1)

behind_by : (p : Access → Bool) (a b y : Access) (t : Bool) → is_before b a ≡ false → is_before b y ≡ true → (p y ≡ true → is_before y a ≡ true) → p y ≡ t
    → p y ≡ false
behind_by p a b y false stop later all e = e
behind_by p a b y true stop later all e = absurd (false≢true (sym stop ∙ before_trans b y a later (all e)))

behind : (p : Access → Bool) (a b : Access) → is_before b a ≡ false → (xs : List Access) → AllByRecursion (λ y. is_before b y ≡ true) xs
    → AllByRecursion (λ y. p y ≡ true → is_before y a ≡ true) xs → AllByRecursion (λ y. p y ≡ false) xs
behind p a b stop [] later all = tt
behind p a b stop (y ∷ xs) later all = (behind_by p a b y (p y) stop later.0 all.0 refl, behind p a b stop xs later.1 all.1)

last_by : (p : Access → Bool) (a b : Access) (xs : List Access) (t s : Bool) → is_before b a ≡ t → p b ≡ s → p a ≡ true → InOrder (b ∷ xs)
    → AllByRecursion (λ y. p y ≡ true → is_before y a ≡ true) (b ∷ xs) → filter p (inserted a xs) ≡ filter p xs ++ a ∷ []
    → filter p (put a b xs t) ≡ filter p (b ∷ xs) ++ a ∷ []
last_by p a b xs true true e f passes order all rest = rw f (ap (λ (ys : List Access). b ∷ ys) rest)
last_by p a b xs true false e f passes order all rest = rw f rest
last_by p a b xs false true e f passes order all rest = absurd (false≢true (sym e ∙ all.0 f))
last_by p a b xs false false e f passes order all rest =
    rw (passes, f, none_passes p xs (behind p a b e xs order.0 all.1)) refl

-- one after all that pass is the last of them
pub passed_last : (p : Access → Bool) (a : Access) (xs : List Access) → p a ≡ true → InOrder xs → AllByRecursion (λ y. p y ≡ true → is_before y a ≡ true) xs
    → filter p (inserted a xs) ≡ filter p xs ++ a ∷ []
passed_last p a [] passes order all = rw passes refl
passed_last p a (b ∷ xs) passes order all =
    last_by p a b xs (is_before b a) (p b) refl refl passes order all (passed_last p a xs passes order.1 all.1)

-- tests that agree on the accesses
pub same_passed : {X : Type 0} (p q : X → Bool) (xs : List X) → AllByRecursion (λ x. p x ≡ q x) xs → filter p xs ≡ filter q xs
same_passed {X = X} p q [] all = refl
same_passed {X = X} p q (x ∷ xs) all =
    let e : p x ≡ q x = all.0 in
    rw e (ap (λ (ys : List X). cond (q x) (x ∷ ys) ys) (same_passed p q xs all.1))
