-- Two lists of accesses in order that have the same sums of every function are the same.
use Rattle.std.proofs.Common.{◌≡◌, ℕ, Bool, true, false, cond, List, [], ◌∷◌, refl, sym, ◌∙◌, ap, arith}
use Rattle.std.specs.List.{AllByRecursion, sum_by}
use Rattle.std.proofs.lemmas.List.Sums.{sum_by-cons}
use Rattle.core_isa.proofs.Elements.{AllByRecursion-map}
use Rattle.report_text.specs.declared.access.Access.{Access}
use Rattle.report_text.specs.declared.access.AccessKind.{AccessKind}
use Rattle.report_text.specs.declared.access.AccessKind.TheVariants.{Load, Store, Swap, Add}
use Rattle.chip_model.specs.Witness.{is_before}
use Rattle.order_witness.proofs.Befores.{before_trans, has_key_of, key_not_before, key_own, before_same}

-- each access comes before all that stand after it
abbrev pub IsRising : List Access → Type 0
IsRising [] = Unit {0}
IsRising (a ∷ rest) = AllByRecursion (λ b. is_before a b ≡ true) rest × IsRising rest

-- a function at the accesses with the key of one, and nothing elsewhere
abbrev at_key : Access → (Access → ℕ) → Access → ℕ
at_key a f b = cond (has_key_of a b) (f b) 0

none_later : (a : Access) (f : Access → ℕ) (rest : List Access) → AllByRecursion (λ b. is_before a b ≡ true) rest → sum_by (at_key a f) rest ≡ 0
none_later a f [] later = refl
none_later a f (b ∷ rest) later =
    let here : at_key a f b ≡ 0 = ap (λ (c : Bool). cond c (f b) 0) (key_not_before a b later.0) in
    omega (arith, sum_by-cons (at_key a f) b rest, here, none_later a f rest later.1)

first_alone : (a : Access) (f : Access → ℕ) (rest : List Access) → AllByRecursion (λ b. is_before a b ≡ true) rest → sum_by (at_key a f) (a ∷ rest) ≡ f a
first_alone a f rest later =
    let here : at_key a f a ≡ f a = ap (λ (c : Bool). cond c (f a) 0) (key_own a) in
    omega (arith, sum_by-cons (at_key a f) a rest, here, none_later a f rest later)

-- the lists of which an access comes before the first
all_later : (a b : Access) (rest : List Access) → is_before a b ≡ true → AllByRecursion (λ c. is_before b c ≡ true) rest → AllByRecursion (λ c. is_before a c ≡ true) (b ∷ rest)
all_later a b rest first later = (first, AllByRecursion-map (λ c. is_before b c ≡ true) (λ c. is_before a c ≡ true) (λ c next. before_trans a b c first next) rest later)

kind_number : AccessKind → ℕ
kind_number Load = 0
kind_number Store = 1
kind_number Swap = 2
kind_number Add = 3

same_kind : (a b : AccessKind) → kind_number a ≡ kind_number b → a ≡ b
unfolding kind_number
same_kind Load Load is = refl
same_kind Load Store is = absurd (omega (arith, is))
same_kind Load Swap is = absurd (omega (arith, is))
same_kind Load Add is = absurd (omega (arith, is))
same_kind Store Load is = absurd (omega (arith, is))
same_kind Store Store is = refl
same_kind Store Swap is = absurd (omega (arith, is))
same_kind Store Add is = absurd (omega (arith, is))
same_kind Swap Load is = absurd (omega (arith, is))
same_kind Swap Store is = absurd (omega (arith, is))
same_kind Swap Swap is = refl
same_kind Swap Add is = absurd (omega (arith, is))
same_kind Add Load is = absurd (omega (arith, is))
same_kind Add Store is = absurd (omega (arith, is))
same_kind Add Swap is = absurd (omega (arith, is))
same_kind Add Add is = refl

-- an access is what every function tells of it
same_access : (a b : Access) → ((f : Access → ℕ) → f a ≡ f b) → a ≡ b
same_access a b same =
    let tile = same (λ x. x.tile) in
    let number = same (λ x. x.number) in
    let kind : a.kind ≡ b.kind = same_kind a.kind b.kind (same (λ x. kind_number x.kind)) in
    let address = same (λ x. x.address) in
    let value = same (λ x. x.value) in
    let time = same (λ x. x.time) in
    let old = same (λ x. x.old) in
    λ i. record { tile = tile i; number = number i; kind = kind i; address = address i; value = value i; time = time i; old = old i }

pub same_lists : (xs ys : List Access) → IsRising xs → IsRising ys → ((f : Access → ℕ) → sum_by f xs ≡ sum_by f ys) → xs ≡ ys
same_lists [] [] up down same = refl
same_lists [] (y ∷ ys) up down same = absurd (omega (arith, same (λ a. 1), sum_by-cons (λ (a : Access). 1) y ys))
same_lists (x ∷ xs) [] up down same = absurd (omega (arith, same (λ a. 1), sum_by-cons (λ (a : Access). 1) x xs))
same_lists (x ∷ xs) (y ∷ ys) up down same = by (is_before x y) refl (is_before y x) refl (same_lists xs ys up.1 down.1)
  where
    shared : is_before x y ≡ false → is_before y x ≡ false → (f : Access → ℕ) → sum_by (at_key x f) (y ∷ ys) ≡ f y
    shared one two f =
        let key : has_key_of x y ≡ true = rw (one, two) refl in
        let first : at_key x f y ≡ f y = ap (λ (c : Bool). cond c (f y) 0) key in
        let none = none_later x f ys (AllByRecursion-map (λ c. is_before y c ≡ true) (λ c. is_before x c ≡ true) (λ c next. before_same x y c one two next) ys down.0) in
        omega (arith, sum_by-cons (at_key x f) y ys, first, none)

    by : (one : Bool) → is_before x y ≡ one → (two : Bool) → is_before y x ≡ two → (((f : Access → ℕ) → sum_by f xs ≡ sum_by f ys) → xs ≡ ys) → x ∷ xs ≡ y ∷ ys
    by true one two other rest = absurd (omega (arith, same (at_key x (λ a. 1)), first_alone x (λ a. 1) xs up.0, none_later x (λ a. 1) (y ∷ ys) (all_later x y ys one down.0)))
    by false one true two rest = absurd (omega (arith, same (at_key y (λ a. 1)), first_alone y (λ a. 1) ys down.0, none_later y (λ a. 1) (x ∷ xs) (all_later y x xs two up.0)))
    by false one false two rest =
        let here : x ≡ y = same_access x y (λ f. sym (first_alone x f xs up.0) ∙ same (at_key x f) ∙ shared one two f) in
        ap (λ (a : Access). a ∷ xs) here ∙ ap (λ (list : List Access). y ∷ list) (rest (λ f. omega (arith, same f, sum_by-cons f x xs, sum_by-cons f y ys, ap f here)))
