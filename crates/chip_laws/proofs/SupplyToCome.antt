-- The gets that are still to come to their suppliers, counted over the places of the order: one less where a supplier
-- delivers the next request, and as many more as there are in what the order grows by.
use Rattle.std.proofs.Common.{◌≡◌, ◌≢◌, ℕ, zero, suc, ◌+◌, ◌<◌, ◌≤◌, Bool, true, false, cond, List, [], ◌∷◌, ◌++◌, length, take, length-append, refl, sym, ◌∙◌, ap, arith, inl, inr, Option, Some, None}
use Rattle.std.specs.Prelude.{◌==◌, ◌&&◌, nat_le, slice_get}
use Rattle.std.specs.List.{count_by}
use Rattle.std.proofs.lemmas.Bool.{cases_eq, le-leb, eq-eqb, ne_eqb}
use Rattle.std.proofs.lemmas.Bool.Decides.{nat_tests}
use Rattle.std.proofs.lemmas.List.{take-append-le}
use Rattle.std.proofs.lemmas.Option.{slice_get_within}
use Rattle.mesh_gen.specs.declared.request.Request.{Request}
use Rattle.mesh_gen.specs.Ports.{count_if}
use Rattle.order_tracker.specs.Order.{upwards}
use Rattle.chip_model.specs.Chip.{Chip}
use Rattle.chip_model.specs.ChipState.{ChipState}
use Rattle.chip_model.specs.Ownership.{owner}
use Rattle.chip_model.specs.Bookkeeping.{is_get_of}
use Rattle.chip_model.specs.Suppliers.{supplier, delivered_at, is_to_come_at, is_to_come}
use Rattle.chip_laws.proofs.SupplyCounts.{count_by-append, count_by-same, count_by-one, count_by-places, upwards-append}

-- the supplier of a get at a place of the order
abbrev pub supplies_at : Chip → List Request → ℕ → Request → ℕ
supplies_at chip ordered place q = supplier chip q.line (owner q.line (take place ordered))

-- a tile's get is still to come, by what each tile has delivered
abbrev pub comes_at : Chip → (ℕ → ℕ) → List Request → ℕ → ℕ → Option Request → Bool
comes_at chip count ordered t place None = false
comes_at chip count ordered t place (Some q) = is_get_of t q && nat_le (count (supplies_at chip ordered place q)) place

abbrev pub comes : Chip → (ℕ → ℕ) → List Request → ℕ → ℕ → Bool
comes chip count ordered t place = comes_at chip count ordered t place (slice_get ordered place)

-- how many of a tile's gets are
abbrev pub to_come : Chip → (ℕ → ℕ) → List Request → ℕ → ℕ
to_come chip count ordered t = count_by (comes chip count ordered t) (upwards 0 (length ordered))

pub to_come_is : (chip : Chip) (s : ChipState) (t : ℕ) → count_by (is_to_come chip s t) (upwards 0 (length s.network.ordered)) ≡ to_come chip (delivered_at s) s.network.ordered t
to_come_is chip s t = count_by-same (is_to_come chip s t) (comes chip (delivered_at s) s.network.ordered t) 0 (length s.network.ordered) (λ k above below. by k (slice_get s.network.ordered k)) where
  by : (k : ℕ) (o : Option Request) → is_to_come_at chip s t k o ≡ comes_at chip (delivered_at s) s.network.ordered t k o
  by k None = refl
  by k (Some q) = refl

-- ---- nothing is delivered
pub to_come_same : (chip : Chip) (count new : ℕ → ℕ) (ordered : List Request) (t : ℕ) → ((v : ℕ) → new v ≡ count v) → to_come chip new ordered t ≡ to_come chip count ordered t
to_come_same chip count new ordered t same =
    count_by-same (comes chip new ordered t) (comes chip count ordered t) 0 (length ordered) (λ k above below. by k (slice_get ordered k)) where
      by : (k : ℕ) (o : Option Request) → comes_at chip new ordered t k o ≡ comes_at chip count ordered t k o
      by k None = refl
      by k (Some q) = ap (λ n. is_get_of t q && nat_le n k) (same (supplies_at chip ordered k q))

-- ---- a tile delivers the next request
-- the counts of the tiles before and after
pub record Delivers (count new : ℕ → ℕ) (u : ℕ) : Type 0 where
  pub here : new u ≡ count u + 1
  pub others : (v : ℕ) → v ≢ u → new v ≡ count v

le_next : (n k : ℕ) → k ≢ n → nat_le (n + 1) k ≡ nat_le n k
le_next n k away = elim (cases_eq k n) [ inl same ↦ absurd (away same) | inr other ↦ grind (arith, nat_tests, other) ]

pub elsewhere : (count new : ℕ → ℕ) (u v k : ℕ) → Delivers count new u → k ≢ count u → nat_le (new v) k ≡ nat_le (count v) k
elsewhere count new u v k delivers away = elim (cases_eq v u) [
  | inl same ↦ ap (λ w. nat_le (new w) k) same ∙ ap (λ n. nat_le n k) delivers.here ∙ le_next (count u) k away ∙ ap (λ w. nat_le (count w) k) (sym same)
  | inr other ↦ ap (λ n. nat_le n k) (delivers.others v other)
]

and_true : (b : Bool) → count_if (b && true) ≡ count_if b
and_true true = refl
and_true false = refl

and_false : (b : Bool) → count_if (b && false) ≡ 0
and_false true = refl
and_false false = refl

le_self : (n : ℕ) → nat_le n n ≡ true
le_self n = le-leb n n (omega arith)

not_le_next : (n : ℕ) → nat_le (n + 1) n ≡ false
not_le_next n = grind (arith, nat_tests)

pub at_place : (count new : ℕ → ℕ) (u v : ℕ) (get : Bool) → Delivers count new u
    → count_if (get && nat_le (new v) (count u)) + cond (v == u) (count_if get) 0 ≡ count_if (get && nat_le (count v) (count u))
at_place count new u v get delivers = elim (cases_eq v u) [
  | inl same ↦ (
      let was : count_if (get && nat_le (count v) (count u)) ≡ count_if get = ap (λ w. count_if (get && nat_le (count w) (count u))) same ∙ ap (λ b. count_if (get && b)) (le_self (count u)) ∙ and_true get in
      let is : count_if (get && nat_le (new v) (count u)) ≡ 0 =
      ap (λ w. count_if (get && nat_le (new w) (count u))) same ∙ ap (λ n. count_if (get && nat_le n (count u))) delivers.here ∙ ap (λ b. count_if (get && b)) (not_le_next (count u)) ∙ and_false get in
      let here : cond (v == u) (count_if get) 0 ≡ count_if get = ap (λ b. cond b (count_if get) 0) (eq-eqb v u same) in
      omega (arith, was, is, here))
  | inr other ↦ (
      let is : count_if (get && nat_le (new v) (count u)) ≡ count_if (get && nat_le (count v) (count u)) = ap (λ n. count_if (get && nat_le n (count u))) (delivers.others v other) in
      let away : cond (v == u) (count_if get) 0 ≡ 0 = ap (λ b. cond b (count_if get) 0) (ne_eqb v u other) in
      omega (arith, is, away))
]

pub to_come_delivered : (chip : Chip) (count new : ℕ → ℕ) (ordered : List Request) (t u : ℕ) (q : Request) → Delivers count new u → slice_get ordered (count u) ≡ Some q
    → to_come chip new ordered t + cond (supplies_at chip ordered (count u) q == u) (count_if (is_get_of t q)) 0 ≡ to_come chip count ordered t
to_come_delivered chip count new ordered t u q delivers next =
    let place = count u in
    let within = slice_get_within ordered place q next in
    let sum = count_by-one (comes chip new ordered t) (comes chip count ordered t) 0 (length ordered) place (omega arith) (omega (arith, within)) (λ k away. by k away (slice_get ordered k)) in
    let was : count_if (comes chip count ordered t place) ≡ count_if (comes_at chip count ordered t place (Some q)) = ap (λ o. count_if (comes_at chip count ordered t place o)) next in
    let is : count_if (comes chip new ordered t place) ≡ count_if (comes_at chip new ordered t place (Some q)) = ap (λ o. count_if (comes_at chip new ordered t place o)) next in
    omega (arith, sum, was, is, at_place count new u (supplies_at chip ordered place q) (is_get_of t q) delivers)
  where
    by : (k : ℕ) → k ≢ count u → (o : Option Request) → comes_at chip new ordered t k o ≡ comes_at chip count ordered t k o
    by k away None = refl
    by k away (Some r) = ap (λ b. is_get_of t r && b) (elsewhere count new u (supplies_at chip ordered k r) k delivers away)

-- ---- the order grows
get_before : {X : Type 0} (xs ys : List X) (k : ℕ) → k < length xs → slice_get (xs ++ ys) k ≡ slice_get xs k
get_before [] ys k below = absurd (omega arith)
get_before (x ∷ xs) ys zero below = refl
get_before (x ∷ xs) ys (suc k) below = get_before xs ys k (omega arith)

get_after : {X : Type 0} (xs ys : List X) (k : ℕ) → slice_get (xs ++ ys) (length xs + k) ≡ slice_get ys k
get_after [] ys k = let same : 0 + k ≡ k = omega arith in ap (slice_get ys) same
get_after (x ∷ xs) ys k = let same : suc (length xs) + k ≡ suc (length xs + k) = omega arith in ap (slice_get (x ∷ (xs ++ ys))) same ∙ get_after xs ys k

and_is : (a b : Bool) → b ≡ true → (a && b) ≡ a
and_is true b is = is
and_is false b is = refl

pub to_come_grown : (chip : Chip) (count : ℕ → ℕ) (ordered more : List Request) (t : ℕ) → ((v : ℕ) → count v ≤ length ordered)
    → to_come chip count (ordered ++ more) t ≡ to_come chip count ordered t + count_by (is_get_of t) more
to_come_grown chip count ordered more t within =
    let p = comes chip count (ordered ++ more) t in
    let n = length ordered in
    let parts : count_by p (upwards 0 (length (ordered ++ more))) ≡ count_by p (upwards 0 n) + count_by p (upwards (0 + n) (length more)) =
    ap (λ k. count_by p (upwards 0 k)) (length-append ordered more) ∙ ap (count_by p) (upwards-append 0 n (length more)) ∙ count_by-append p (upwards 0 n) (upwards (0 + n) (length more)) in
    let old = count_by-same p (comes chip count ordered t) 0 n (λ k above below. before k (omega (arith, below))) in
    let new = count_by-places p (is_get_of t) more (0 + n) (λ k q at. beyond k q at) in
    omega (arith, parts, old, new)
  where
    at_before : (k : ℕ) → k ≤ length ordered → (o : Option Request) → comes_at chip count (ordered ++ more) t k o ≡ comes_at chip count ordered t k o
    at_before k below None = refl
    at_before k below (Some q) = ap (λ xs. is_get_of t q && nat_le (count (supplier chip q.line (owner q.line xs))) k) (take-append-le k ordered more below)

    before : (k : ℕ) → k < length ordered → comes chip count (ordered ++ more) t k ≡ comes chip count ordered t k
    before k below = ap (comes_at chip count (ordered ++ more) t k) (get_before ordered more k below) ∙ at_before k (omega (arith, below)) (slice_get ordered k)

    beyond : (k : ℕ) (q : Request) → slice_get more k ≡ Some q → comes chip count (ordered ++ more) t (0 + length ordered + k) ≡ is_get_of t q
    beyond k q at =
        let same : 0 + length ordered + k ≡ length ordered + k = omega arith in
        let place = length ordered + k in
        let v = supplies_at chip (ordered ++ more) place q in
        ap (comes chip count (ordered ++ more) t) same
        ∙ ap (comes_at chip count (ordered ++ more) t place) (get_after ordered more k ∙ at)
        ∙ and_is (is_get_of t q) (nat_le (count v) place) (le-leb (count v) place (omega (arith, within v)))
