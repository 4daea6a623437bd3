-- What is still to be answered: as much more as a step orders, and one less where a tile delivers a request that it answers.
use Rattle.std.proofs.Common.{◌≡◌, ◌⊎◌, ℕ, zero, suc, ◌+◌, ◌*◌, ◌<◌, ◌≤◌, Bool, true, false, cond, List, [], ◌++◌, take, Option, Some, None, length, refl, sym, ◌∙◌, ap, subst, arith, append-nil, length-append, inl, inr, eqb-true}
use Rattle.std.proofs.lemmas.Bool.{cases_lt}
use Rattle.std.proofs.lemmas.Bool.Decides.{nat_tests}
use Rattle.std.proofs.lemmas.Option.{slice_get_within}
use Rattle.mesh_gen.specs.Ports.{count_if}
use Rattle.std.specs.Prelude.{slice_get, count_by, nat_le, ◌==◌}
use Rattle.std.proofs.Math.Nat.{mul-add, mul-le-mul_left}
use Rattle.std.proofs.lemmas.List.{take-append-le}
use Rattle.std.proofs.lemmas.List.Sums.{sum_by-cons}
use Rattle.mesh_gen.specs.declared.request.Request.{Request}
use Rattle.order_tracker.specs.Order.{upwards}
use Rattle.chip_model.specs.Chip.{Chip}
use Rattle.chip_model.specs.ChipState.{ChipState}
use Rattle.chip_model.specs.Ownership.{owner}
use Rattle.chip_model.specs.Suppliers.{delivered_at}
use Rattle.net_iface.proofs.Named.{slice_get-append_left}
use Rattle.chip_laws.proofs.SupplyCounts.{count_by-same}
use Rattle.bound_laws.specs.Measure.{per_answer, answerer, has_to_come, is_to_answer_at, is_to_answer, answers_to_go}
use Rattle.bound_laws.proofs.Sums.{cond_le, sum_ones}
use Rattle.bound_laws.proofs.WindowSteps.{count-split}

count_le : (p : ℕ → Bool) (first count : ℕ) → count_by p (upwards first count) ≤ count
count_le p first count = sum_ones (λ k. cond (p k) 1 0) first count (λ k. cond_le (p k) 1)

-- the tiles have delivered as many requests as before
abbrev pub SameCounts : ChipState → ChipState → Type 0
SameCounts s new = (t : ℕ) → delivered_at new t ≡ delivered_at s t

same_answer : (chip : Chip) (s new : ChipState) (more : List Request) (place : ℕ) → new.network.ordered ≡ s.network.ordered ++ more → SameCounts s new
    → place < length s.network.ordered → is_to_answer chip new place ≡ is_to_answer chip s place
same_answer chip s new more place ordered same within =
    let there : slice_get new.network.ordered place ≡ slice_get s.network.ordered place =
    ap (λ requests. slice_get requests place) ordered ∙ slice_get-append_left s.network.ordered more place within in
    let front : take place new.network.ordered ≡ take place s.network.ordered =
    ap (take place) ordered ∙ take-append-le place s.network.ordered more (omega arith) in
    ap (is_to_answer_at chip new place) there ∙ by (slice_get s.network.ordered place) front
  where
    come : (t : Option ℕ) → has_to_come new place t ≡ has_to_come s place t
    come None = refl
    come (Some t) = ap (λ (count : ℕ). nat_le count place) (same t)

    by : (o : Option Request) → take place new.network.ordered ≡ take place s.network.ordered
        → is_to_answer_at chip new place o ≡ is_to_answer_at chip s place o
    by None front = refl
    by (Some q) front =
        ap (λ (requests : List Request). has_to_come new place (answerer chip q (owner q.line requests))) front
        ∙ come (answerer chip q (owner q.line (take place s.network.ordered)))

-- each request that is ordered is one more to be answered, at most
pub answers_grow : (chip : Chip) (s new : ChipState) (more : List Request) → new.network.ordered ≡ s.network.ordered ++ more → SameCounts s new
    → answers_to_go chip new ≤ answers_to_go chip s + per_answer chip * length more
unfolding answers_to_go
answers_grow chip s new more ordered same =
    let longer : length new.network.ordered ≡ length s.network.ordered + length more = ap length ordered ∙ length-append s.network.ordered more in
    let parts =
    ap (λ (count : ℕ). count_by (is_to_answer chip new) (upwards 0 count)) longer
    ∙ count-split (is_to_answer chip new) (length s.network.ordered) (length more) in
    let old =
    count_by-same (is_to_answer chip new) (is_to_answer chip s) 0 (length s.network.ordered)
    (λ place from to. same_answer chip s new more place ordered same (omega arith)) in
    let few = count_le (is_to_answer chip new) (length s.network.ordered) (length more) in
    let all : count_by (is_to_answer chip new) (upwards 0 (length new.network.ordered)) ≤ count_by (is_to_answer chip s)
    (upwards 0 (length s.network.ordered)) + length more = omega arith in
    let less = mul-le-mul_left (per_answer chip) all in
    omega (arith, mul-add (per_answer chip) (count_by (is_to_answer chip s) (upwards 0 (length s.network.ordered))) (length more))

pub answers_same : (chip : Chip) (s new : ChipState) → new.network.ordered ≡ s.network.ordered → SameCounts s new
    → answers_to_go chip new ≤ answers_to_go chip s
answers_same chip s new ordered same =
    let grow = answers_grow chip s new [] (ordered ∙ sym (append-nil s.network.ordered)) same in
    let none : per_answer chip * length {A = Request} [] ≡ 0 = omega arith in
    omega arith

-- ---- a delivery
abbrev pub is_by : ℕ → Option ℕ → Bool
is_by t None = false
is_by t (Some answers) = answers == t

count_mono : (p q : ℕ → Bool) (first count : ℕ) → ((k : ℕ) → count_if (p k) ≤ count_if (q k))
    → count_by p (upwards first count) ≤ count_by q (upwards first count)
count_mono p q first zero each = omega arith
count_mono p q first (suc count) each =
    let rest = count_mono p q (first + 1) count each in
    let here = each first in
    omega (arith, sum_by-cons (λ k. cond (p k) 1 0) first (upwards (first + 1) count), sum_by-cons (λ k. cond (q k) 1 0) first (upwards (first + 1) count))

-- where a test passes nowhere that it did not, and at one place less by so much, it counts less by so much
count_falls : (p q : ℕ → Bool) (place less first count : ℕ) → first ≤ place → place < first + count → ((k : ℕ) → count_if (p k) ≤ count_if (q k))
    → count_if (p place) + less ≤ count_if (q place)
    → count_by p (upwards first count) + less ≤ count_by q (upwards first count)
count_falls p q place less first zero from to each at = absurd (omega arith)
count_falls p q place less first (suc count) from to each at =
    by (cases_lt first place) (λ later. count_falls p q place less (first + 1) count (omega arith) (omega arith) each at)
  where
    by : (first < place) ⊎ (place ≤ first) → (first < place → count_by p (upwards (first + 1) count) + less ≤ count_by q (upwards (first + 1) count))
        → count_by p (upwards first (suc count)) + less ≤ count_by q (upwards first (suc count))
    by (inl later) rest =
        let after = rest later in
        let here = each first in
        omega (arith, sum_by-cons (λ k. cond (p k) 1 0) first (upwards (first + 1) count), sum_by-cons (λ k. cond (q k) 1 0) first (upwards (first + 1) count))
    by (inr not_later) rest =
        let same : place ≡ first = omega arith in
        let here : count_if (p first) + less ≤ count_if (q first) = subst (λ (k : ℕ). count_if (p k) + less ≤ count_if (q k)) same at in
        let after = count_mono p q (first + 1) count each in
        omega (arith, sum_by-cons (λ k. cond (p k) 1 0) first (upwards (first + 1) count), sum_by-cons (λ k. cond (q k) 1 0) first (upwards (first + 1) count))

le_mono : (a b k : ℕ) → a ≤ b → count_if (nat_le b k) ≤ count_if (nat_le a k)
le_mono a b k less = grind (arith, nat_tests)

passed : (place : ℕ) → count_if (nat_le (place + 1) place) + 1 ≤ count_if (nat_le place place)
passed place = grind (arith, nat_tests)

-- a tile has delivered the request at a place, and nothing else has happened
pub record Delivers (s new : ChipState) (t place : ℕ) : Type 0 where
  pub ordered : new.network.ordered ≡ s.network.ordered
  pub was : delivered_at s t ≡ place
  pub is : delivered_at new t ≡ place + 1
  pub more : (k : ℕ) → delivered_at s k ≤ delivered_at new k

-- where the tile is the one that answers the request, one less is to be answered
pub answers_fall : (chip : Chip) (s new : ChipState) (t place : ℕ) (q : Request) → Delivers s new t place → slice_get s.network.ordered place ≡ Some q
    → answers_to_go chip new + per_answer chip * count_if (is_by t (answerer chip q (owner q.line (take place s.network.ordered)))) ≤ answers_to_go chip s
unfolding answers_to_go
answers_fall chip s new t place q step there =
    let longer = ap (λ (requests : List Request). length requests) step.ordered in
    let within = slice_get_within s.network.ordered place q there in
    let less =
    count_falls (is_to_answer chip new) (is_to_answer chip s) place (count_if (is_by t answers)) 0 (length s.network.ordered)
    (omega arith) (omega arith) each at in
    let all = ap (λ (count : ℕ). count_by (is_to_answer chip new) (upwards 0 count)) longer in
    let fewer : count_by (is_to_answer chip new) (upwards 0 (length new.network.ordered)) + count_if (is_by t answers)
    ≤ count_by (is_to_answer chip s) (upwards 0 (length s.network.ordered)) = omega arith in
    let price = mul-le-mul_left (per_answer chip) fewer in
    omega (arith, mul-add (per_answer chip) (count_by (is_to_answer chip new) (upwards 0 (length new.network.ordered))) (count_if (is_by t answers)))
  where
    answers : Option ℕ
    answers = answerer chip q (owner q.line (take place s.network.ordered))

    comes : (k : ℕ) (o : Option ℕ) → count_if (has_to_come new k o) ≤ count_if (has_to_come s k o)
    comes k None = omega arith
    comes k (Some tile) = le_mono (delivered_at s tile) (delivered_at new tile) k (step.more tile)

    one : (k : ℕ) (o : Option Request) → count_if (is_to_answer_at chip new k o) ≤ count_if (is_to_answer_at chip s k o)
    one k None = omega arith
    one k (Some q) =
        let same = ap (λ (requests : List Request). count_if (has_to_come new k (answerer chip q (owner q.line (take k requests))))) step.ordered in
        let less = comes k (answerer chip q (owner q.line (take k s.network.ordered))) in
        omega arith

    each : (k : ℕ) → count_if (is_to_answer chip new k) ≤ count_if (is_to_answer chip s k)
    each k =
        let same = ap (λ (requests : List Request). count_if (is_to_answer_at chip new k (slice_get requests k))) step.ordered in
        let less = one k (slice_get s.network.ordered k) in
        omega arith

    leaves : (o : Option ℕ) → count_if (has_to_come new place o) + count_if (is_by t o) ≤ count_if (has_to_come s place o)
    leaves None = omega arith
    leaves (Some tile) = by (tile == t) refl
      where
        by : (own : Bool) → (tile == t) ≡ own → count_if (nat_le (delivered_at new tile) place) + count_if own ≤ count_if (nat_le (delivered_at s tile) place)
        by true is =
            let here = eqb-true tile t is in
            let now : delivered_at new tile ≡ place + 1 = ap (delivered_at new) here ∙ step.is in
            let before : delivered_at s tile ≡ place = ap (delivered_at s) here ∙ step.was in
            rw (now, before) (passed place)
        by false is = let less = le_mono (delivered_at s tile) (delivered_at new tile) place (step.more tile) in omega arith

    at : count_if (is_to_answer chip new place) + count_if (is_by t answers) ≤ count_if (is_to_answer chip s place)
    at =
        let now =
        ap (λ (requests : List Request). count_if (is_to_answer_at chip new place (slice_get requests place))) step.ordered ∙ ap
        (λ (o : Option Request). count_if (is_to_answer_at chip new place o)) there in
        let here = ap (λ (requests : List Request). count_if (has_to_come new place (answerer chip q (owner q.line (take place requests))))) step.ordered in
        let before = ap (λ (o : Option Request). count_if (is_to_answer_at chip s place o)) there in
        let less = leaves answers in
        omega arith
