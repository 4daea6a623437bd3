-- Where each tile stands at most once in a list, the list is no longer than the chip has tiles.
use Rattle.std.proofs.Common.{◌≡◌, ◌≢◌, ℕ, zero, suc, ◌+◌, ◌<◌, ◌≤◌, Bool, true, false, List, [], ◌∷◌, ◌++◌, length, length-append, refl, sym, ◌∙◌, ap, arith, inl, inr}
use Rattle.std.specs.Prelude.{◌==◌, ◌&&◌, ◌||◌, not}
use Rattle.std.specs.List.{AllByRecursion, count_by}
use Rattle.std.proofs.lemmas.Bool.{cases_eq, eq-eqb, or_right}
use Rattle.mesh_gen.specs.declared.request.Request.{Request}
use Rattle.mesh_gen.specs.declared.msg.Msg.{Msg}
use Rattle.mesh_gen.specs.Ports.{count_if}
use Rattle.chip_model.specs.declared.waiting.Waiting.{Waiting}
use Rattle.chip_model.specs.Chip.{Chip, tile_count}
use Rattle.chip_model.specs.Node.{is_back}
use Rattle.chip_model.specs.Suppliers.{is_data_for, places_in}
use Rattle.chip_laws.proofs.Each.{each_append}
use Rattle.chip_laws.proofs.NodeMessages.{AllFit, AreInside}
use Rattle.chip_laws.proofs.SupplyCounts.{count_by-cons}
use Rattle.chip_laws.proofs.SupplySends.{places_more}

-- ---- items of tiles below a bound
abbrev is_below : {X : Type 0} → (ℕ → X → Bool) → ℕ → X → Bool
is_below of zero x = false
is_below of (suc n) x = of n x || is_below of n x

either_counts : (a b : Bool) → count_if (a || b) ≤ count_if a + count_if b
either_counts true b = omega arith
either_counts false b = omega arith

none_below : {X : Type 0} (of : ℕ → X → Bool) (xs : List X) → count_by (is_below of 0) xs ≡ 0
none_below of [] = refl
none_below of (x ∷ xs) = omega (arith, count_by-cons (is_below of 0) x xs, none_below of xs)

one_tile_more : {X : Type 0} (of : ℕ → X → Bool) (n : ℕ) (xs : List X) → count_by (is_below of (suc n)) xs ≤ count_by (of n) xs + count_by (is_below of n) xs
one_tile_more of n [] = omega arith
one_tile_more of n (x ∷ xs) =
    omega (
      arith,
      count_by-cons (is_below of (suc n)) x xs,
      count_by-cons (of n) x xs,
      count_by-cons (is_below of n) x xs,
      either_counts (of n x) (is_below of n x),
      one_tile_more of n xs,
    )

few_below : {X : Type 0} (of : ℕ → X → Bool) (n : ℕ) (xs : List X) → ((t : ℕ) → t < n → count_by (of t) xs ≤ 1) → count_by (is_below of n) xs ≤ n
few_below of zero xs once = omega (arith, none_below of xs)
few_below of (suc n) xs once =
    let here = once n (omega arith) in
    omega (arith, one_tile_more of n xs, here, few_below of n xs (λ t below. once t (omega (arith, below))))

found_below : {X : Type 0} (of : ℕ → X → Bool) (n t : ℕ) (x : X) → t < n → of t x ≡ true → is_below of n x ≡ true
found_below of zero t x below is = absurd (omega (arith, below))
found_below of (suc n) t x below is = elim (cases_eq t n) [
  | inl here ↦ ap (λ (b : Bool). b || is_below of n x) (ap (λ (k : ℕ). of k x) (sym here) ∙ is)
  | inr away ↦ or_right (of n x) (is_below of n x) (found_below of n t x (less t n below away) is)
] where
  less : (t n : ℕ) → t < suc n → t ≢ n → t < n
  less t n below away = omega (arith, below, away)

-- ---- tiles that wait
all_below : (n : ℕ) (list : List Waiting) → AllByRecursion (λ (w : Waiting). w.tile < n) list → length list ≤ count_by (is_below (λ t (w : Waiting). w.tile == t) n) list
all_below n [] inside = omega arith
all_below n (w ∷ list) inside =
    let here : count_if (is_below (λ t (w : Waiting). w.tile == t) n w) ≡ 1 =
    ap count_if (found_below (λ t (w : Waiting). w.tile == t) n w.tile w inside.0 (eq-eqb w.tile w.tile refl)) in
    omega (arith, count_by-cons (is_below (λ t (w : Waiting). w.tile == t) n) w list, here, all_below n list inside.1)

pub few_waiting : (n : ℕ) (list : List Waiting) → AllByRecursion (λ (w : Waiting). w.tile < n) list → ((t : ℕ) → t < n → places_in t list ≤ 1) → length list ≤ n
few_waiting n list inside once = omega (arith, all_below n list inside, few_below (λ t (w : Waiting). w.tile == t) n list once)

-- one tile more can wait that does not wait yet
pub one_more_waits : (chip : Chip) (list : List Waiting) (q : Request) → AreInside chip list → q.source < tile_count chip
    → ((t : ℕ) → t < tile_count chip → places_in t list + count_if (q.source == t) ≤ 1) → length list < tile_count chip
one_more_waits chip list q inside source once =
    let last : Waiting = record { tile = q.source; kind = q.kind } in
    let all : AreInside chip (list ++ last ∷ []) = each_append (λ (w : Waiting). w.tile < tile_count chip) list (last ∷ []) inside (source, _) in
    let few = few_waiting (tile_count chip) (list ++ last ∷ []) all (λ t below. let one = once t below in omega (arith, one, places_more t list last)) in
    omega (arith, few, length-append list (last ∷ []))

-- ---- messages: data for each tile once, and one that brings words back
data_or_back : (n : ℕ) (msg : Msg) → msg.to < n → 1 ≤ count_if (is_below is_data_for n msg) + count_if (is_back msg.kind)
data_or_back n msg inside = by (is_back msg.kind) refl where
  by : (b : Bool) → is_back msg.kind ≡ b → 1 ≤ count_if (is_below is_data_for n msg) + count_if (is_back msg.kind)
  by true is = omega (arith, ap count_if is)
  by false is =
      let here : is_data_for msg.to msg ≡ true = ap (λ (b : Bool). not b && (msg.to == msg.to)) is ∙ eq-eqb msg.to msg.to refl in
      omega (arith, ap count_if (found_below is_data_for n msg.to msg inside here))

all_data_or_back : (chip : Chip) (out : List Msg) → AllFit chip out → length out ≤ count_by (is_below is_data_for (tile_count chip)) out + count_by (λ (msg : Msg). is_back msg.kind) out
all_data_or_back chip [] fit = omega arith
all_data_or_back chip (msg ∷ out) fit =
    let n = tile_count chip in
    let here = data_or_back n msg fit.0.to in
    omega (arith, count_by-cons (is_below is_data_for n) msg out, count_by-cons (λ (m : Msg). is_back m.kind) msg out, here, all_data_or_back chip out fit.1)

pub few_messages : (chip : Chip) (out : List Msg) → AllFit chip out → ((t : ℕ) → t < tile_count chip → count_by (is_data_for t) out ≤ 1) → count_by (λ (msg : Msg). is_back msg.kind) out ≤ 1
    → length out ≤ tile_count chip + 1
few_messages chip out fit once back = omega (arith, all_data_or_back chip out fit, few_below is_data_for (tile_count chip) out once, back)
