-- How many events a round has: each tile has one turn of at most 17 events, or at most 16 core events that are left over.
use Rattle.std.proofs.Common.{◌≡◌, ◌≢◌, ℕ, zero, suc, ◌+◌, ◌*◌, ◌<◌, ◌≤◌, ◌==◌, ◌||◌, Bool, true, false, not, cond, List, [], ◌∷◌, ◌++◌, Option, Some, None, length, length-append, refl, sym, ◌∙◌, ap, subst, arith, eq-eqb, AllPairs}
use Rattle.std.specs.Prelude.{Contains, slice_get, slice_index_or, option_map, unwrap_or, replicate}
use Rattle.std.specs.List.{flat_map}
use Rattle.std.proofs.lemmas.Bool.{ne_eqb}
use Rattle.std.proofs.lemmas.Grind.{flat_map-append}
use Rattle.std.proofs.lemmas.List.{length-replicate}
use Rattle.order_tracker.specs.Order.{upwards}
use Rattle.report_text.specs.declared.entry.Entry.{Entry}
use Rattle.report_text.specs.declared.event.Event.{Event}
use Rattle.report_text.specs.declared.event.Event.TheVariants.{Core}
use Rattle.report_text.specs.Journals.{recorded}
use Rattle.chip_model.specs.Chip.{Chip}
use Rattle.chip_model.specs.Units.{UnitState, Behaviour}
use Rattle.chip_model.specs.ChipState.{ChipState}
use Rattle.round_laws.specs.Turns.{TurnsLead, alone_events, core_steps, cores_of, has_turn, left_over, most_alone}

core_steps_few : (b : Behaviour) (most : ℕ) (unit : UnitState) → core_steps b most unit ≤ most
core_steps_few b zero unit = omega arith
core_steps_few b (suc most) unit = one_more (b.ready unit) (core_steps b most (b.stepped unit).0) most (core_steps_few b most (b.stepped unit).0)
  where
    one_more : (ready : Bool) (n m : ℕ) → n ≤ m → cond ready (suc n) 0 ≤ suc m
    one_more true n m rest = omega (arith, rest)
    one_more false n m rest = omega arith

pub cores_few : (b : Behaviour) (start : ChipState) (t : ℕ) → cores_of b start t ≤ 16
cores_few b start t = by (slice_get start.units t)
  where
    by : (o : Option UnitState) → unwrap_or (option_map (core_steps b most_alone) o) 0 ≤ 16
    by None = omega arith
    by (Some unit) = core_steps_few b most_alone unit

-- ---- the turns

pub turns_few : (b : Behaviour) (chip : Chip) (turn : ℕ) (start s : ChipState) (turns : List Entry) (new : ChipState) → TurnsLead b chip turn start s turns new
    → length (flat_map recorded turns) ≤ 17 * length turns
turns_few b chip turn start s [] new lead = omega arith
turns_few b chip turn start s (entry ∷ turns) new lead =
    omega (
      arith,
      length-append (recorded entry) (flat_map recorded turns),
      length-append (replicate entry.cores (Core entry.by)) (entry.event ∷ []),
      length-replicate entry.cores (Core entry.by),
      lead.1.cores,
      cores_few b start entry.by,
      turns_few b chip turn start lead.0 turns new lead.2,
    )

-- ---- the core events that are left over

-- how many of the tiles have no turn
abbrev pub without : List Entry → List ℕ → ℕ
without turns [] = 0
without turns (t ∷ tiles) = cond (has_turn turns t) (without turns tiles) (suc (without turns tiles))

pub left_few : (b : Behaviour) (start : ChipState) (turns : List Entry) (tiles : List ℕ) → length (left_over b start turns tiles) ≤ 16 * without turns tiles
left_few b start turns [] = omega arith
left_few b start turns (t ∷ tiles) = by (has_turn turns t) (left_few b start turns tiles)
  where
    by : (has : Bool) → length (left_over b start turns tiles) ≤ 16 * without turns tiles
        → length (cond has [] (alone_events b start t) ++ left_over b start turns tiles) ≤ 16 * cond has (without turns tiles) (suc (without turns tiles))
    by true rest = rest
    by false rest = omega (
      arith,
      length-append (alone_events b start t) (left_over b start turns tiles),
      length-replicate (cores_of b start t) (Core t),
      cores_few b start t,
      rest,
    )

-- ---- each tile once

pub not_among : (turns : List Entry) (t : ℕ) → ((k : ℕ) (d : Entry) → k < length turns → (slice_index_or turns k d).by ≢ t) → has_turn turns t ≡ false
not_among [] t none = refl
not_among (entry ∷ turns) t none =
    rw (ne_eqb entry.by t (none 0 entry (omega arith)), not_among turns t (λ k d below. none (suc k) d (omega (arith, below)))) refl

-- one tile more, with a turn more or without
one_tile : (here has : Bool) (k n m : ℕ) → n + k ≤ m → cond (here || has) n (suc n) + k ≤ cond has m (suc m)
one_tile true true k n m rest = rest
one_tile true false k n m rest = omega (arith, rest)
one_tile false true k n m rest = rest
one_tile false false k n m rest = omega (arith, rest)

-- one turn more takes its tile from those that have none
fewer_without : (entry : Entry) (turns : List Entry) (tiles : List ℕ) → without (entry ∷ turns) tiles + 0 ≤ without turns tiles
fewer_without entry turns [] = omega arith
fewer_without entry turns (t ∷ tiles) =
    one_tile (entry.by == t) (has_turn turns t) 0 (without (entry ∷ turns) tiles) (without turns tiles) (omega (arith, fewer_without entry turns tiles))

one_fewer : (entry : Entry) (turns : List Entry) (tiles : List ℕ) → has_turn turns entry.by ≡ false → Contains tiles entry.by
    → without (entry ∷ turns) tiles + 1 ≤ without turns tiles
one_fewer entry turns [] none has = absurd (omega (arith, has.1))
one_fewer entry turns (t ∷ tiles) none (zero, below, is) =
    let here : (entry.by == t) ≡ true = ap (λ n. entry.by == n) is ∙ eq-eqb entry.by entry.by refl in
    let has : has_turn turns t ≡ false = ap (has_turn turns) is ∙ none in
    rw (here, has) (omega (arith, fewer_without entry turns tiles))
one_fewer entry turns (t ∷ tiles) none (suc k, below, is) =
    one_tile (entry.by == t) (has_turn turns t) 1 (without (entry ∷ turns) tiles) (without turns tiles)
    (one_fewer entry turns tiles none (k, omega (arith, below), is))

all_without : (tiles : List ℕ) → without [] tiles ≤ length tiles
all_without [] = omega arith
all_without (t ∷ tiles) = omega (arith, all_without tiles)

-- so turns of different tiles, and the tiles without a turn, are no more than the tiles
pub each_once : (turns : List Entry) (tiles : List ℕ) → AllPairs (λ entry later. entry.by ≢ later.by) turns
    → ((k : ℕ) (d : Entry) → k < length turns → Contains tiles (slice_index_or turns k d).by)
    → length turns + without turns tiles ≤ length tiles
each_once [] tiles once inside = omega (arith, all_without tiles)
each_once (entry ∷ turns) tiles once inside =
    let apart : has_turn turns entry.by ≡ false = not_among turns entry.by (λ k d below same. once 0 (suc k) d (omega arith) (omega (arith, below)) (sym same)) in
    let rest = each_once turns tiles (λ i j d before below. once (suc i) (suc j) d (omega (arith, before)) (omega (arith, below))) (λ k d below. inside
    (suc k) d (omega (arith, below))) in
    omega (arith, rest, one_fewer entry turns tiles apart (inside 0 entry (omega arith)))

-- ---- the tiles up to one

pub upwards_last : (first count : ℕ) → upwards first (suc count) ≡ upwards first count ++ (first + count) ∷ []
upwards_last first zero = ap (λ n. n ∷ []) (omega arith)
upwards_last first (suc count) =
    ap (λ rest. first ∷ rest) (upwards_last (first + 1) count ∙ ap (λ n. upwards (first + 1) count ++ n ∷ []) (omega arith))

pub without_more : (turns : List Entry) (first count more : ℕ) → without turns (upwards first count) ≤ without turns (upwards first (count + more))
without_more turns first zero more = omega arith
without_more turns first (suc count) more =
    let same : suc (count + more) ≡ suc count + more = omega arith in
    subst (λ (n : ℕ). without turns (upwards first (suc count)) ≤ without turns (upwards first n)) same
    (by (has_turn turns first) (without turns (upwards (first + 1) count)) (without turns (upwards (first + 1) (count + more))) (without_more turns (first + 1)
    count more))
  where
    by : (has : Bool) (n m : ℕ) → n ≤ m → cond has n (suc n) ≤ cond has m (suc m)
    by true n m rest = rest
    by false n m rest = omega (arith, rest)

-- what is left over of the tiles before one, and then of that one
pub left_over_next : (b : Behaviour) (start : ChipState) (turns : List Entry) (t : ℕ)
    → left_over b start turns (upwards 0 (suc t)) ≡ left_over b start turns (upwards 0 t) ++ left_over b start turns ((0 + t) ∷ [])
left_over_next b start turns t =
    ap (left_over b start turns) (upwards_last 0 t) ∙ flat_map-append (λ u. cond (has_turn turns u) [] (alone_events b start u)) (upwards 0 t) ((0 + t) ∷ [])
