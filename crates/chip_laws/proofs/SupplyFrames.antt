-- What is to answer a tile's gets, where the unit of one tile changes and the order does not.
use Rattle.std.proofs.Common.{◌≡◌, ◌≢◌, ℕ, ◌+◌, List, length, drop, sym, ◌∙◌, ap, arith, inl, inr, Some}
use Rattle.std.specs.Prelude.{slice_get}
use Rattle.std.specs.List.{sum_by, count_by}
use Rattle.std.proofs.lemmas.Bool.{cases_eq}
use Rattle.mesh_gen.specs.declared.request.Request.{Request}
use Rattle.mesh_gen.specs.Ports.{count_if}
use Rattle.order_tracker.specs.Order.{upwards}
use Rattle.chip_model.specs.Chip.{Chip}
use Rattle.chip_model.specs.Node.{Node}
use Rattle.chip_model.specs.Units.{UnitState}
use Rattle.chip_model.specs.ChipState.{ChipState}
use Rattle.chip_model.specs.Bookkeeping.{is_get_of}
use Rattle.chip_model.specs.Suppliers.{count_of, delivered_at, promised_by, data_in_channels, is_to_come, answers_to_come, has_early, is_ordered, IsSupplied}
use Rattle.chip_laws.specs.EventSteps.{ChangesUnit}
use Rattle.chip_laws.proofs.UnitFrames.{changed_unit, other_unit}
use Rattle.chip_laws.proofs.SupplyCounts.{sum_by-set}
use Rattle.chip_laws.proofs.SupplySends.{SameOpen}
use Rattle.chip_laws.proofs.SupplyAccounts.{promised}
use Rattle.chip_laws.proofs.SupplyToCome.{to_come, to_come_is, to_come_same, Delivers}

-- the gets of each tile are answered once
abbrev pub EachIsSupplied : Chip → ChipState → Type 0
EachIsSupplied chip s = (t : ℕ) (unit : UnitState) → slice_get s.units t ≡ Some unit → IsSupplied chip s t unit.node

-- ---- the counts
pub count_here : (s new : ChipState) (u : ℕ) (unit after : UnitState) → ChangesUnit s new u unit after → (delivered_at s u ≡ unit.node.delivered) × (delivered_at new u ≡ after.node.delivered)
count_here s new u unit after c = (ap count_of c.at, ap count_of (changed_unit s new u unit after c))

pub count_there : (s new : ChipState) (u v : ℕ) (unit after : UnitState) → ChangesUnit s new u unit after → v ≢ u → delivered_at new v ≡ delivered_at s v
count_there s new u v unit after c away = ap count_of (other_unit s new u v unit after c away)

pub same_counts : (s new : ChipState) (u : ℕ) (unit after : UnitState) → ChangesUnit s new u unit after → after.node.delivered ≡ unit.node.delivered → (v : ℕ) → delivered_at new v ≡ delivered_at s v
same_counts s new u unit after c same v = elim (cases_eq v u) [
  | inl here ↦ (
      let counts = count_here s new u unit after c in
      ap (delivered_at new) here ∙ counts.1 ∙ same ∙ sym counts.0 ∙ sym (ap (delivered_at s) here))
  | inr away ↦ count_there s new u v unit after c away
]

pub one_more : (s new : ChipState) (u : ℕ) (unit after : UnitState) → ChangesUnit s new u unit after → after.node.delivered ≡ unit.node.delivered + 1 → Delivers (delivered_at s) (delivered_at new) u
one_more s new u unit after c more =
    let counts = count_here s new u unit after c in
    record { here = counts.1 ∙ more ∙ sym (ap (λ n. n + 1) counts.0); others = λ v away. count_there s new u v unit after c away }

pub coming_same : (chip : Chip) (s new : ChipState) (t : ℕ) → new.network.ordered ≡ s.network.ordered → ((v : ℕ) → delivered_at new v ≡ delivered_at s v)
    → count_by (is_to_come chip new t) (upwards 0 (length new.network.ordered)) ≡ count_by (is_to_come chip s t) (upwards 0 (length s.network.ordered))
coming_same chip s new t order counts =
    to_come_is chip new t
    ∙ ap (λ (ordered : List Request). to_come chip (delivered_at new) ordered t) order
    ∙ to_come_same chip (delivered_at s) (delivered_at new) s.network.ordered t counts
    ∙ sym (to_come_is chip s t)

-- ---- the promises of all
pub promises_changed : (s new : ChipState) (t u : ℕ) (unit after : UnitState) → ChangesUnit s new u unit after
    → sum_by (promised_by t) new.units + promised t unit.node ≡ sum_by (promised_by t) s.units + promised t after.node
promises_changed s new t u unit after c =
    ap (λ (units : List UnitState). sum_by (promised_by t) units + promised t unit.node) c.units ∙ sum_by-set (promised_by t) s.units u unit after c.at

-- an event that takes so many promises of a tile away, or none
pub answers_changed : (chip : Chip) (s new : ChipState) (t u : ℕ) (unit after : UnitState) (less : ℕ) → ChangesUnit s new u unit after
    → new.network.ordered ≡ s.network.ordered → after.node.delivered ≡ unit.node.delivered
    → promised t after.node + data_in_channels new t + less ≡ promised t unit.node + data_in_channels s t
    → answers_to_come chip new t + less ≡ answers_to_come chip s t
answers_changed chip s new t u unit after less c order same sum =
    omega (arith, promises_changed s new t u unit after c, coming_same chip s new t order (same_counts s new u unit after c same), sum)

pub answers_same : (chip : Chip) (s new : ChipState) (t : ℕ) → new.units ≡ s.units → new.network.ordered ≡ s.network.ordered → data_in_channels new t ≡ data_in_channels s t
    → answers_to_come chip new t ≡ answers_to_come chip s t
answers_same chip s new t units order channels =
    let promises : sum_by (promised_by t) new.units ≡ sum_by (promised_by t) s.units = ap (sum_by (promised_by t)) units in
    let coming = coming_same chip s new t order (λ v. ap (λ (us : List UnitState). count_of (slice_get us v)) units) in
    omega (arith, promises, coming, channels)

-- ---- the law at one tile
pub still_supplied : (chip : Chip) (s new : ChipState) (t : ℕ) (old node : Node) → new.network.ordered ≡ s.network.ordered → node.delivered ≡ old.delivered
    → SameOpen old.side.misses.demand node.side.misses.demand → answers_to_come chip new t ≡ answers_to_come chip s t
    → IsSupplied chip s t old → IsSupplied chip new t node
still_supplied chip s new t old node order same stays answers law =
    let early : count_if (has_early node.side.misses.demand) ≡ count_if (has_early old.side.misses.demand) = ap count_if stays.early in
    let ordered : count_if (is_ordered node.side.misses.demand) ≡ count_if (is_ordered old.side.misses.demand) = ap count_if stays.ordered in
    let left : count_by (is_get_of t) (drop node.delivered new.network.ordered) ≡ count_by (is_get_of t) (drop old.delivered s.network.ordered) =
    ap (λ n. count_by (is_get_of t) (drop n new.network.ordered)) same ∙ ap (λ (xs : List Request). count_by (is_get_of t) (drop old.delivered xs)) order in
    omega (arith, early, ordered, left, answers, law)
