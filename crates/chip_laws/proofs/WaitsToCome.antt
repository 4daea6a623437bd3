-- A get that is still to come to its supplier counts as one of what is to answer its tile.
use Rattle.std.proofs.Common.{◌≡◌, ℕ, zero, suc, ◌+◌, ◌<◌, ◌≤◌, Bool, true, false, length, refl, sym, ◌∙◌, ap, arith, inl, inr, Option, Some, None}
use Rattle.std.specs.Prelude.{slice_get}
use Rattle.std.specs.List.{count_by}
use Rattle.std.proofs.lemmas.Bool.{cases_eq, both_ways}
use Rattle.std.proofs.lemmas.Option.{slice_get_within}
use Rattle.mesh_gen.specs.declared.request.Request.{Request}
use Rattle.mesh_gen.specs.Ports.{count_if}
use Rattle.order_tracker.specs.Order.{upwards}
use Rattle.chip_model.specs.Chip.{Chip}
use Rattle.chip_model.specs.ChipState.{ChipState}
use Rattle.chip_model.specs.Suppliers.{is_to_come_at, is_to_come, answers_to_come}
use Rattle.chip_laws.proofs.SupplyCounts.{count_by-cons}

-- a place that passes is counted
pub count_by-some : (p : ℕ → Bool) (start count place : ℕ) → start ≤ place → place < start + count → p place ≡ true → 1 ≤ count_by p (upwards start count)
count_by-some p start zero place above below passes = absurd (omega (arith, above, below))
count_by-some p start (suc count) place above below passes = elim (cases_eq place start) [
  | inl here ↦ (
      let one : count_if (p start) ≡ 1 = ap (λ k. count_if (p k)) (sym here) ∙ ap count_if passes in
      omega (arith, one, count_by-cons p start (upwards (start + 1) count)))
  | inr away ↦ (
      let rest = count_by-some p (start + 1) count place (beyond start place above away) (omega (arith, below)) passes in
      omega (arith, rest, count_by-cons p start (upwards (start + 1) count)))
]
  where
    beyond : (a b : ℕ) → a ≤ b → (b ≡ a → ⊥) → a + 1 ≤ b
    beyond a b le ne = elim (cases_eq b a) [ inl same ↦ absurd (ne same) | inr other ↦ omega arith ]

at_request : (chip : Chip) (s : ChipState) (t place : ℕ) (o : Option Request) → slice_get s.network.ordered place ≡ o → is_to_come_at chip s t place o ≡ true → place < length s.network.ordered
at_request chip s t place None at comes = absurd (both_ways false refl comes)
at_request chip s t place (Some q) at comes = slice_get_within s.network.ordered place q at

pub to_come_counts : (chip : Chip) (s : ChipState) (t place : ℕ) → is_to_come chip s t place ≡ true → 1 ≤ answers_to_come chip s t
to_come_counts chip s t place comes =
    let within = at_request chip s t place (slice_get s.network.ordered place) refl comes in
    let some = count_by-some (is_to_come chip s t) 0 (length s.network.ordered) place (omega arith) (omega (arith, within)) comes in
    omega (arith, some)

-- where nothing is to answer a tile, none of its gets is to come
pub none_to_come : (chip : Chip) (s : ChipState) (t place : ℕ) → answers_to_come chip s t ≡ 0 → is_to_come chip s t place ≡ false
none_to_come chip s t place none = by (is_to_come chip s t place) refl where
  by : (b : Bool) → is_to_come chip s t place ≡ b → is_to_come chip s t place ≡ false
  by true is = absurd (omega (arith, none, to_come_counts chip s t place is))
  by false is = is
