-- A tracker's next request, as the loop over its entries sees it.
use Rattle.std.proofs.Common.{◌≡◌, ℕ, ◌+◌, ◌≤◌, List, [], ◌∷◌, length, drop, Some, option_map, sym, ◌∙◌, ap, inl, inr, arith, length-set}
use Rattle.std.specs.Prelude.{slice_get, slice_index, slice_set}
use Rattle.std.proofs.lemmas.Bool.{cases_eq, cases_lt}
use Rattle.std.proofs.lemmas.List.{get_or-set_same, get_or-set_other, get_or_past}
use Rattle.std.proofs.lemmas.Option.{same_Some}
use Rattle.order_tracker.specs.Tracker.{TrackerState, left_of, next_request_of}

-- the next request heads what is left, and has the number of the used ones of its source
pub record Heads (source number : ℕ) (s : TrackerState) : Type 0 where
  pub left : left_of s ≡ source ∷ drop 1 (left_of s)
  pub count : slice_index s.used source ≡ number

headed : (left : List ℕ) (count : ℕ → ℕ) (source number : ℕ) → Some (source, number) ≡ option_map {U = ℕ × ℕ} (λ s. (s, count s)) (slice_get left 0)
    → (left ≡ source ∷ drop 1 left) × (count source ≡ number)
headed [] count source number is = cc
headed (x ∷ left) count source number is =
    let same = same_Some _ _ is in
    let source_is : source ≡ x = ap (λ (p : ℕ × ℕ). p.0) same in
    let number_is : number ≡ count x = ap (λ (p : ℕ × ℕ). p.1) same in
    (ap (λ (y : ℕ). y ∷ left) (sym source_is), ap count source_is ∙ sym number_is)

pub heads : (s : TrackerState) (source number : ℕ) → Some (source, number) ≡ next_request_of s → Heads source number s
heads s source number is =
    let both = headed (left_of s) (slice_index s.used) source number is in
    record { left = both.0; count = both.1 }

-- a count goes up by one at most
pub count_up : (used : List ℕ) (source t : ℕ) → slice_index (slice_set used source (slice_index used source + 1)) t ≤ slice_index used t + 1
count_up used source t = elim (cases_eq t source) [
  | inr other ↦ rw (get_or-set_other used source t (slice_index used source + 1) 0 other) (omega arith)
  | inl same ↦
      elim (cases_lt source (length used)) [
        | inl inside ↦ rw (same, get_or-set_same used source (slice_index used source + 1) 0 inside) (omega arith)
        | inr past ↦ rw (same, get_or_past (slice_set used source (slice_index used source + 1)) source 0 (omega (arith, length-set {A = ℕ} used source (slice_index used source + 1)))) (omega arith)
      ]
]
