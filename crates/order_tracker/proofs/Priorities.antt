-- The turns of a window: the first tile of its expansion, and those that are left when it has had its turn.
use Rattle.std.proofs.Common.{ap, length, length-append, ◌≡◌, ◌≢◌, ℕ, ◌+◌, ◌-◌, ◌%◌, ◌^◌, ◌<◌, ◌≤◌, Bool, true, false, not, ◌&&◌, ◌==◌, [], ◌∷◌, refl, sym, ◌∙◌, inl, inr, arith}
use Rattle.std.specs.Prelude.{filter}
use Rattle.std.proofs.lemmas.Bool.{cases_eq, cases_lt, true≢false, ne_eqb}
use Rattle.std.proofs.lemmas.Bool.Decides.{nat_tests}
use Rattle.std.proofs.lemmas.List.Elements.{filter-append}
use Rattle.std.proofs.lemmas.Nat.Bits.{bit_at_above}
use Rattle.mesh_gen.specs.TileSet.{has_tile}
use Rattle.mesh_gen.proofs.TileSets.{has_tile-none}
use Rattle.order_tracker.specs.Order.{upwards, round_from, expansion}
use Rattle.order_tracker.specs.FirstFrom.{IsFirstFrom}
use Rattle.order_tracker.proofs.Rounds.{filter-none, filter-skip, filter-first, filter-same, filter_le}

-- the tiles of a set below 2 ^ n are below n
pub has_tile-below : (n set t : ℕ) → set < 2 ^ n → has_tile set t ≡ true → t < n
unfolding has_tile
has_tile-below n set t small has = elim (cases_lt t n) [
  | inl below ↦ below
  | inr above ↦ absurd (true≢false (sym has ∙ (rw (bit_at_above set n t small above) refl)))
]

-- a set that has lost a tile
abbrev pub Loses : ℕ → ℕ → ℕ → Type 0
Loses set t rest = (u : ℕ) → has_tile rest u ≡ (has_tile set u && not (u == t))

gone : (set t rest : ℕ) → Loses set t rest → has_tile rest t ≡ false
gone set t rest loses = loses t ∙ grind (arith, nat_tests)

and_true : (b : Bool) → (b && not false) ≡ b
and_true true = refl
and_true false = refl

kept : (set t rest u : ℕ) → Loses set t rest → u ≢ t → has_tile set u ≡ has_tile rest u
kept set t rest u loses other = sym (loses u ∙ rw (ne_eqb u t other) (and_true (has_tile set u)))

still_none : (set t rest u : ℕ) → Loses set t rest → has_tile set u ≡ false → has_tile rest u ≡ false
still_none set t rest u loses none = loses u ∙ rw none refl

-- in a round, what is kept with a tile's turn first, and what is left
pub round_first : (n first set t rest : ℕ) → first < n → n ≤ 64 → set < 2 ^ n → IsFirstFrom set first t → Loses set t rest
    → filter (has_tile set) (round_from n first) ≡ t ∷ filter (has_tile rest) (round_from n first)
round_first n first set t rest within fits small is loses =
    let below = has_tile-below n set t small is.inside in
    let split = filter-append (has_tile set) (upwards first (n - first)) (upwards 0 first) in
    let split_rest = filter-append (has_tile rest) (upwards first (n - first)) (upwards 0 first) in
    elim is.turn [
      | inl later ↦
          let fails : (i : ℕ) → first ≤ i → i < t + 1 → has_tile rest i ≡ false = λ i low high. elim (cases_eq i t) [
            | inl same ↦ rw same (gone set t rest loses)
            | inr other ↦ still_none set t rest i loses (later.1 i low (omega arith))
          ] in
          let front = filter-first (has_tile set) first t (n - first) (n - (t + 1)) later.0 (omega arith) is.inside later.1 in
          let after = filter-same (has_tile set) (has_tile rest) (t + 1) (n - (t + 1)) (λ i low high. kept set t rest i loses (λ same. absurd (omega arith))) in
          let left = filter-skip (has_tile rest) first (t + 1) (n - first) (n - (t + 1)) (omega arith) (omega arith) fails in
          let wrapped = filter-same (has_tile set) (has_tile rest) 0 first (λ i low high. kept set t rest i loses (λ same. absurd (omega arith))) in
          split ∙ rw (front, after, wrapped, split_rest, left) refl
      | inr (wraps, none, before) ↦
          let fails : (i : ℕ) → 0 ≤ i → i < t + 1 → has_tile rest i ≡ false = λ i low high. elim (cases_eq i t) [
            | inl same ↦ rw same (gone set t rest loses)
            | inr other ↦ still_none set t rest i loses (before i low (omega arith))
          ] in
          let nothing = filter-none (has_tile set) first (n - first) (λ i low high. none i low (omega arith)) in
          let nothing_left = filter-none (has_tile rest) first (n - first) (λ i low high. still_none set t rest i loses (none i low (omega arith))) in
          let front = filter-first (has_tile set) 0 t first (first - (t + 1)) (omega arith) (omega arith) is.inside before in
          let after = filter-same (has_tile set) (has_tile rest) (t + 1) (first - (t + 1)) (λ i low high. kept set t rest i loses (λ same. absurd (omega arith))) in
          let left = filter-skip (has_tile rest) 0 (t + 1) first (first - (t + 1)) (omega arith) (omega arith) fails in
          split ∙ rw (nothing, front, after, split_rest, nothing_left, left) refl
    ]

-- a set with no tile has no turn
pub expansion-none : (n k : ℕ) → expansion n k 0 ≡ []
expansion-none n k =
    filter-append (has_tile 0) (upwards (k % n) (n - k % n)) (upwards 0 (k % n))
    ∙ rw (filter-none (has_tile 0) (k % n) (n - k % n) (λ i low high. has_tile-none i), filter-none (has_tile 0) 0 (k % n) (λ i low high. has_tile-none i)) refl

-- each tile has at most one turn in a window
pub length-expansion-le : (n k window : ℕ) → 0 < n → length (expansion n k window) ≤ n
length-expansion-le n k window some =
    let first : k % n < n = omega arith in
    let split = filter-append (has_tile window) (upwards (k % n) (n - k % n)) (upwards 0 (k % n)) in
    omega (
      arith,
      ap length split,
      length-append (filter (has_tile window) (upwards (k % n) (n - k % n))) (filter (has_tile window) (upwards 0 (k % n))),
      filter_le (has_tile window) (k % n) (n - k % n),
      filter_le (has_tile window) 0 (k % n),
    )
