-- A set of tiles as a word of 64 bits: its first tile from a tile on, and the set without a tile.
use Rattle.std.proofs.Common.{◌≡◌, ℕ, ◌-◌, ◌*◌, ◌%◌, ◌^◌, ◌<◌, ◌≤◌, true, false, not, ◌&&◌, ◌==◌, refl, sym, ◌∙◌, inl, inr, arith, bit_and, w64}
use Rattle.std.specs.Int.{bit_at, bit_not, trailing_zeros}
use Rattle.std.proofs.lemmas.Bool.{cases_eq, cases_lt, ne_eqb}
use Rattle.std.proofs.lemmas.Bool.Decides.{nat_tests}
use Rattle.std.proofs.lemmas.Nat.Bits.{bit_at_and, bit_at-lt, bit_at-zero, bit_at_above, bit_at-trailing_zeros, bit_at_clear_same, bit_at_clear_other, bit_at_mask_inside, bit_at_mask_below, ones_shl}
use Rattle.mesh_gen.specs.TileSet.{has_tile}
use Rattle.order_tracker.specs.FirstFrom.{IsFirstFrom}

-- the tiles of a set from a first one on
abbrev pub later_part : ℕ → ℕ → ℕ
later_part set first = bit_and set ((2 ^ 64 - 1) * 2 ^ first % 2 ^ 64)

later_bit : (set first i : ℕ) → first < 64 → first ≤ i → i < 64 → bit_at (later_part set first) i ≡ bit_at set i
later_bit set first i fits from within =
    bit_at_and set ((2 ^ 64 - 1) * 2 ^ first % 2 ^ 64) i
    ∙ rw (ones_shl 64 first (omega arith), bit_at_mask_inside first 64 i from within) (omega (arith, bit_at-lt set i))

earlier_bit : (set first i : ℕ) → first < 64 → i < first → bit_at (later_part set first) i ≡ 0
earlier_bit set first i fits before =
    bit_at_and set ((2 ^ 64 - 1) * 2 ^ first % 2 ^ 64) i
    ∙ rw (ones_shl 64 first (omega arith), bit_at_mask_below first 64 i before) (omega arith)

has : (set t : ℕ) → bit_at set t ≡ 1 → has_tile set t ≡ true
unfolding has_tile
has set t is = rw is refl

has_not : (set t : ℕ) → bit_at set t ≡ 0 → has_tile set t ≡ false
unfolding has_tile
has_not set t is = rw is refl

-- where there is a tile from the first one on
pub first_later : (set first : ℕ) → set < 2 ^ 64 → first < 64 → 0 < later_part set first → later_part set first < 2 ^ 64 → IsFirstFrom set first (trailing_zeros w64 (later_part set first))
first_later set first small fits some small_part =
    let (within, here, before) = bit_at-trailing_zeros w64 (later_part set first) some small_part in
    let t = trailing_zeros w64 (later_part set first) in
    let from : first ≤ t = elim (cases_lt t first) [
      | inl earlier ↦ let none : bit_at (later_part set first) t ≡ 0 = earlier_bit set first t fits earlier in absurd (omega arith)
      | inr later ↦ later
    ] in
    record {
      word = within;
      inside = has set t (sym (later_bit set first t fits from within) ∙ here);
      turn = inl (from, λ i low high. has_not set i (sym (later_bit set first i fits low (omega arith)) ∙ before i high));
    }

-- where there is none
pub first_earlier : (set first : ℕ) → set < 2 ^ 64 → first < 64 → 0 < set → later_part set first ≡ 0 → IsFirstFrom set first (trailing_zeros w64 set)
first_earlier set first small fits some none =
    let (within, here, before) = bit_at-trailing_zeros w64 set some small in
    let t = trailing_zeros w64 set in
    let no_later : (i : ℕ) → first ≤ i → i < 64 → bit_at set i ≡ 0 = λ i low high. sym (later_bit set first i fits low high) ∙ rw none (bit_at-zero i) in
    let before_first : t < first = elim (cases_lt t first) [
      | inl earlier ↦ earlier
      | inr later ↦ let none_here : bit_at set t ≡ 0 = no_later t later within in absurd (omega arith)
    ] in
    record {
      word = within;
      inside = has set t here;
      turn = inr (before_first, λ i low high. has_not set i (no_later i low high), λ i low high. has_not set i (before i high));
    }

-- ---- a set without a tile

one_less : (b c : ℕ) → c ≡ b → (c == 1) ≡ ((b == 1) && not false)
one_less b c same = grind (arith, nat_tests)

pub has_tile-without : (set t u : ℕ) → set < 2 ^ 64 → t < 64 → has_tile (bit_and set (bit_not w64 (1 * 2 ^ t % 2 ^ 64))) u ≡ (has_tile set u && not (u == t))
unfolding has_tile
has_tile-without set t u small fits = elim (cases_eq u t) [
  | inl same ↦ rw (same, bit_at_clear_same w64 set t fits) (grind (arith, nat_tests))
  | inr other ↦
      rw (ne_eqb u t other) (one_less (bit_at set u) (bit_at (bit_and set (bit_not w64 (1 * 2 ^ t % 2 ^ 64))) u) (elim (cases_lt u 64) [
        | inl within ↦ bit_at_clear_other w64 set t fits u within other
        | inr above ↦
            let none : bit_at set u ≡ 0 = bit_at_above set 64 u small above in
            bit_at_and set (bit_not w64 (1 * 2 ^ t % 2 ^ 64)) u ∙ rw none (omega arith)
      ]))
]
