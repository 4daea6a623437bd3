-- Sets of tiles, by which tiles they have.
use Rattle.std.proofs.Common.{◌≡◌, ◌≢◌, ℕ, ◌^◌, ◌<◌, max, Bool, true, false, cond, ◌&&◌, ◌||◌, ◌==◌, List, [], ◌∷◌, ◌++◌, length, refl, sym, ◌∙◌, ap, subst, inl, inr, arith, bit_or}
use Rattle.std.specs.Int.{bit_at}
use Rattle.std.specs.List.{filter, AllByRecursion}
use Rattle.std.proofs.lemmas.Bool.{cases_eq, cases_lt, eqb-true, or_cases, true≢false}
use Rattle.std.proofs.lemmas.List.Folds.{list_any-append}
use Rattle.std.proofs.Math.Bool.{or-false}
use Rattle.std.proofs.lemmas.Bool.Decides.{nat_tests}
use Rattle.std.proofs.lemmas.Nat.{or_lt, pow_pos}
use Rattle.std.proofs.lemmas.Nat.Bits.{bit_at_or, bit_at-pow_same, bit_at-pow_other, bit_at-zero, bit_at-lt, same_from_bits}
use Rattle.std.proofs.Math.Pow.{pow-lt}
use Rattle.mesh_gen.specs.TileSet.{has_tile, set_of, is_among}

either_bit : (a b : ℕ) → a < 2 → b < 2 → (max a b == 1) ≡ ((a == 1) || (b == 1))
either_bit a b small_a small_b = grind (arith, nat_tests)

-- what is in either of two sets
pub has_tile-or : (a b t : ℕ) → has_tile (bit_or a b) t ≡ (has_tile a t || has_tile b t)
unfolding has_tile
has_tile-or a b t = rw (bit_at_or a b t) (either_bit (bit_at a t) (bit_at b t) (bit_at-lt a t) (bit_at-lt b t))

-- what is in the set of one tile
pub has_tile-one : (t s : ℕ) → has_tile (2 ^ t) s ≡ (t == s)
unfolding has_tile
has_tile-one t s = elim (cases_eq t s) [
  | inl same ↦ rw (same, bit_at-pow_same s) (grind (arith, nat_tests))
  | inr other ↦ let away : s ≢ t = λ e. other (sym e) in rw (bit_at-pow_other t s away) (grind (arith, nat_tests))
]

-- what is in the empty set
pub has_tile-none : (t : ℕ) → has_tile 0 t ≡ false
unfolding has_tile
has_tile-none t = rw (bit_at-zero t) refl

-- what is in the set of a list
pub has_tile-set_of : (list : List ℕ) (t : ℕ) → has_tile (set_of list) t ≡ is_among list t
has_tile-set_of [] t = has_tile-none t
has_tile-set_of (s ∷ list) t = has_tile-or (2 ^ s) (set_of list) t ∙ rw (has_tile-one s t, has_tile-set_of list t) refl

same_bit : (a b : ℕ) → a < 2 → b < 2 → (a == 1) ≡ (b == 1) → a ≡ b
same_bit a b small_a small_b same = grind (arith, nat_tests)

-- sets with the same tiles are equal
pub same_sets : (a b : ℕ) → ((t : ℕ) → has_tile a t ≡ has_tile b t) → a ≡ b
unfolding has_tile
same_sets a b same = same_from_bits a b (λ t. same_bit (bit_at a t) (bit_at b t) (bit_at-lt a t) (bit_at-lt b t) (same t))

kept_or : (x a y : Bool) → (x ≡ true → y ≡ true) → (x || (a && y)) ≡ ((x || a) && y)
kept_or true a true so = refl
kept_or true a false so = sym (so refl)
kept_or false a y so = refl

passed_over : (x a y : Bool) → (x ≡ true → y ≡ false) → (a && y) ≡ ((x || a) && y)
passed_over true true true so = refl
passed_over true true false so = refl
passed_over true false true so = sym (so refl)
passed_over true false false so = refl
passed_over false a y so = refl

among_more : (p : ℕ → Bool) (s t : ℕ) (kept rest : List ℕ) (b : Bool) → p s ≡ b → is_among kept t ≡ (is_among rest t && p t)
    → is_among (cond b (s ∷ kept) kept) t ≡ ((s == t || is_among rest t) && p t)
among_more p s t kept rest true passes among =
    rw among (kept_or (s == t) (is_among rest t) (p t) (λ same. rw (← eqb-true s t same) passes))
among_more p s t kept rest false fails among =
    rw among (passed_over (s == t) (is_among rest t) (p t) (λ same. rw (← eqb-true s t same) fails))

-- what is among those of a list that pass a test
pub is_among-filter : (p : ℕ → Bool) (list : List ℕ) (t : ℕ) → is_among (filter p list) t ≡ (is_among list t && p t)
is_among-filter p [] t = refl
is_among-filter p (s ∷ list) t = among_more p s t (filter p list) list (p s) refl (is_among-filter p list t)

-- a set of the first n tiles is below 2 ^ n
pub set_of-lt : (n : ℕ) (list : List ℕ) → AllByRecursion (λ t. t < n) list → set_of list < 2 ^ n
set_of-lt n [] inside = pow_pos n
set_of-lt n (t ∷ list) inside = or_lt n (2 ^ t) (set_of list) (pow-lt inside.0) (set_of-lt n list inside.1)

-- the set of a list with a tile is not empty
pub set_of-positive : (list : List ℕ) → 0 < length list → 0 < set_of list
set_of-positive [] some = absurd (omega arith)
set_of-positive (t ∷ list) some = elim (cases_lt 0 (set_of (t ∷ list))) [
  | inl positive ↦ positive
  | inr none ↦
      let empty : set_of (t ∷ list) ≡ 0 = omega arith in
      let has : has_tile (set_of (t ∷ list)) t ≡ true = has_tile-set_of (t ∷ list) t ∙ grind (arith, nat_tests) in
      let has_not : has_tile (set_of (t ∷ list)) t ≡ false = rw empty (has_tile-none t) in
      absurd (true≢false (sym has ∙ has_not))
]

-- what holds of each tile of a list holds of each that is among them
pub among_all : (P : ℕ → Type 0) (list : List ℕ) (t : ℕ) → AllByRecursion P list → is_among list t ≡ true → P t
among_all P [] t all among = absurd (true≢false (sym among))
among_all P (s ∷ list) t all among = elim (or_cases (s == t) (is_among list t) among) [
  | inl same ↦ subst P (eqb-true s t same) all.0
  | inr later ↦ among_all P list t all.1 later
]

-- what is among a list with one more tile at its end
pub is_among-push : (list : List ℕ) (t s : ℕ) → is_among (list ++ t ∷ []) s ≡ (is_among list s || t == s)
is_among-push list t s = list_any-append (λ u. u == s) list (t ∷ []) ∙ ap (λ (b : Bool). is_among list s || b) (or-false (t == s))

-- what holds of each tile holds of each with one more at the end
pub AllByRecursion-push : (P : ℕ → Type 0) (list : List ℕ) (t : ℕ) → AllByRecursion P list → P t → AllByRecursion P (list ++ t ∷ [])
AllByRecursion-push P [] t all last = (last, tt)
AllByRecursion-push P (s ∷ list) t all last = (all.0, AllByRecursion-push P list t all.1 last)

-- the set of a list with one more tile at its end
pub set_of-push : (list : List ℕ) (t : ℕ) → set_of (list ++ t ∷ []) ≡ bit_or (2 ^ t) (set_of list)
set_of-push list t = same_sets (set_of (list ++ t ∷ [])) (bit_or (2 ^ t) (set_of list))
    (λ s. has_tile-set_of (list ++ t ∷ []) s ∙ is_among-push list t s ∙ either_way (is_among list s) (t == s) ∙ sym (has_tile-or (2 ^ t) (set_of list) s ∙ rw (has_tile-set_of list s, has_tile-one t s) refl))
  where
    either_way : (a b : Bool) → (a || b) ≡ (b || a)
    either_way true true = refl
    either_way true false = refl
    either_way false true = refl
    either_way false false = refl
