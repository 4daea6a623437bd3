-- The order of accesses by time, tile and number.
use Rattle.std.proofs.Common.{◌≡◌, ℕ, Bool, true, false, cond, refl, ◌∙◌, ap, arith}
use Rattle.std.specs.Prelude.{◌==◌, ◌&&◌, ◌||◌, not, nat_lt}
use Rattle.std.specs.declared.cmp.Ordering.{Ordering}
use Rattle.std.specs.declared.cmp.Ordering.TheVariants.{Less, Equal, Greater}
use Rattle.std.specs.Ordering.{nat_cmp, is_lt, ordering_then}
use Rattle.std.proofs.lemmas.Bool.Decides.{nat_tests}
use Rattle.report_text.specs.declared.access.Access.{Access}
use Rattle.chip_model.specs.Witness.{is_before}
use Rattle.order_witness.specs.Keys.{key_of, key_cmp}

-- the access is of the instruction of this number of this tile
abbrev pub is_of : ℕ → ℕ → Access → Bool
is_of tile number a = (a.tile == tile) && (a.number == number)

pub before_trans : (a b c : Access) → is_before a b ≡ true → is_before b c ≡ true → is_before a c ≡ true
before_trans a b c first second = grind (arith, nat_tests, first, second)

-- of two accesses with different keys one comes before the other
pub before_other : (a b : Access) → is_before b a ≡ false → is_of a.tile a.number b ≡ false → is_before a b ≡ true
before_other a b late other = grind (arith, nat_tests, late, other)

-- neither comes before the other
abbrev pub has_key_of : Access → Access → Bool
has_key_of a b = not (is_before a b) && not (is_before b a)

pub key_not_before : (a b : Access) → is_before a b ≡ true → has_key_of a b ≡ false
key_not_before a b first = ap (λ (c : Bool). not c && not (is_before b a)) first

pub key_own : (a : Access) → has_key_of a a ≡ true
key_own a = grind (arith, nat_tests)

pub before_same : (a b c : Access) → is_before a b ≡ false → is_before b a ≡ false → is_before b c ≡ true → is_before a c ≡ true
before_same a b c one two later = grind (arith, nat_tests, one, two, later)

-- ---- by keys
less_then : (x y : ℕ) (rest : Ordering) → is_lt (ordering_then (nat_cmp x y) rest) ≡ (nat_lt x y || ((x == y) && is_lt rest))
less_then x y rest = by (nat_lt x y) (x == y) rest where
  by : (less same : Bool) (rest : Ordering) → is_lt (ordering_then (cond less Less (cond same Equal Greater)) rest) ≡ (less || (same && is_lt rest))
  by true same rest = refl
  by false true rest = refl
  by false false rest = refl

less_last : (x y : ℕ) → is_lt (nat_cmp x y) ≡ nat_lt x y
less_last x y = by (nat_lt x y) (x == y) where
  by : (less same : Bool) → is_lt (cond less Less (cond same Equal Greater)) ≡ less
  by true same = refl
  by false true = refl
  by false false = refl

then_assoc : (p q r : Ordering) → ordering_then (ordering_then p q) r ≡ ordering_then p (ordering_then q r)
then_assoc Less q r = refl
then_assoc Equal q r = refl
then_assoc Greater q r = refl

pub before_by_key : (a b : Access) → is_lt (key_cmp (key_of a) (key_of b)) ≡ is_before a b
before_by_key a b =
    ap is_lt (then_assoc (nat_cmp a.time b.time) (nat_cmp a.tile b.tile) (nat_cmp a.number b.number))
    ∙ less_then a.time b.time (ordering_then (nat_cmp a.tile b.tile) (nat_cmp a.number b.number))
    ∙ ap (λ (c : Bool). nat_lt a.time b.time || ((a.time == b.time) && c)) (less_then a.tile b.tile (nat_cmp a.number b.number))
    ∙ ap (λ (c : Bool). nat_lt a.time b.time || ((a.time == b.time) && (nat_lt a.tile b.tile || ((a.tile == b.tile) && c)))) (less_last a.number b.number)
