-- Integers within limits.
use Rattle.std.proofs.Common.{◌≡◌, ℕ, ◌<◌, ◌≤◌, nat_le, le-leb, ℤ, pos, negsuc, ◌<ℤ◌, Bool, true, false, ◌&&◌, Option, Some, None, option_and_then, refl, arith}
use Rattle.std.proofs.lemmas.Bool.{lt-leb, leb-true}
use Rattle.std.proofs.lemmas.Option.{same_Some}
use Rattle.std.proofs.lemmas.Int.{ints}
use Rattle.toml.specs.Data.{Data, integer, string, float, boolean, datetime, array, table, as_integer}
use Rattle.doc_text.specs.declared.column.Omitted.{Omitted}
use Rattle.doc_text.specs.declared.column.Omitted.TheVariants.{Refused, Default, FirstTile, Empty}
use Rattle.mesh_gen.specs.Partial.{when}
use Rattle.mesh_doc.specs.Tables.{default}
use Rattle.mesh_doc.specs.Values.{from_to, number_in, number_of}

both : (a b : Bool) → a ≡ true → b ≡ true → (a && b) ≡ true
both a b p q = rw (p, q) refl

second_fails : (a b : Bool) → b ≡ false → (a && b) ≡ false
second_fails true b q = q
second_fails false b q = refl

-- an integer within the limits
pub within : (least most n : ℕ) (z : ℤ) → z ≡ pos n → least ≤ n → n ≤ most → from_to least most z ≡ Some n
within least most n z is low high = rw (is, both _ _ (le-leb least n low) (le-leb n most high)) refl

pub below : (least most : ℕ) (z : ℤ) → z <ℤ pos least → from_to least most z ≡ None
below least most (pos n) under = let k : n < least = omega (arith, ints) in rw (lt-leb least n k) refl
below least most (negsuc n) under = refl

pub above : (least most : ℕ) (z : ℤ) → pos most <ℤ z → from_to least most z ≡ None
above least most (pos n) over = let k : most < n = omega (arith, ints) in rw (second_fails (nat_le least n) (nat_le n most) (lt-leb n most k)) refl
above least most (negsuc n) over = refl

-- by the integer that a value is
pub number_in-integer : (least most : ℕ) (value : Data) (z : ℤ) → Some z ≡ as_integer value → number_in least most value ≡ from_to least most z
unfolding number_in
number_in-integer least most value z is = rw (← is) refl

pub number_in-other : (least most : ℕ) (value : Data) → None ≡ as_integer value → number_in least most value ≡ None
unfolding number_in
number_in-other least most value is = rw (← is) refl

-- what passed is within the limits
passed : (least most k n : ℕ) (low high : Bool) → nat_le least k ≡ low → nat_le k most ≡ high → when (low && high) (Some k) ≡ Some n → (least ≤ n) × (n ≤ most)
passed least most k n true true low high is = rw (← same_Some _ _ is) (leb-true least k low, leb-true k most high)
passed least most k n true false low high is = cc
passed least most k n false high low is_high is = cc

by_integer : (least most : ℕ) (z : Option ℤ) (n : ℕ) → option_and_then (from_to least most) z ≡ Some n → (least ≤ n) × (n ≤ most)
by_integer least most None n is = cc
by_integer least most (Some (negsuc k)) n is = cc
by_integer least most (Some (pos k)) n is = passed least most k n (nat_le least k) (nat_le k most) refl refl is

pub number_in-limits : (least most : ℕ) (value : Data) (n : ℕ) → number_in least most value ≡ Some n → (least ≤ n) × (n ≤ most)
unfolding number_in
number_in-limits least most value n is = by_integer least most (as_integer value) n is

-- and it is the number that the value is
kept : (passes : Bool) (k n : ℕ) → when passes (Some k) ≡ Some n → Some k ≡ Some n
kept true k n is = is
kept false k n is = cc

same_number : (least most n : ℕ) (z : ℤ) → from_to least most z ≡ Some n → number_of (integer z) ≡ n
same_number least most n (pos k) is = same_Some _ _ (kept (nat_le least k && nat_le k most) k n is)
same_number least most n (negsuc k) is = cc

pub number_in-number : (least most : ℕ) (value : Data) (n : ℕ) → number_in least most value ≡ Some n → number_of value ≡ n
unfolding number_in
number_in-number least most (integer z) n is = same_number least most n z is
number_in-number least most (string s) n is = cc
number_in-number least most (float x) n is = cc
number_in-number least most (boolean b) n is = cc
number_in-number least most (datetime d) n is = cc
number_in-number least most (array items) n is = cc
number_in-number least most (table rows) n is = cc

-- no number stands for a key without a default
pub no_number : (o : Omitted) → ((n : ℕ) → o ≡ Default n → ⊥) → (least most : ℕ) → None ≡ number_in least most (default o)
unfolding number_in
no_number Refused other least most = refl
no_number (Default n) other least most = absurd (other n refl)
no_number FirstTile other least most = refl
no_number Empty other least most = refl
