-- Numbers in decimal digits.
use Rattle.std.proofs.Common.{◌≡◌, ℕ, zero, suc, ◌<◌, ◌^◌, ◌/◌, ◌%◌, Bool, true, false, cond, eqb, pos, FitsSigned, List, [], ◌∷◌, refl, arith}
use Rattle.std.proofs.lemmas.Bool.{lt-ltb}
use Rattle.std.proofs.lemmas.Bool.Decides.{nat_tests}
use Rattle.std.specs.Char.{is_ascii, is_ascii_digit}
use Rattle.std.specs.Fmt.{decimal, digits, digits_onto, digit_glyph}
use Rattle.std.specs.Int.{w64}
use Rattle.std.specs.List.{list_all}
use Rattle.toml.specs.Data.{integer}
use Rattle.toml.proofs.ReadValues.{value_start, read_value}
use Rattle.canonical_form.specs.CanonicalTable.{number}
use Rattle.canonical_form.proofs.ValueTexts.{IsValue}

glyph_digit : (n : ℕ) → is_ascii_digit (digit_glyph false (n % 10)) ≡ true
glyph_digit n = rw (lt-ltb (n % 10) 10 (omega arith)) (grind (arith, nat_tests))

by_test : (test : Bool) (front back : List ℕ) → list_all is_ascii_digit front ≡ true → list_all is_ascii_digit back ≡ true → list_all is_ascii_digit (cond test front back) ≡ true
by_test true front back one other = one
by_test false front back one other = other

digits_onto-digits : (count n : ℕ) (found : List ℕ) → list_all is_ascii_digit found ≡ true → list_all is_ascii_digit (digits_onto count 10 false n found) ≡ true
digits_onto-digits zero n found all = all
digits_onto-digits (suc count) n found all =
    let next : list_all is_ascii_digit (digit_glyph false (n % 10) ∷ found) ≡ true = rw (glyph_digit n) all in
    by_test (eqb (n / 10) 0) (digit_glyph false (n % 10) ∷ found) (digits_onto count 10 false (n / 10) (digit_glyph false (n % 10) ∷ found)) next (digits_onto-digits count (n / 10) (digit_glyph false (n % 10) ∷ found) next)

-- however large the number is, only digits are written
pub decimal-digits : (n : ℕ) → list_all is_ascii_digit (decimal n) ≡ true
unfolding digits
decimal-digits n = digits_onto-digits 64 n [] refl

-- bytes that pass one test pass a weaker one
pub list_all-weaker : (p q : ℕ → Bool) → ((c : ℕ) → p c ≡ true → q c ≡ true) → (bytes : List ℕ) → list_all p bytes ≡ true → list_all q bytes ≡ true
list_all-weaker p q weaker [] all = refl
list_all-weaker p q weaker (c ∷ bytes) all =
    let here : p c ≡ true = grind (arith, nat_tests) in
    let more : list_all p bytes ≡ true = grind (arith, nat_tests) in
    rw (weaker c here) (list_all-weaker p q weaker bytes more)

pub decimal-ascii : (n : ℕ) → list_all is_ascii (decimal n) ≡ true
decimal-ascii n = list_all-weaker is_ascii_digit is_ascii (λ c e. grind (arith, nat_tests)) (decimal n) (decimal-digits n)

pub IsValue-number : (depth n : ℕ) → n < 2 ^ 63 → IsValue depth (number n) (decimal n)
IsValue-number depth n small =
    let fits : FitsSigned w64 (pos n) = omega arith in
    record {
      starts = λ rest. (value_start false (integer (pos n)) (decimal n) rest (refl, fits) refl).1;
      reads = λ rest ends. read_value false (integer (pos n)) depth (decimal n) rest (refl, fits) (omega arith) refl ends;
      ascii = decimal-ascii n;
    }
