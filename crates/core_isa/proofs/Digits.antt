-- Words of digits.
use Rattle.std.proofs.Common.{◌≡◌, ℕ, ◌^◌, ◌<◌, ◌≤◌, Bool, true, false, ◌&&◌, leb, List, [], ◌∷◌, length, Result, Ok, Err, Bor, refl, ap, inl, inr}
use Rattle.std.specs.Prelude.{MatchOption, MatchResult}
use Rattle.std.specs.Result.{result_ok, OkIff}
use Rattle.std.specs.List.{list_all}
use Rattle.std.specs.Char.{is_ascii_digit}
use Rattle.std.specs.Str.{IsUtf8, all_ascii_digits}
use Rattle.std.specs.Str.Parse.{digits_value}
use Rattle.std.proofs.lemmas.Str.{IsUtf8-from_ascii}
use Rattle.std.proofs.lemmas.Str.Parse.{IsNumeralModel, numerals_by_value, tells_all_ascii_digits}
use Rattle.std.proofs.lemmas.Fmt.{IsAscii-from_digits}
use Rattle.std.proofs.Math.Nat.{lt_of_lt_of_le}
use Rattle.std.proofs.lemmas.Bool.{cases_lt, le-ltb, lt-leb, ltb-true}
use Rattle.core_isa.specs.Operands.{is_digits, is_number}

pub list_all-digits : (bytes : List ℕ) → list_all is_ascii_digit bytes ≡ all_ascii_digits bytes
list_all-digits [] = refl
list_all-digits (byte ∷ bytes) = ap (λ (b : Bool). is_ascii_digit byte && b) (list_all-digits bytes)

pub numerals : IsNumeralModel (λ word. all_ascii_digits word ≡ true) (digits_value 10)
numerals = numerals_by_value _ tells_all_ascii_digits

pub IsUtf8-digits : (word : List ℕ) → all_ascii_digits word ≡ true → IsUtf8 word
IsUtf8-digits word e = IsUtf8-from_ascii word (IsAscii-from_digits word (numerals.to word e))

-- digits are text
pub text_from_digits : {E : Type 0} (A : E → Type 0) (word : List ℕ) (r : Result (Bor (List ℕ)) E) → all_ascii_digits word ≡ true → is_digits word ≡ true →
    MatchResult r (λ text. (text.now ≡ word) × IsUtf8 word) (λ e. ¬ (IsUtf8 word) × A e) → MatchOption (result_ok r) (is_digits word ≡ false) (λ text. (is_digits word ≡ true) × (text.now ≡ word))
text_from_digits A word (Ok text) e d h = (d, h.0)
text_from_digits A word (Err fault) e d h = absurd (h.0 (IsUtf8-digits word e))

le_from_not_lt : {a b : ℕ} → (a < b → ⊥) → b ≤ a
le_from_not_lt {a} {b} h = elim (cases_lt a b) [ inl lt ↦ absurd (h lt) | inr le ↦ le ]

pub and_true-left : (a b : Bool) → (a && b) ≡ true → a ≡ true
and_true-left true b e = refl
and_true-left false b e = e

-- a word of digits that is not read as a number is none
pub unread : {E : Type 0} (word : List ℕ) (r : Result ℕ E) → is_digits word ≡ true → OkIff r ((0 < length word) × (digits_value 10 word < 2 ^ 32)) (digits_value 10 word)
    → ((n : ℕ) → r ≡ Ok n → ⊥) → is_number word ≡ false
unread word (Ok n) d h not_ok = absurd (not_ok n refl)
unread word (Err e) d h not_ok =
    let filled : 0 < length word = ltb-true _ _ (and_true-left _ _ d) in
    rw (d, le-ltb (digits_value 10 word) (2 ^ 32) (le_from_not_lt (λ lt. h (filled, lt)))) refl

pub and_true-right : (a b : Bool) → (a && b) ≡ true → b ≡ true
and_true-right true b e = e
and_true-right false b e = absurd cc

pub digits_are : (word : List ℕ) → is_digits word ≡ true → all_ascii_digits word ≡ true
digits_are word e = and_true-right _ _ e

-- a word of digits that is not read as a place is none
pub unread_place : {E : Type 0} (word : List ℕ) (r : Result ℕ E) (end : ℕ) → end < 2 ^ 64 → is_digits word ≡ true → OkIff r ((0 < length word) × (digits_value 10 word < 2 ^ 64)) (digits_value 10 word)
    → ((n : ℕ) → r ≡ Ok n → ⊥) → (is_digits word && leb (digits_value 10 word) end) ≡ false
unread_place word (Ok n) end small d h not_ok = absurd (not_ok n refl)
unread_place word (Err e) end small d h not_ok =
    let filled : 0 < length word = ltb-true _ _ (and_true-left _ _ d) in
    let past : 2 ^ 64 ≤ digits_value 10 word = le_from_not_lt (λ lt. h (filled, lt)) in
    rw (d, lt-leb (digits_value 10 word) end (lt_of_lt_of_le small past)) refl
