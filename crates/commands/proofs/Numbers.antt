-- Numbers of digits within limits.
use Rattle.std.proofs.Common.{◌≡◌, ◌⊎◌, ℕ, ◌^◌, ◌<◌, Bool, true, false, ◌&&◌, leb, nat_lt, List, [], ◌∷◌, length, Result, Ok, Err, Some, None, inl, inr, refl, ap}
use Rattle.std.specs.Prelude.{if◌then◌else◌}
use Rattle.std.proofs.Math.Nat.{lt_of_lt_of_le}
use Rattle.std.specs.List.{list_all}
use Rattle.std.specs.Char.{is_ascii_digit}
use Rattle.std.specs.Str.{all_ascii_digits}
use Rattle.std.specs.Str.Parse.{digits_value, ParsesUnsigned}
use Rattle.std.proofs.lemmas.Str.Parse.{IsNumeralModel, numerals_by_value, tells_all_ascii_digits, parse_digits}
use Rattle.std.proofs.lemmas.Bool.{cases_lt, le-ltb, lt-leb}
use Rattle.commands.specs.Arguments.{number_within}

pub list_all-digits : (bytes : List ℕ) → list_all is_ascii_digit bytes ≡ all_ascii_digits bytes
list_all-digits [] = refl
list_all-digits (byte ∷ bytes) = ap (λ (b : Bool). is_ascii_digit byte && b) (list_all-digits bytes)

pub numerals : IsNumeralModel (λ word. all_ascii_digits word ≡ true) (digits_value 10)
numerals = numerals_by_value _ tells_all_ascii_digits

-- without a digit, or past the limit, there is no number
none_within : (n : ℕ) (some digits low high : Bool) → (some ≡ false) ⊎ (high ≡ false)
    → (if (some && digits) && (low && high) then Some n else None) ≡ None
none_within n false digits low high either = refl
none_within n true false low high either = refl
none_within n true true false high either = refl
none_within n true true true false either = refl
none_within n true true true true (inl e) = absurd cc
none_within n true true true true (inr e) = absurd cc

-- digits that are not read as a number are none, or too many
pub unread : {E : Type 0} (least most : ℕ) (word : List ℕ) (r : Result ℕ E) → most < 2 ^ 32 → all_ascii_digits word ≡ true → ParsesUnsigned 32 10 word r
    → ((n : ℕ) → r ≡ Ok n → ⊥) → number_within least most word ≡ None
unread least most word (Ok n) small digits parses not_ok = absurd (not_ok n refl)
unread least most word (Err e) small digits parses not_ok =
    let refused = parse_digits numerals 32 word (Err e) parses digits in
    let value : ℕ = digits_value 10 word in
    none_within value (nat_lt 0 (length word)) (all_ascii_digits word) (leb least value) (leb value most) (elim (cases_lt 0 (length word)) [
      | inr empty ↦ inl (le-ltb 0 (length word) empty)
      | inl some ↦ elim (cases_lt value (2 ^ 32)) [
        | inl below ↦ absurd (refused (some, below))
        | inr past ↦ inr (lt-leb value most (lt_of_lt_of_le small past))
      ]
    ])
