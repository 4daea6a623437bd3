-- A number in a buffer of spaces.
use Rattle.std.proofs.Common.{◌≡◌, ℕ, zero, suc, ◌+◌, ◌-◌, ◌<◌, ◌≤◌, List, [], ◌∷◌, ◌++◌, length, take, drop, get_or, refl, sym, ◌∙◌, ap, arith}
use Rattle.std.specs.Prelude.{decimal}
use Rattle.std.proofs.lemmas.List.{append-nil, drop_more, get_or-take}
use Rattle.std.proofs.lemmas.Fmt.{length-decimal-le}

abbrev pub blanks : List ℕ
blanks = 32 ∷ 32 ∷ 32 ∷ 32 ∷ []

-- a byte has at most three digits
pub decimal_short : (n : ℕ) → n < 256 → length (decimal n) ≤ 3
decimal_short n small = length-decimal-le 3 n (omega arith) (omega arith) (omega arith)

pub digits_are : (n start : ℕ) (buffer : List ℕ) → drop start buffer ≡ decimal n ++ drop 4 blanks → drop start buffer ≡ decimal n
digits_are n start buffer written = written ∙ append-nil (decimal n)

space_at : (i : ℕ) → i < 4 → get_or blanks i 0 ≡ 32
space_at zero small = refl
space_at (suc zero) small = refl
space_at (suc (suc zero)) small = refl
space_at (suc (suc (suc zero))) small = refl
space_at (suc (suc (suc (suc i)))) small = absurd (omega arith)

-- with the space before them
pub space_before : (n start : ℕ) (buffer : List ℕ) → 0 < start → start ≤ 4 → length buffer ≡ 4 → drop start buffer ≡ decimal n ++ drop 4 blanks → take start buffer ≡ take start blanks
    → drop (start - 1) buffer ≡ 32 ∷ decimal n
space_before n start buffer some within count written before =
    let low : start - 1 < length buffer = omega arith in
    let below : start - 1 < start = omega arith in
    let next : start - 1 + 1 ≡ start = omega arith in
    let blank : get_or buffer (start - 1) 0 ≡ 32 =
    sym (get_or-take start buffer (start - 1) 0 below) ∙ ap (λ (xs : List ℕ). get_or xs (start - 1) 0) before ∙ get_or-take start blanks (start - 1) 0 below ∙ space_at (start - 1) (omega arith) in
    drop_more buffer (start - 1) 0 low ∙ rw (blank, next, digits_are n start buffer written) refl
