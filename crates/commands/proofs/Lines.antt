-- The line of `order`, piece by piece.
use Rattle.std.proofs.Common.{◌≡◌, ℕ, Bool, true, false, List, [], ◌∷◌, ◌++◌, refl, sym, ◌∙◌, ap, append_assoc, map}
use Rattle.std.specs.Prelude.{codes, decimal}
use Rattle.std.specs.List.{join_with_byte}
use Rattle.std.proofs.lemmas.List.{append-nil}
use Rattle.commands.specs.Entries.{entry_text, entries_text, has_begun, rest_text}
use Rattle.commands.specs.Line.{numbers_line}

-- numbers after others
pub entries_text-append : (begun : Bool) (xs ys : List ℕ) → entries_text begun (xs ++ ys) ≡ entries_text begun xs ++ entries_text (has_begun begun xs) ys
entries_text-append begun [] ys = refl
entries_text-append begun (x ∷ xs) ys =
    ap (λ (t : List ℕ). entry_text begun x ++ t) (entries_text-append true xs ys ∙ ap (λ (b : Bool). entries_text true xs ++ entries_text b ys) (begun_is xs))
    ∙ sym (append_assoc (entry_text begun x) (entries_text true xs) (entries_text true ys))
  where
    begun_is : (zs : List ℕ) → has_begun true zs ≡ true
    begun_is [] = refl
    begun_is (z ∷ zs) = refl

-- what is left of a line
pub rest_text-append : (begun : Bool) (xs ys : List ℕ) → rest_text begun (xs ++ ys) ≡ entries_text begun xs ++ rest_text (has_begun begun xs) ys
rest_text-append begun xs ys =
    ap (λ (t : List ℕ). t ++ codes "\n") (entries_text-append begun xs ys) ∙ append_assoc (entries_text begun xs) (entries_text (has_begun begun xs) ys) (codes "\n")

joined : (x : ℕ) (xs : List ℕ) → join_with_byte 32 (map decimal (x ∷ xs)) ≡ decimal x ++ entries_text true xs
joined x [] = sym (append-nil (decimal x))
joined x (y ∷ xs) = ap (λ (t : List ℕ). decimal x ++ (32 ∷ t)) (joined y xs)

-- the line before its first number
pub numbers_line-rest : (numbers : List ℕ) → numbers_line numbers ≡ rest_text false numbers
numbers_line-rest [] = refl
numbers_line-rest (x ∷ xs) = ap (λ (t : List ℕ). t ++ codes "\n") (joined x xs)

pub begun_stays : (numbers : List ℕ) → has_begun true numbers ≡ true
begun_stays [] = refl
begun_stays (x ∷ xs) = refl
