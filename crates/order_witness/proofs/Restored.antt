-- A list that was put in sequence in place.
use Rattle.std.proofs.Common.{◌≡◌, ℕ, zero, suc, ◌+◌, ◌≤◌, Bool, true, false, cond, List, [], ◌∷◌, ◌++◌, length, take, drop, refl, sym, ◌∙◌, ap, arith}
use Rattle.std.proofs.lemmas.List.{append-nil, take_all}
use Rattle.report_text.specs.declared.access.Access.{Access}
use Rattle.chip_model.specs.Witness.{is_before, inserted, in_sequence}

length_inserted : (a : Access) (xs : List Access) → length (inserted a xs) ≡ length xs + 1
length_inserted a [] = refl
length_inserted a (b ∷ xs) = by (is_before b a) (length_inserted a xs)
  where
    by : (before : Bool) → length (inserted a xs) ≡ length xs + 1 → length (cond {A = List Access} before (b ∷ inserted a xs) (a ∷ b ∷ xs)) ≡ length (b ∷ xs) + 1
    by true rest = omega (arith, rest)
    by false rest = omega arith

length_in_sequence : (xs : List Access) → length (in_sequence xs) ≡ length xs
length_in_sequence [] = refl
length_in_sequence (a ∷ xs) = omega (arith, length_inserted a (in_sequence xs), length_in_sequence xs)

drop_all : (xs : List Access) → drop (length xs) xs ≡ []
drop_all [] = refl
drop_all (a ∷ xs) = drop_all xs

-- what is written back over all items is the list in sequence
pub restored : (items sorted : List Access) (count : ℕ) → sorted ≡ in_sequence items → length items ≤ count → take count (sorted ++ drop (length sorted) items) ≡ in_sequence items
restored items sorted count is few =
    let long : length sorted ≡ length items = ap length is ∙ length_in_sequence items in
    ap (λ (n : ℕ). take count (sorted ++ drop n items)) long
    ∙ ap (λ (rest : List Access). take count (sorted ++ rest)) (drop_all items)
    ∙ ap (take count) (append-nil sorted)
    ∙ take_all count sorted (omega (arith, long, few))
    ∙ is
