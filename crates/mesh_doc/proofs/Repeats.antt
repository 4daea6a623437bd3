-- The first number of a list that stands in it before.
use Rattle.std.proofs.Common.{◌≡◌, ℕ, ◌+◌, ◌<◌, ◌≤◌, true, false, List, [], ◌∷◌, length, take, drop, get_or, Some, None, is_some, refl}
use Rattle.std.proofs.lemmas.List.{drop_all, drop_more, take_more}
use Rattle.mesh_gen.specs.TileSet.{is_among}
use Rattle.mesh_doc.specs.Values.{repeated, repeated_after, if_distinct}
use Rattle.mesh_doc.specs.Reading.{first}

pub repeats_here : (xs : List ℕ) (i d : ℕ) → i < length xs → is_among (take i xs) (get_or xs i d) ≡ true → first (repeated_after (take i xs) (drop i xs)) ≡ Some (get_or xs i d)
unfolding repeated_after
repeats_here xs i d within again = rw (drop_more xs i d within, again) refl

pub repeats_not : (xs : List ℕ) (i d : ℕ) → i < length xs → is_among (take i xs) (get_or xs i d) ≡ false
    → repeated_after (take i xs) (drop i xs) ≡ repeated_after (take (i + 1) xs) (drop (i + 1) xs)
unfolding repeated_after
repeats_not xs i d within new = rw (drop_more xs i d within, new, take_more xs i d within) refl

pub repeats_end : (xs : List ℕ) (i : ℕ) → length xs ≤ i → first (repeated_after (take i xs) (drop i xs)) ≡ None
unfolding repeated_after
repeats_end xs i past = rw (drop_all i xs past) refl

-- a list with a number that stands again, and one without
pub again : (list repeats : List ℕ) → repeated list ≡ repeats → is_some (first repeats) ≡ true → if_distinct list ≡ None
again list [] is some = cc
again list (n ∷ rest) is some = rw is refl

pub distinct : (list repeats : List ℕ) → repeated list ≡ repeats → is_some (first repeats) ≡ false → if_distinct list ≡ Some list
distinct list [] is none = rw is refl
distinct list (n ∷ rest) is none = cc
