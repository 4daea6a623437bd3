-- A list in which no number stands again, and what is said within limits.
use Rattle.std.proofs.Common.{◌≡◌, ℕ, ◌-◌, ◌*◌, ◌<◌, ◌≤◌, nat_eq, Bool, true, false, if◌then◌else◌, ◌||◌, ◌==◌, List, [], ◌∷◌, ◌++◌, length, Some, refl, inl, inr, arith}
use Rattle.std.specs.List.{IsDistinct, AllByRecursion}
use Rattle.std.proofs.lemmas.Bool.{cases_eq, ne_eqb}
use Rattle.std.proofs.lemmas.Bool.Decides.{nat_tests}
use Rattle.std.proofs.lemmas.Option.{same_Some}
use Rattle.mesh_gen.specs.TileSet.{is_among}
use Rattle.mesh_gen.specs.Limits.{AreTiles}
use Rattle.toml.specs.Data.{Data}
use Rattle.doc_text.specs.Limits.{ArePosts}
use Rattle.mesh_doc.specs.Values.{repeated, repeated_after, has_no_items, if_distinct, number_in, tile, tiles, window, windows, words}
use Rattle.mesh_doc.proofs.Items.{from_only_if, bind_some, list_in-all}
use Rattle.mesh_doc.proofs.Numbers.{number_in-limits}

or_true : (a b : Bool) → b ≡ true → (a || b) ≡ true
or_true true b is = refl
or_true false b is = is

either_more : (a b c : Bool) → (a || b) ≡ true → (b ≡ true → c ≡ true) → (a || c) ≡ true
either_more true b c is more = refl
either_more false b c is more = more is

among_more : (before : List ℕ) (n m : ℕ) → is_among before m ≡ true → is_among (before ++ n ∷ []) m ≡ true
among_more [] n m is = cc
among_more (b ∷ before) n m is = either_more (b == m) (is_among before m) (is_among (before ++ n ∷ []) m) is (among_more before n m)

among_last : (before : List ℕ) (n : ℕ) → is_among (before ++ n ∷ []) n ≡ true
among_last [] n = grind (arith, nat_tests)
among_last (b ∷ before) n = or_true (b == n) (is_among (before ++ n ∷ []) n) (among_last before n)

none_again : (again : Bool) (n : ℕ) (rest : List ℕ) → (if again then n ∷ [] else []) ++ rest ≡ [] → (again ≡ false) × (rest ≡ [])
none_again true n rest is = cc
none_again false n rest is = (refl, is)

-- a number that stood before stands not again
fresh : (before list : List ℕ) → repeated_after before list ≡ [] → (m : ℕ) → is_among before m ≡ true → AllByRecursion (λ y. nat_eq m y ≡ false) list
unfolding repeated_after
fresh before [] none m stood = tt
fresh before (n ∷ rest) none m stood =
    let (new, more) = none_again (is_among before n) n (repeated_after (before ++ n ∷ []) rest) none in
    let apart : nat_eq m n ≡ false = elim (cases_eq m n) [
      | inl same ↦ let stands : is_among before n ≡ true = rw (← same) stood in absurd (cc)
      | inr other ↦ ne_eqb m n other
    ] in
    (apart, fresh (before ++ n ∷ []) rest more m (among_more before n m stood))

distinct_after : (before list : List ℕ) → repeated_after before list ≡ [] → IsDistinct nat_eq list
unfolding repeated_after IsDistinct
distinct_after before [] none = tt
distinct_after before (n ∷ rest) none =
    let (new, more) = none_again (is_among before n) n (repeated_after (before ++ n ∷ []) rest) none in
    (fresh (before ++ n ∷ []) rest more n (among_last before n), distinct_after (before ++ n ∷ []) rest more)

-- ---- tiles, posts and words

tile_inside : (count : ℕ) → 0 < count → (value : Data) (t : ℕ) → tile count value ≡ Some t → t < count
tile_inside count some value t is = omega (arith, (number_in-limits 0 (count - 1) value t is).1)

pub AreTiles-tiles : (count : ℕ) → 0 < count → (value : Data) (list : List ℕ) → tiles count value ≡ Some list → repeated list ≡ [] → AreTiles count list
AreTiles-tiles count some value list is none =
    let (inside, low, high) = list_in-all (λ t. t < count) 1 count (tile count) (tile_inside count some) value list is in
    record { some = omega (arith, low); distinct = distinct_after [] list none; inside = inside }

empty_is : (list : List ℕ) → has_no_items list ≡ true → list ≡ []
empty_is [] is = refl
empty_is (n ∷ rest) is = cc

AreTiles-window : (count : ℕ) → 0 < count → (value : Data) (list : List ℕ) → window count value ≡ Some list → AreTiles count list
unfolding window
AreTiles-window count some value list is =
    let (found, said, kept) = bind_some if_distinct (tiles count value) list is in
    let (empty, same) = from_only_if (has_no_items (repeated found)) (Some found) list kept in
    rw (← same_Some _ _ same) (AreTiles-tiles count some value found said (empty_is (repeated found) empty))

pub ArePosts-windows : (count : ℕ) → 0 < count → (value : Data) (list : List (List ℕ)) → windows count value ≡ Some list → ArePosts count list
ArePosts-windows count some value list is =
    let (each, low, high) = list_in-all (AreTiles count) 0 4096 (window count) (AreTiles-window count some) value list is in
    record { few = high; each = each }

pub few_words : (lines : ℕ) (value : Data) (list : List ℕ) → words lines value ≡ Some list → length list ≤ 4 * lines
few_words lines value list is = (list_in-all (λ _. Unit {0}) 0 (4 * lines) (number_in 0 4294967295) (λ value found said. tt) value list is).2
