-- Numbers that are distinct: none stands again, and below a bound there are at most so many.
use Rattle.std.proofs.Common.{◌≡◌, ℕ, ◌<◌, ◌≤◌, nat_eq, eqb, Bool, true, false, ◌||◌, ◌==◌, List, [], ◌∷◌, ◌++◌, length, refl, inl, inr, arith}
use Rattle.std.specs.List.{IsDistinct, AllByRecursion, list_any}
use Rattle.std.proofs.lemmas.Bool.{cases_eq, ne_eqb}
use Rattle.std.proofs.lemmas.Map.Steps.{length-le_from_distinct_below}
use Rattle.mesh_gen.specs.TileSet.{is_among}
use Rattle.mesh_doc.specs.Values.{repeated, repeated_after}

neither : (a b : Bool) → (a || b) ≡ false → (a ≡ false) × (b ≡ false)
neither true b is = cc
neither false b is = (refl, is)

among_push : (before : List ℕ) (n m : ℕ) → is_among before m ≡ false → nat_eq n m ≡ false → is_among (before ++ n ∷ []) m ≡ false
among_push [] n m none other = rw other refl
among_push (b ∷ before) n m none other =
    let (here, more) = neither (b == m) (is_among before m) none in
    rw here (among_push before n m more other)

all_push : (before : List ℕ) (n : ℕ) (rest : List ℕ) → AllByRecursion (λ m. is_among before m ≡ false) rest → AllByRecursion (λ m. nat_eq n m ≡ false) rest
    → AllByRecursion (λ m. is_among (before ++ n ∷ []) m ≡ false) rest
all_push before n [] none other = tt
all_push before n (m ∷ rest) none other = (among_push before n m none.0 other.0, all_push before n rest none.1 other.1)

none_after : (before list : List ℕ) → AllByRecursion (λ m. is_among before m ≡ false) list → IsDistinct nat_eq list → repeated_after before list ≡ []
unfolding repeated_after IsDistinct
none_after before [] none apart = refl
none_after before (n ∷ rest) none apart = rw none.0 (none_after (before ++ n ∷ []) rest (all_push before n rest none.1 apart.0) apart.1)

nothing_before : (list : List ℕ) → AllByRecursion (λ m. is_among [] m ≡ false) list
nothing_before [] = tt
nothing_before (m ∷ rest) = (refl, nothing_before rest)

pub none_repeated : (list : List ℕ) → IsDistinct nat_eq list → repeated list ≡ []
none_repeated list apart = none_after [] list (nothing_before list) apart

inside_all : (list : List ℕ) (count : ℕ) → AllByRecursion (λ t. t < count) list → (q : ℕ) → list_any (eqb q) list ≡ true → q < count
inside_all [] count inside q is = cc
inside_all (n ∷ rest) count inside q is = elim (cases_eq q n) [
  | inl same ↦ omega (arith, inside.0)
  | inr other ↦ let more : list_any (eqb q) rest ≡ true = rw (ne_eqb q n other) at is in inside_all rest count inside.1 q more
]

pub few_distinct : (list : List ℕ) (count : ℕ) → IsDistinct nat_eq list → AllByRecursion (λ t. t < count) list → length list ≤ count
few_distinct list count apart inside = length-le_from_distinct_below list count apart (inside_all list count inside)
