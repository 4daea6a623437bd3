-- A program put at its tile.
use Rattle.std.specs.List.{range_with_len}
use Rattle.std.proofs.Common.{◌≡◌, ℕ, zero, suc, ◌+◌, ◌<◌, ◌≤◌, ◌==◌, if◌then◌else◌, List, [], ◌∷◌, ◌++◌, length, take, drop, get_or, map, refl, sym, subst, ◌∙◌, ap, arith}
use Rattle.std.specs.Prelude.{slice_set}
use Rattle.std.proofs.lemmas.List.{get_or-map, take_more, drop_more, length-take, length-append, map-append, length-map}
use Rattle.std.proofs.lemmas.Bool.{ne_eqb}
use Rattle.std.proofs.lemmas.Bool.Decides.{nat_tests}
use Rattle.core_isa.specs.declared.instr.Instr.{Instr}
use Rattle.toml.specs.Data.{no_members}
use Rattle.doc_text.specs.declared.fault.Place.TheVariants.{Top}
use Rattle.mesh_doc.specs.Tables.{Part}
use Rattle.mesh_doc.specs.Faults.{core_tile}
use Rattle.mesh_doc.specs.Reading.{program_in, program_of_tile}

same_from : {A : Type 0} (f g : ℕ → A) (a n : ℕ) → ((t : ℕ) → a ≤ t → f t ≡ g t) → map f (range_with_len a n) ≡ map g (range_with_len a n)
same_from f g a zero same = refl
same_from f g a (suc n) same = rw (same a (omega arith), same_from f g (a + 1) n (λ t above. same t (omega arith))) refl

chosen : (p x : List Instr) (k : ℕ) → (if k == k then p else x) ≡ p
chosen p x k = grind (arith, nat_tests)

put_from : (f g : ℕ → List Instr) (a n k at : ℕ) (p : List Instr) → at ≡ a + k → ((t : ℕ) → g t ≡ (if at == t then p else f t)) → slice_set (map f (range_with_len a n)) k p ≡ map g (range_with_len a n)
put_from f g a zero k at p place is = refl
put_from f g a (suc n) zero at p place is =
    let here : at ≡ a = omega arith in
    let first : g a ≡ p = is a ∙ rw here (chosen p (f a) a) in
    let others = same_from g f (a + 1) n (λ t above. is t ∙ rw (ne_eqb at t (omega arith)) refl) in
    rw (first, others) refl
put_from f g a (suc n) (suc k) at p place is =
    let first : g a ≡ f a = is a ∙ rw (ne_eqb at a (omega arith)) refl in
    rw (first, put_from f g (a + 1) n k at p (omega arith) is) refl

-- the programs with one put at its tile, where every tile has its program
pub put_at : (f g : ℕ → List Instr) (n k : ℕ) (p : List Instr) → ((t : ℕ) → g t ≡ (if k == t then p else f t)) → slice_set (map f (range_with_len 0 n)) k p ≡ map g (range_with_len 0 n)
put_at f g n k p is = put_from f g 0 n k k p (omega arith) is

-- ---- the programs of the last cores placed, one more of those that are left

pub nothing : Part
nothing = record { place = Top; table = no_members }

snoc_same : {A : Type 0} (xs ys : List A) (x y : A) → length xs ≡ length ys → xs ++ x ∷ [] ≡ ys ++ y ∷ [] → (xs ≡ ys) × (x ≡ y)
snoc_same [] [] x y long is = (refl, cc)
snoc_same [] (b ∷ ys) x y long is = absurd (omega arith)
snoc_same (a ∷ xs) [] x y long is = absurd (omega arith)
snoc_same (a ∷ xs) (b ∷ ys) x y long is =
    let heads : a ≡ b = cc in
    let tails : xs ++ x ∷ [] ≡ ys ++ y ∷ [] = cc in
    let (same, last) = snoc_same xs ys x y (omega arith) tails in
    (cc, last)

pub left_more : (P : List Part) (old new : List (List Instr)) (program : List Instr) → old ≡ new ++ program ∷ [] → old ≡ map program_in (take (length old) P)
    → (length old ≡ length new + 1) × (length new < length P) × (new ≡ map program_in (take (length new) P)) × (program ≡ program_in (get_or P (length new) nothing))
left_more P old new program popped is =
    let k : ℕ = length new in
    let long : length old ≡ k + 1 = rw popped (simp length-append refl) in
    let mapped : old ≡ map program_in (take (k + 1) P) = subst (λ (n : ℕ). old ≡ map program_in (take n P)) long is in
    let within : k < length P = omega (arith, long, ap length mapped ∙ length-map (take (k + 1) P) program_in, length-take (k + 1) P) in
    let both : new ++ program ∷ [] ≡ map program_in (take k P) ++ program_in (get_or P k nothing) ∷ [] =
    sym popped ∙ mapped ∙ ap (map program_in) (take_more P k nothing within) ∙ map-append program_in (take k P) (get_or P k nothing ∷ []) in
    let (front, last) = snoc_same new (map program_in (take k P)) program (program_in (get_or P k nothing)) (omega (arith, length-map (take k P) program_in, length-take k P)) both in
    (long, within, front, last)

pub tile_is : (count : ℕ) (P : List Part) (tiles : List ℕ) (k : ℕ) → k < length P → tiles ≡ map (core_tile count) P → get_or tiles k 0 ≡ core_tile count (get_or P k nothing)
tile_is count P tiles k within is = rw is (get_or-map (core_tile count) P k nothing 0 within)

pub placed_more : (count : ℕ) (P : List Part) (k : ℕ) (placed : List (List Instr)) (tile : ℕ) (program : List Instr) → k < length P → tile ≡ core_tile count (get_or P k nothing)
    → program ≡ program_in (get_or P k nothing) → placed ≡ map (program_of_tile count (drop (k + 1) P)) (range_with_len 0 count)
    → slice_set placed tile program ≡ map (program_of_tile count (drop k P)) (range_with_len 0 count)
unfolding program_of_tile
placed_more count P k placed tile program within at is so_far =
    rw so_far (put_at (program_of_tile count (drop (k + 1) P)) (program_of_tile count (drop k P)) count tile program (λ t. rw (drop_more P k nothing within, at, is) refl))
