-- One more entry of a table.
use Rattle.std.proofs.Common.{◌≡◌, ℕ, zero, suc, ◌+◌, ◌<◌, ◌≤◌, List, [], ◌∷◌, ◌++◌, length, length-append, Some, refl, sym, ◌∙◌, ap, arith, ⊎_elim}
use Rattle.std.specs.Prelude.{slice_get}
use Rattle.std.proofs.lemmas.Bool.{cases_lt}

before : {X : Type 0} (xs : List X) (x : X) (u : ℕ) → u < length xs → slice_get (xs ++ x ∷ []) u ≡ slice_get xs u
before [] x u below = absurd (omega (arith, below))
before (y ∷ xs) x zero below = refl
before (y ∷ xs) x (suc u) below = before xs x u (omega (arith, below))

last : {X : Type 0} (xs : List X) (x : X) → slice_get (xs ++ x ∷ []) (length xs) ≡ Some x
last [] x = refl
last (y ∷ xs) x = last xs x

pub one_more : {X : Type 0} (f : ℕ → X) (old new : List X) (t : ℕ) (x : X) → new ≡ old ++ x ∷ [] → x ≡ f t → length old ≡ t → ((u : ℕ) → u < t → slice_get old u ≡ Some (f u))
    → (length new ≡ t + 1) × ((u : ℕ) → u < t + 1 → slice_get new u ≡ Some (f u))
one_more f old new t x made is count each = (omega (arith, ap length made, length-append old (x ∷ []), count), λ u below. rw made (⊎_elim (earlier u) (latest u below) (cases_lt u t)))
  where
    earlier : (u : ℕ) → u < t → slice_get (old ++ x ∷ []) u ≡ Some (f u)
    earlier u below = before old x u (omega (arith, below, count)) ∙ each u below

    latest : (u : ℕ) → u < t + 1 → t ≤ u → slice_get (old ++ x ∷ []) u ≡ Some (f u)
    latest u below from =
        let same : u ≡ length old = omega (arith, below, from, count) in
        let here : u ≡ t = omega (arith, below, from) in
        ap (slice_get (old ++ x ∷ [])) same ∙ last old x ∙ ap Some (is ∙ ap f (sym here))
