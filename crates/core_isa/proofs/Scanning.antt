-- What stands before a byte that a search found, or did not find.
use Rattle.std.proofs.Common.{◌≡◌, ℕ, Bool, true, false, List, Option, Some, None, cond, ltb, length, take, refl, sym, ap}
use Rattle.std.specs.List.{position_or_len, before_first}
use Rattle.std.proofs.lemmas.Bool.{ltb-false}
use Rattle.std.proofs.lemmas.List.{take_all}
use Rattle.std.proofs.lemmas.Option.{cond_some}

-- the place that `position` answers
abbrev pub found_at : {X : Type 0} → (X → Bool) → List X → Option ℕ
found_at p xs = cond (ltb (position_or_len p xs) (length xs)) (Some (position_or_len p xs)) None

pub front_is : (p : ℕ → Bool) (xs : List ℕ) (i : ℕ) → found_at p xs ≡ Some i → take i xs ≡ before_first p xs
front_is p xs i e = ap (λ (n : ℕ). take n xs) (sym (cond_some _ _ _ e).1)

pub none_is_false : (b : Bool) (n : ℕ) → cond b (Some n) None ≡ None → b ≡ false
none_is_false true n e = absurd cc
none_is_false false n e = refl

pub whole_is : (p : ℕ → Bool) (xs : List ℕ) → found_at p xs ≡ None → xs ≡ before_first p xs
whole_is p xs e = sym (take_all _ xs (ltb-false _ _ (none_is_false _ _ e)))
