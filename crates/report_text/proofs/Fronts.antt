-- What stands after a byte that a search found, and the parts that a loop over `split` takes.
use Rattle.std.proofs.Common.{◌≡◌, ℕ, Bool, ◌+◌, List, [], Option, Some, None, length, map, ◌<◌, drop, sym, ap, ◌∙◌, arith}
use Rattle.std.specs.List.{after_first}
use Rattle.std.proofs.lemmas.Bool.{ltb-false}
use Rattle.std.proofs.lemmas.List.{drop_all, drop-drop}
use Rattle.std.proofs.lemmas.Option.{cond_some}
use Rattle.core_isa.proofs.Scanning.{found_at, none_is_false}
use Rattle.std.specs.Iterator.{Yields}
use Rattle.std.proofs.lemmas.Iterator.{YieldsList}
use Rattle.std.proofs.lemmas.Iterator.Consumers.{YieldsList-turn, YieldsList-end}

-- what stands after it
pub back_is : (p : ℕ → Bool) (xs : List ℕ) (i : ℕ) (back rest : List ℕ) → found_at p xs ≡ Some i → back ≡ drop i xs → rest ≡ drop 1 back → rest ≡ after_first p xs
back_is p xs i back rest e cut off = off ∙ ap (λ (ys : List ℕ). drop 1 ys) cut ∙ drop-drop 1 i xs ∙ ap (λ (n : ℕ). drop (n + 1) xs) (sym (cond_some _ _ _ e).1)

pub nothing_is : (p : ℕ → Bool) (xs : List ℕ) → found_at p xs ≡ None → [] ≡ after_first p xs
nothing_is p xs e = let all = ltb-false _ _ (none_is_false _ _ e) in sym (drop_all _ xs (omega (arith, all)))

-- the parts that a loop over `split` took, when there are no more
pub parts-end : {S A B : Type 0} {steps : S → Option A → S → Type 0} {v : A → B} {s : S} {all : List B} (xs : List A) (t : S) → Yields steps s xs t → (r : Option A) (u : S) → r ≡ None → steps t r u → YieldsList steps v s all → map v xs ≡ all
parts-end xs t yielded r u none stepped road = (YieldsList-end road xs t yielded r u none stepped).0

-- a part more: there are more than were taken
pub parts-more : {S A B : Type 0} {steps : S → Option A → S → Type 0} {v : A → B} {s : S} {all : List B} (xs : List A) (t : S) → Yields steps s xs t → (r : Option A) (u : S) (x : A) → r ≡ Some x → steps t r u → YieldsList steps v s all → length xs < length all
parts-more xs t yielded r u x some stepped road = (YieldsList-turn road xs t yielded r u x some stepped).0
