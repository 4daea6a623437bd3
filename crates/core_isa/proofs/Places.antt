-- What the places of labels are after one more label.
use Rattle.std.proofs.Common.{◌≡◌, ℕ, Bool, true, false, ◌&&◌, cond, List, Option, Some, None, refl, sym, ap, ◌∙◌}
use Rattle.std.specs.Prelude.{is_some}
use Rattle.std.specs.Option.{option_or}
use Rattle.std.specs.Str.{bytes_eq}
use Rattle.std.specs.Map.{update}
use Rattle.std.proofs.lemmas.Slice.Eq.{bytes_eq-Decides}
use Rattle.core_isa.specs.Lines.{is_name}
use Rattle.core_isa.specs.LabelsSeen.{with_label}

pub option_or-none : (o : Option ℕ) → option_or o None ≡ o
option_or-none None = refl
option_or-none (Some x) = refl

and-false : (b : Bool) → (b && false) ≡ false
and-false true = refl
and-false false = refl

option_or-some : (o p : Option ℕ) → is_some o ≡ true → option_or o p ≡ o
option_or-some None p e = absurd cc
option_or-some (Some x) p e = refl

placed_by : (places : List ℕ → Option ℕ) (label : List ℕ) (place : ℕ) (name : List ℕ) → is_some (places label) ≡ true → (same : Bool) → (same ≡ true → label ≡ name)
    → places name ≡ option_or (places name) (cond (is_name label && same) (Some place) None)
placed_by places label place name h true is = sym (option_or-some (places name) _ (ap (λ (n : List ℕ). is_some (places n)) (sym (is refl)) ∙ h))
placed_by places label place name h false is = rw and-false (sym (option_or-none (places name)))

added_by : (places : List ℕ → Option ℕ) (label : List ℕ) (place : ℕ) (name : List ℕ) → is_name label ≡ true → places label ≡ None → (same : Bool) → (same ≡ true → label ≡ name)
    → cond same (Some place) (places name) ≡ option_or (places name) (cond (is_name label && same) (Some place) None)
added_by places label place name n h true is = rw (← is refl, h, n) refl
added_by places label place name n h false is = rw and-false (sym (option_or-none (places name)))

-- a label that is no name changes nothing
pub unnamed : (places : List ℕ → Option ℕ) (label : List ℕ) (place : ℕ) (name : List ℕ) → is_name label ≡ false → places name ≡ with_label places (Some label) place name
unnamed places label place name e = rw e (sym (option_or-none (places name)))

-- nor does one that has a place
pub placed : (places : List ℕ → Option ℕ) (label : List ℕ) (place : ℕ) (name : List ℕ) → is_some (places label) ≡ true → places name ≡ with_label places (Some label) place name
placed places label place name h =
    let go : (same : Bool) → (same ≡ true → label ≡ name) → places name ≡ option_or (places name) (cond (is_name label && same) (Some place) None) = placed_by places label place name h in
    go (bytes_eq label name) (λ e. (bytes_eq-Decides label name).0 e)

-- one that has none gets it
pub added : (places : List ℕ → Option ℕ) (label : List ℕ) (place : ℕ) (name : List ℕ) → is_name label ≡ true → places label ≡ None → update bytes_eq places label (Some place) name ≡ with_label places (Some label) place name
added places label place name n h = added_by places label place name n h (bytes_eq label name) (λ e. (bytes_eq-Decides label name).0 e)

pub none_from_not_some : (o : Option ℕ) → is_some o ≡ false → o ≡ None
none_from_not_some None e = refl
none_from_not_some (Some x) e = absurd cc
