-- What an optional value came from.
use Rattle.std.proofs.Common.{◌≡◌, ◌≢◌, ℕ, zero, suc, Bool, true, false, Option, Some, None, List, [], ◌∷◌, slice_get, set, refl, ap}
use Rattle.std.proofs.lemmas.Option.{option_and_then_some}
use Rattle.std.specs.Prelude.{option_map}
use Rattle.chip_model.specs.Partial.{when, ◌>>=◌}

pub none_some : {X P : Type 0} (x : X) → ◌≡◌ {A = Option X} None (Some x) → P
none_some x e = cc

pub bind : {X Y P : Type 0} (o : Option X) (f : X → Option Y) (y : Y) → (o >>= f) ≡ Some y → ((x : X) → o ≡ Some x → f x ≡ Some y → P) → P
bind o f y e = option_and_then_some f o y e

pub when_some : {X P : Type 0} (guard : Bool) (o : Option X) (x : X) → when guard o ≡ Some x → (guard ≡ true → o ≡ Some x → P) → P
when_some true o x is goal = goal refl is
when_some false o x is goal = cc

pub option_map_some : {X Y P : Type 0} (f : X → Y) (o : Option X) (y : Y) → option_map f o ≡ Some y → ((x : X) → o ≡ Some x → f x ≡ y → P) → P
option_map_some f None y is goal = cc
option_map_some f (Some x) y is goal = goal x refl cc

-- Reading a list in which one element was set.

pub slice_get-set_same : {X : Type 0} (xs : List X) (k : ℕ) (x y : X) → slice_get xs k ≡ Some x → slice_get (set xs k y) k ≡ Some y
slice_get-set_same [] k x y at = none_some x at
slice_get-set_same (z ∷ xs) zero x y at = refl
slice_get-set_same (z ∷ xs) (suc k) x y at = slice_get-set_same xs k x y at

pub slice_get-set_other : {X : Type 0} (xs : List X) (j k : ℕ) (y : X) → j ≢ k → slice_get (set xs k y) j ≡ slice_get xs j
slice_get-set_other [] j k y away = refl
slice_get-set_other (z ∷ xs) zero zero y away = absurd (away refl)
slice_get-set_other (z ∷ xs) zero (suc k) y away = refl
slice_get-set_other (z ∷ xs) (suc j) zero y away = refl
slice_get-set_other (z ∷ xs) (suc j) (suc k) y away = slice_get-set_other xs j k y (λ e. away (ap (λ (n : ℕ). suc n) e))
