-- What a step that is composed of partial ones leaves, where it leaves something.
use Rattle.std.proofs.Common.{◌≡◌, refl, subst, Option, Some, None}
use Rattle.chip_model.specs.Partial.{◌>>=◌}

pub bind : {X Y : Type 0} (P : Y → Type 0) (o : Option X) (f : X → Option Y) → ((x : X) (y : Y) → f x ≡ Some y → P y) → (y : Y) → (o >>= f) ≡ Some y → P y
bind P None f each y is = cc
bind P (Some x) f each y is = each x y is

pub bind_eq : {X Y : Type 0} (P : Y → Type 0) (o : Option X) (f : X → Option Y) → ((x : X) → o ≡ Some x → (y : Y) → f x ≡ Some y → P y) → (y : Y) → (o >>= f) ≡ Some y → P y
bind_eq P None f each y is = cc
bind_eq P (Some x) f each y is = each x refl y is

pub made : {X : Type 0} (P : X → Type 0) (x y : X) → P x → ◌≡◌ {A = Option X} (Some x) (Some y) → P y
made P x y holds same = let is : x ≡ y = cc in subst P is holds
