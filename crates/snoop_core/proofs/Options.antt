-- What an optional value came from.
use Rattle.std.proofs.Common.{◌≡◌, Bool, true, false, refl, Option, Some, None}
use Rattle.std.specs.Prelude.{option_map}
use Rattle.chip_model.specs.Partial.{when}

pub none_some : {X : Type 0} (entry : Option X) (x : X) → entry ≡ None → entry ≡ Some x → ⊥
none_some entry x none some = cc

pub when_some : {X P : Type 0} (guard : Bool) (o : Option X) (x : X) → when guard o ≡ Some x → (guard ≡ true → o ≡ Some x → P) → P
when_some true o x is goal = goal refl is
when_some false o x is goal = cc

pub option_map_some : {X Y P : Type 0} (f : X → Y) (o : Option X) (y : Y) → option_map f o ≡ Some y → ((x : X) → o ≡ Some x → f x ≡ y → P)
    → P
option_map_some f None y is goal = cc
option_map_some f (Some x) y is goal = goal x refl (cc)

pub option_map_none : {X Y : Type 0} (f : X → Y) (o : Option X) → option_map f o ≡ None → o ≡ None
option_map_none f None is = refl
option_map_none f (Some x) is = cc
