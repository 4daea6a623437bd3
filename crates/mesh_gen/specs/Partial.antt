-- Steps that are defined only where a guard holds.
use Rattle.std.specs.Prelude.{Bool, Option, None, if◌then◌else◌, option_and_then}

-- the value, where the guard holds
abbrev pub when : {X : Type 0} → Bool → Option X → Option X
when guard value = if guard then value else None

infixl 10 ◌>>=◌
-- what follows from the value, where there is one
abbrev pub ◌>>=◌ : {X Y : Type 0} → Option X → (X → Option Y) → Option Y
value >>= f = option_and_then f value
