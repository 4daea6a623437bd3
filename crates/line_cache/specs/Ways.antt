-- The ways of one set.
use Rattle.std.specs.Prelude.{◌≡◌, ℕ, ◌==◌, Bool, true, false, [], ◌∷◌, Option, Some, None}
use Rattle.chip_model.specs.declared.victim.Victim.{Victim}
use Rattle.chip_model.specs.declared.victim.Victim.TheVariants.{Empty, DropS, Put}
use Rattle.chip_model.specs.Cache.{Held, Ways, is_shared, found, has_empty, emptied, freed, lowest}

-- whether a way holds a line; whether it holds a shared one
abbrev pub holds : ℕ → Option Held → Bool
holds line None = false
holds line (Some held) = held.line == line

-- a way holds a shared copy
abbrev pub holds_shared : Option Held → Bool
holds_shared None = false
holds_shared (Some held) = is_shared held.state

-- the line that a way holds
abbrev pub line_held : Option Held → Option ℕ
line_held None = None
line_held (Some held) = Some held.line

-- no way is empty; a shared line stands in the lowest shared way, and without it a way is empty
pub record DropsSharedWay (ways : Ways) (line : ℕ) : Type 0 where
  pub full : has_empty ways ≡ false
  pub dropped : freed ways ≡ Some (emptied line ways)
  pub room : has_empty (emptied line ways) ≡ true
  pub held : Held
  pub there : found line ways ≡ Some held
  pub shared : is_shared held.state ≡ true

-- no way is empty, and none is shared; a line stands in the lowest one, and without it a way is empty
pub record EvictsLowestWay (ways : Ways) (line : ℕ) : Type 0 where
  pub full : has_empty ways ≡ false
  pub unshared : freed ways ≡ None
  pub room : has_empty (emptied line ways) ≡ true
  pub held : Held
  pub lowest : lowest ways ≡ Some held
  pub same : held.line ≡ line
  pub there : found line ways ≡ Some held
  pub owned : is_shared held.state ≡ false

-- what a victim says of the ways
abbrev pub IsVictimOfWays : Ways → Victim → Type 0
IsVictimOfWays ways Empty = has_empty ways ≡ true
IsVictimOfWays ways (DropS line) = DropsSharedWay ways line
IsVictimOfWays ways (Put line) = EvictsLowestWay ways line
