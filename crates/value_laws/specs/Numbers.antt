-- How the accesses of a tile and the stores that it has still to make are numbered, whatever its core is.
use Rattle.std.specs.Prelude.{◌≡◌, ◌≢◌, ℕ, ◌<◌, true, List, [], ◌∷◌, Some, slice_get}
use Rattle.std.specs.List.{AllByRecursion}
use Rattle.report_text.specs.declared.access.Access.{Access}
use Rattle.chip_model.specs.Units.{UnitState, BufferedStore}
use Rattle.chip_model.specs.ChipState.{ChipState}
use Rattle.chip_model.specs.Witness.{is_write}
use Rattle.value_laws.specs.Sequences.{AllPairs, Differs, AreSucceeding}

-- stores of instructions below a number, each later one of a later instruction
abbrev pub StoresRise : ℕ → List BufferedStore → Type 0
StoresRise n [] = Unit {0}
StoresRise n (x ∷ rest) = (x.number < n) × AllByRecursion (λ (y : BufferedStore). x.number < y.number) rest × StoresRise n rest

-- an access is of another instruction than a store, and of an earlier one where it writes
abbrev pub IsApart : Access → BufferedStore → Type 0
IsApart a x = (a.number ≢ x.number) × (is_write a ≡ true → a.number < x.number)

-- the accesses of a unit's tile and its buffered stores are of instructions that it has done, and apart
pub record NumbersHold (xs : List Access) (t : ℕ) (unit : UnitState) : Type 0 where
  pub early : AllByRecursion (λ a. a.tile ≡ t → a.number < unit.core.steps) xs
  pub stores : StoresRise unit.core.steps unit.buffered
  pub apart : AllByRecursion (λ a. a.tile ≡ t → AllByRecursion (IsApart a) unit.buffered) xs

-- each access comes after the writes that its tile performed before, also where it is still buffered; each is of another
-- instruction
pub record AreInTurn (s : ChipState) : Type 0 where
  pub succeed : AreSucceeding s.accesses
  pub differ : AllPairs Differs s.accesses
  pub numbers : (t : ℕ) (unit : UnitState) → slice_get s.units t ≡ Some unit → NumbersHold s.accesses t unit
