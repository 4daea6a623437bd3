-- Where the last words of each line of a finished chip stand: the record of the line's home names the owner, and a tile that
-- is the owner has the line in its cache.
use Rattle.std.specs.Prelude.{◌≡◌, ℕ, ◌<◌, Some, slice_get}
use Rattle.std.specs.Bool.{⊤}
use Rattle.chip_model.specs.declared.owner.Owner.{Owner}
use Rattle.chip_model.specs.declared.owner.Owner.TheVariants.{Memory, Tile}
use Rattle.chip_model.specs.Chip.{Chip, home}
use Rattle.chip_model.specs.Cache.{Held, lookup}
use Rattle.chip_model.specs.Records.{LineRecord}
use Rattle.chip_model.specs.Ownership.{owner}
use Rattle.chip_model.specs.Units.{UnitState}
use Rattle.chip_model.specs.ChipState.{ChipState}
use Rattle.mem_ctrl.specs.Owners.{record_of}

-- a tile has a line in its cache
pub record HasCopy (chip : Chip) (s : ChipState) (line t : ℕ) : Type 0 where
  pub unit : UnitState
  pub unit_at : slice_get s.units t ≡ Some unit
  pub same : unit.node.chip ≡ chip
  pub held : Held
  pub copy : lookup unit.node.chip unit.node.side.cache line ≡ Some held

-- an owner that is a tile has the line in its cache
abbrev pub IsKeptBy : Chip → ChipState → ℕ → Owner → Type 0
IsKeptBy chip s line Memory = ⊤
IsKeptBy chip s line (Tile t) = HasCopy chip s line t

-- the record of a line at its home names its owner, by whom the line is kept
pub record OwnerKeeps (chip : Chip) (s : ChipState) (line : ℕ) : Type 0 where
  pub unit : UnitState
  pub unit_at : slice_get s.units (home chip line) ≡ Some unit
  pub at_home : LineRecord
  pub record_is : record_of unit.node.records line ≡ Some at_home
  pub owner_is : at_home.owner ≡ owner line s.network.ordered
  pub kept : IsKeptBy chip s line at_home.owner

-- so each line's
abbrev pub EachOwnerKeeps : Chip → ChipState → Type 0
EachOwnerKeeps chip s = (line : ℕ) → line < chip.lines → OwnerKeeps chip s line
