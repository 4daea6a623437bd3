-- The lines with which a cache side has to do.
use Rattle.std.specs.Prelude.{◌≡◌, ℕ, ◌<◌, true, Some, is_some}
use Rattle.chip_model.specs.Chip.{Chip}
use Rattle.chip_model.specs.Cache.{lookup}
use Rattle.chip_model.specs.Misses.{Demand, WriteBack}
use Rattle.chip_model.specs.Snoop.{CacheSide}

-- the lines in a cache and of what is waited for are lines of memory
pub record LinesBelow (chip : Chip) (side : CacheSide) : Type 0 where
  pub cached : (line : ℕ) → is_some (lookup chip side.cache line) ≡ true → line < chip.lines
  pub demand : (demand : Demand) → side.misses.demand ≡ Some demand → demand.line < chip.lines
  pub back : (back : WriteBack) → side.misses.back ≡ Some back → back.line < chip.lines
