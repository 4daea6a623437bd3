-- The parts of what holds in every reachable state that speak of words that are written back and of the homes of lines.
use Rattle.std.specs.Prelude.{◌≡◌, ℕ, Some, slice_get}
use Rattle.chip_model.specs.Units.{UnitState}
use Rattle.chip_model.specs.ChipState.{ChipState}
use Rattle.chip_model.specs.Suppliers.{ReachesMemory, RecordsAreFresh, WaitersAreGets}

-- the words of each request that writes a line back reach memory, by one message
abbrev pub WordsReachMemory : ChipState → Type 0
WordsReachMemory s = (line : ℕ) → ReachesMemory s line

-- the records of each home are fresh where the order says so, and those wait there of whom the order says so
pub record HomesHold (s : ChipState) : Type 0 where
  pub fresh : (t : ℕ) (unit : UnitState) → slice_get s.units t ≡ Some unit → RecordsAreFresh s unit.node
  pub waiters : (t : ℕ) (unit : UnitState) → slice_get s.units t ≡ Some unit → WaitersAreGets s unit.node
