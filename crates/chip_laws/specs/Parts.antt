-- The parts of what holds in every reachable state that are proved kept by every event.
use Rattle.std.specs.Prelude.{◌≡◌, ℕ, ◌<◌, Some, slice_get}
use Rattle.report_text.specs.declared.access.Access.{Access}
use Rattle.doc_text.specs.Doc.{Doc}
use Rattle.chip_model.specs.Chip.{chip_of, tile_count}
use Rattle.chip_model.specs.Units.{UnitState}
use Rattle.chip_model.specs.ChipState.{ChipState}
use Rattle.chip_model.specs.Ownership.{OwnsByOrder}
use Rattle.chip_model.specs.Writers.{WritersFit, IsTimely}
use Rattle.chip_model.specs.Suppliers.{IsSupplied}

-- of each node, what it owns and who may write its copies; of each access, its time and its tile
pub record WritersHold (d : Doc) (s : ChipState) : Type 0 where
  pub owns : (t : ℕ) (unit : UnitState) → slice_get s.units t ≡ Some unit → OwnsByOrder s.network.ordered unit.node
  pub writers : (t : ℕ) (unit : UnitState) → slice_get s.units t ≡ Some unit → WritersFit s.network.ordered unit.node
  pub timely : IsTimely s
  pub performers : (place : ℕ) (access : Access) → slice_get s.accesses place ≡ Some access → access.tile < tile_count (chip_of d)

-- the gets of each tile are answered from exactly one place
abbrev pub GetsAreSupplied : Doc → ChipState → Type 0
GetsAreSupplied d s = (t : ℕ) (unit : UnitState) → slice_get s.units t ≡ Some unit → IsSupplied (chip_of d) s t unit.node
