-- A tile of a chip in a state in which the protocol's invariant holds.
use Rattle.std.specs.Prelude.{◌≡◌, ℕ, Some, slice_get}
use Rattle.doc_text.specs.Doc.{Doc}
use Rattle.chip_model.specs.OrderedNetwork.{Interface}
use Rattle.chip_model.specs.Units.{UnitState}
use Rattle.chip_model.specs.ChipState.{ChipState}
use Rattle.chip_model.specs.NetworkFits.{InterfaceAgrees}
use Rattle.chip_model.specs.ChipInvariant.{UnitHolds}

-- its interface and its unit, with what holds of them
pub record TileOf (d : Doc) (s : ChipState) (t : ℕ) : Type 0 where
  pub interface : Interface
  pub unit : UnitState
  pub interface_at : slice_get s.network.interfaces t ≡ Some interface
  pub unit_at : slice_get s.units t ≡ Some unit
  pub agrees : InterfaceAgrees s.network t interface
  pub holds : UnitHolds d s t interface unit
