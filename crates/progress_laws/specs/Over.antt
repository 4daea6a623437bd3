-- A chip that is over: nothing is left to do at its units and in its networks.
use Rattle.std.specs.Prelude.{◌≡◌, ℕ, Some, slice_get}
use Rattle.chip_model.specs.Units.{UnitState}
use Rattle.chip_model.specs.ChipState.{ChipState}
use Rattle.flow_laws.specs.NetworkMoves.{NetworkRests}
use Rattle.flow_laws.specs.MessageMoves.{NoMessages}
use Rattle.chip_laws.specs.DoneUnits.{IsDone}

-- every unit is done, every request is ordered and delivered with no copy left, and no message stands in a channel
pub record IsOver (s : ChipState) : Type 0 where
  pub units : (t : ℕ) (unit : UnitState) → slice_get s.units t ≡ Some unit → IsDone s.network.ordered unit
  pub requests : NetworkRests s.network
  pub replies : NoMessages s.replies
