-- The messages that nodes have still to send.
use Rattle.std.specs.Prelude.{◌≡◌, ℕ, Some, slice_get}
use Rattle.mesh_gen.specs.declared.msg.Msg.{Msg}
use Rattle.doc_text.specs.Doc.{Doc}
use Rattle.chip_model.specs.Chip.{chip_of}
use Rattle.chip_model.specs.Units.{UnitState}
use Rattle.chip_model.specs.ChipState.{ChipState}
use Rattle.chip_model.specs.NetworkShape.{MessageFits}

-- each message in a node's queue fits the chip
abbrev pub QueuesFit : Doc → ChipState → Type 0
QueuesFit d s = (t place : ℕ) (unit : UnitState) (msg : Msg) → slice_get s.units t ≡ Some unit → slice_get unit.node.out place ≡ Some msg → MessageFits (chip_of d) msg
