-- A message that comes to a tile fits the chip.
use Rattle.std.proofs.Common.{◌≡◌, ℕ, Some}
use Rattle.mesh_gen.specs.declared.msg.Msg.{Msg}
use Rattle.mesh_gen.specs.declared.port.Port.{Port}
use Rattle.vc_bank.specs.Places.{Network}
use Rattle.doc_text.specs.Doc.{Doc}
use Rattle.chip_model.specs.Chip.{chip_of}
use Rattle.chip_model.specs.Replies.{after_data_eject}
use Rattle.chip_model.specs.ChipState.{ChipState}
use Rattle.chip_model.specs.NetworkShape.{MessageFits}
use Rattle.chip_model.specs.ChipInvariant.{NetworkHolds}
use Rattle.reply_net.specs.MessagesHold.{MessagesHold}
use Rattle.chip_laws.specs.MessageLaws.{MessageLaws}

-- what holds of a chip's messages
pub replies_of : (d : Doc) (s : ChipState) → NetworkHolds d s → MessagesHold (chip_of d) s.replies
replies_of d s holds = record { channels = holds.replies; routes = holds.routes; messages = holds.messages }

pub came_fits : MessageLaws → (d : Doc) (s : ChipState) (t : ℕ) (port : Port) (slot : ℕ) (msg : Msg) (replies : Network Msg) → NetworkHolds d s
    → after_data_eject s.replies t port slot ≡ Some (msg, replies) → MessageFits (chip_of d) msg
came_fits messages d s t port slot msg replies holds comes = (messages.came (chip_of d) s.replies replies t port slot msg (replies_of d s holds) comes).fits
