-- What the steps of the reply network do to its messages: the sum of a weight over them, and what comes to a tile.
use Rattle.std.specs.Prelude.{◌≡◌, ℕ, ◌+◌, Some}
use Rattle.mesh_gen.specs.declared.msg.Msg.{Msg}
use Rattle.mesh_gen.specs.declared.port.Port.{Port}
use Rattle.mesh_gen.specs.Grid.{Grid}
use Rattle.mesh_gen.specs.Routes.{HasTiles}
use Rattle.vc_bank.specs.Places.{Network}
use Rattle.chip_model.specs.Chip.{Chip}
use Rattle.chip_model.specs.Replies.{no_replies, after_send, after_data_hop, after_data_eject}
use Rattle.reply_net.specs.ReplyNetwork.{total}
use Rattle.reply_net.specs.MessagesHold.{MessagesHold, MessageCame}

-- nothing weighs before any event, a send adds its message, a hop keeps all, and what comes to a tile is taken and its own
pub record MessageLaws : Type 0 where
  pub none : (weight : Msg → ℕ) (g : Grid) (data_vcs : ℕ) → total weight (no_replies g data_vcs) ≡ 0
  pub adds : (weight : Msg → ℕ) (old new : Network Msg) (t : ℕ) (msg : Msg) → after_send old t msg ≡ Some new → total weight new ≡ total weight old + weight msg
  pub keeps : (weight : Msg → ℕ) (g : Grid) (old new : Network Msg) (r : ℕ) (port : Port) (slot : ℕ) → HasTiles g → after_data_hop g old r port slot ≡ Some new
      → total weight new ≡ total weight old
  pub takes : (weight : Msg → ℕ) (old new : Network Msg) (t : ℕ) (port : Port) (slot : ℕ) (msg : Msg) → after_data_eject old t port slot ≡ Some (msg, new)
      → total weight new + weight msg ≡ total weight old
  pub here : (old new : Network Msg) (t : ℕ) (port : Port) (slot : ℕ) (msg : Msg) → after_data_eject old t port slot ≡ Some (msg, new) → msg.to ≡ t
  pub came : (chip : Chip) (old new : Network Msg) (t : ℕ) (port : Port) (slot : ℕ) (msg : Msg) → MessagesHold chip old → after_data_eject old t port slot ≡ Some (msg, new)
      → MessageCame chip msg new
