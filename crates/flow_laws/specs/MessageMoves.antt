-- Which steps of the reply network are possible, and when there is none.
use Rattle.std.specs.Prelude.{◌≡◌, ◌<◌, ℕ, true, Some, None, is_some}
use Rattle.mesh_gen.specs.declared.msg.Msg.{Msg}
use Rattle.mesh_gen.specs.declared.port.Port.{Port}
use Rattle.mesh_gen.specs.Grid.{Grid, tiles}
use Rattle.vc_bank.specs.Places.{Network, at}
use Rattle.chip_model.specs.Replies.{after_data_hop, after_data_eject}

-- some message can hop, or be taken by its tile
pub data MessageMoves (g : Grid) (net : Network Msg) : Type 0 where
  message_hops : (r : ℕ) (port : Port) (slot : ℕ) → is_some (after_data_hop g net r port slot) ≡ true → MessageMoves g net
  message_ejects : (r : ℕ) (port : Port) (slot : ℕ) → r < tiles g → is_some (after_data_eject net r port slot) ≡ true → MessageMoves g net

-- no message stands in any channel
abbrev pub NoMessages : Network Msg → Type 0
NoMessages net = (router port slot : ℕ) → at net router port slot ≡ None

-- each message is for a tile
abbrev pub AreForTiles : Grid → Network Msg → Type 0
AreForTiles g net = (router port slot : ℕ) (msg : Msg) → at net router port slot ≡ Some msg → msg.to < tiles g
