-- Lists of calls of the reply network, and the account of the messages that were put in and taken.
use Rattle.std.specs.Prelude.{◌≡◌, ℕ, ◌+◌, Bool, List, [], ◌∷◌, Option, Some, All}
use Rattle.std.specs.List.{sum_by}
use Rattle.mesh_gen.specs.declared.msg.Msg.{Msg}
use Rattle.mesh_gen.specs.declared.port.Port.{Port}
use Rattle.mesh_gen.specs.Grid.{Grid}
use Rattle.mesh_gen.specs.Ports.{count_if}
use Rattle.vc_bank.specs.Places.{Network}
use Rattle.chip_model.specs.Partial.{◌>>=◌}
use Rattle.chip_model.specs.Replies.{no_replies, after_send, after_data_hop, after_data_eject}
use Rattle.reply_net.specs.ReplyNetwork.{total}

-- a call: a message enters at a tile, or the message in a channel goes on, or is taken
pub data ReplyEvent : Type 0 where
  Inject : ℕ → Msg → ReplyEvent
  Hop : ℕ → Port → ℕ → ReplyEvent
  Eject : ℕ → Port → ℕ → ReplyEvent

-- the messages in the channels, those that were put in so far, and those that were taken, each with the tile that took it
pub record Account : Type 0 where
  pub messages : Network Msg
  pub injected : List Msg
  pub taken : List (ℕ × Msg)

-- the account before the first call
abbrev pub opening_account : Grid → ℕ → Account
opening_account g data_vcs = record { messages = no_replies g data_vcs; injected = []; taken = [] }

-- the account after a call, where it is not refused
unfoldable pub accounted : Grid → Account → ReplyEvent → Option Account
accounted g account (Inject r msg) =
    after_send account.messages r msg >>= (λ net. Some (record account { messages = net; injected = msg ∷ account.injected }))
accounted g account (Hop r port slot) =
    after_data_hop g account.messages r port slot >>= (λ net. Some (record account { messages = net }))
accounted g account (Eject r port slot) =
    after_data_eject account.messages r port slot >>= (λ out. Some (record account { messages = out.1; taken = (r, out.0) ∷ account.taken }))

-- the account after a list of calls, where none is refused
unfoldable pub account_of : Grid → Account → List ReplyEvent → Option Account
account_of g account [] = Some account
account_of g account (event ∷ events) = accounted g account event >>= (λ next. account_of g next events)

-- how many of the messages in channels pass a test
abbrev pub standing_count : (Msg → Bool) → Account → ℕ
standing_count test account = total (λ msg. count_if (test msg)) account.messages

-- how many of those that were put in pass a test
abbrev pub injected_count : (Msg → Bool) → Account → ℕ
injected_count test account = sum_by (λ msg. count_if (test msg)) account.injected

-- how many of those that were taken pass a test
abbrev pub taken_count : (Msg → Bool) → Account → ℕ
taken_count test account = sum_by (λ took. count_if (test took.1)) account.taken

-- each message that was put in stands in one channel or was taken, and not both, and nothing else stands or was taken
abbrev pub IsBalanced : Account → Type 0
IsBalanced account = (test : Msg → Bool) → standing_count test account + taken_count test account ≡ injected_count test account

-- each message was taken by the tile that it names
abbrev pub AreAtTheirTiles : Account → Type 0
AreAtTheirTiles account = All (λ took. took.1.to ≡ took.0) account.taken
