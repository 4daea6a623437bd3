-- What a step of one network is to the fabric.
use Rattle.std.proofs.Common.{◌≡◌, ℕ, [], ◌∷◌, ◌++◌, refl, Option, Some, None}
use Rattle.std.specs.Prelude.{is_some}
use Rattle.mesh_gen.specs.declared.msg.Msg.{Msg}
use Rattle.mesh_gen.specs.declared.request.Request.{Request}
use Rattle.vc_bank.specs.Places.{Network}
use Rattle.chip_model.specs.Partial.{◌>>=◌}
use Rattle.chip_model.specs.OrderedNetwork.{OrderedNetwork}
use Rattle.net_iface.specs.OrderedNet.{NetworkState, SameSizes}
use Rattle.reply_net.specs.ReplyNetwork.{ReplyNetwork}
use Rattle.fabric_core.specs.Fabric.{FabricState}
use Rattle.fabric_core.specs.Parts.{FabricParts, LogState, fabric_of_parts}

-- the fabric steps where the network does, and nowhere else
pub is_some-step : {X Y : Type 0} (o : Option X) (f : X → Y) → is_some o ≡ is_some (o >>= (λ x. Some (f x)))
is_some-step None f = refl
is_some-step (Some x) f = refl

pub no_step : {X Y : Type 0} (o : Option X) (f : X → Option Y) → o ≡ None → (o >>= f) ≡ None
no_step o f none = rw none refl

-- the words with one more, and the room
abbrev pub with_word : LogState → ℕ → LogState
with_word log word = record { words = log.words ++ word ∷ []; room = log.room }

abbrev network_after : FabricParts → ℕ → ℕ → OrderedNetwork → FabricState
network_after p word hops network = record (fabric_of_parts p) { network = network; entries = p.log.words ++ word ∷ []; hops = hops }

abbrev replies_after : FabricParts → ℕ → Network Msg → FabricState
replies_after p word messages = record (fabric_of_parts p) { replies = messages; entries = p.log.words ++ word ∷ [] }

seen-network : (p : FabricParts) (net : NetworkState) (log : LogState) (word hops : ℕ) → SameSizes p.network net → log ≡ with_word p.log word
    → network_after p word hops net.network ≡ fabric_of_parts (record p { network = net; log = log; hops = hops })
seen-network p net log word hops sizes logged = rw (sizes.chip_is, logged) refl

pub network_step : (p : FabricParts) (net : NetworkState) (log : LogState) (word hops : ℕ) (o : Option OrderedNetwork) → o ≡ Some net.network → SameSizes p.network net → log ≡ with_word p.log word
    → (o >>= (λ network. Some (network_after p word hops network))) ≡ Some (fabric_of_parts (record p { network = net; log = log; hops = hops }))
network_step p net log word hops o is sizes logged = rw (is, seen-network p net log word hops sizes logged) refl

pub network_delivery : (p : FabricParts) (net : NetworkState) (log : LogState) (word : ℕ) (q : Request) (o : Option (Request × OrderedNetwork)) → o ≡ Some (q, net.network) → SameSizes p.network net → log ≡ with_word p.log word
    → ◌>>=◌ {Y = Request × FabricState} o (λ out. Some (out.0, network_after p word p.hops out.1)) ≡ Some (q, fabric_of_parts (record p { network = net; log = log }))
network_delivery p net log word q o is sizes logged = rw (is, seen-network p net log word p.hops sizes logged) refl

pub replies_step : (p : FabricParts) (replies : ReplyNetwork) (log : LogState) (word : ℕ) (o : Option (Network Msg)) → o ≡ Some replies.messages → log ≡ with_word p.log word
    → (o >>= (λ messages. Some (replies_after p word messages))) ≡ Some (fabric_of_parts (record p { replies = replies; log = log }))
replies_step p replies log word o is logged = rw (is, logged) refl

pub replies_delivery : (p : FabricParts) (replies : ReplyNetwork) (log : LogState) (word : ℕ) (msg : Msg) (o : Option (Msg × Network Msg)) → o ≡ Some (msg, replies.messages) → log ≡ with_word p.log word
    → ◌>>=◌ {Y = Msg × FabricState} o (λ out. Some (out.0, replies_after p word out.1)) ≡ Some (msg, fabric_of_parts (record p { replies = replies; log = log }))
replies_delivery p replies log word msg o is logged = rw (is, logged) refl
