-- What stands in a reply channel after a step of the replies is what stood there before, or the message that was sent.
use Rattle.std.proofs.Common.{Option, ◌≡◌, ℕ, sym, ◌∙◌, ap, arith, inl, inr, Some, None}
use Rattle.std.proofs.lemmas.Option.{same_Some}
use Rattle.mesh_gen.specs.declared.msg.Msg.{Msg}
use Rattle.mesh_gen.specs.declared.port.Port.{Port}
use Rattle.mesh_gen.specs.declared.port.Port.TheVariants.{L}
use Rattle.mesh_gen.specs.Ports.{port_number}
use Rattle.mesh_gen.specs.Grid.{Grid}
use Rattle.vc_bank.specs.Places.{Network, HasPlace, at, put}
use Rattle.vc_bank.specs.Channels.{lowest_free}
use Rattle.vc_bank.proofs.PlaceLaws.{at-put, place_of, length-slots-put}
use Rattle.chip_model.specs.Copies.{channels_of}
use Rattle.chip_model.specs.declared.channel.Channel.{Channel}
use Rattle.chip_model.specs.Partial.{◌>>=◌}
use Rattle.chip_model.specs.Replies.{after_send, next_channel, after_data_hop, after_data_eject}
use Rattle.reply_net.proofs.Steps.{free_found, free_place, next_found}
use Rattle.reply_net.proofs.Accounts.{received_is}
use Rattle.chip_laws.proofs.Options.{none_some, bind}

-- a message is sent
pub sent_stands : {P : Type 0} (net new : Network Msg) (r : ℕ) (msg : Msg) (n q j : ℕ) (m : Msg) → after_send net r msg ≡ Some new → at new n q j ≡ Some m
    → ((m ≡ msg) → P) → (at net n q j ≡ Some m → P) → P
unfolding after_send
sent_stands {P} net new r msg n q j m sends stands sent before =
    bind (lowest_free (channels_of net r) (port_number L)) (λ slot. Some (put net r (port_number L) slot (Some msg))) new sends (λ slot lowest made.
    let place = free_place net r (port_number L) slot (free_found net r (port_number L) slot lowest) in
    let there : at (put net r (port_number L) slot (Some msg)) n q j ≡ Some m = ap (λ (x : Network Msg). at x n q j) (same_Some (put net r (port_number L) slot (Some msg)) new made) ∙ stands in
    let cases = at-put net r (port_number L) slot (Some msg) n q j m place there in
    elim cases [
      | inl same ↦ sent (sym (same_Some msg m same.3))
      | inr stood ↦ before stood
    ])

-- a message leaves a channel
left_stood : (net : Network Msg) (r p slot : ℕ) (msg : Msg) (n q j : ℕ) (m : Msg) → at net r p slot ≡ Some msg → at (put net r p slot None) n q j ≡ Some m → at net n q j ≡ Some m
left_stood net r p slot msg n q j m stood stands = elim (at-put net r p slot None n q j m (place_of net r p slot msg stood) stands) [
  | inl same ↦ none_some m same.3
  | inr before ↦ before
]

-- and goes on
pub hopped_stands : {P : Type 0} (g : Grid) (net new : Network Msg) (r : ℕ) (port : Port) (slot n q j : ℕ) (m : Msg) → after_data_hop g net r port slot ≡ Some new → at new n q j ≡ Some m
    → ((u v w : ℕ) → at net u v w ≡ Some m → P) → P
unfolding after_data_hop
hopped_stands {P} g net new r port slot n q j m hops stands before =
    let mid = put net r (port_number port) slot None in
    let moved : Msg → Channel → Option (Network Msg) = λ (msg : Msg) (next : Channel). Some (put mid next.router (port_number next.port) next.slot (Some msg)) in
    bind (at net r (port_number port) slot) (λ msg. next_channel g net r msg >>= moved msg) new hops (λ msg stood rest.
    bind (next_channel g net r msg) (moved msg) new rest (λ next goes made.
    let is = next_found g net r msg next goes in
    let free : HasPlace net next.router (port_number next.port) next.slot =
    free_place net next.router (port_number next.port) next.slot (free_found net next.router (port_number next.port) next.slot is.lowest) in
    let same_length = length-slots-put net r (port_number port) slot None next.router (port_number next.port) (place_of net r (port_number port) slot msg stood) in
    let place : HasPlace mid next.router (port_number next.port) next.slot = omega (arith, free, same_length) in
    let there : at (put mid next.router (port_number next.port) next.slot (Some msg)) n q j ≡ Some m =
    ap (λ (x : Network Msg). at x n q j) (same_Some (put mid next.router (port_number next.port) next.slot (Some msg)) new made) ∙ stands in
    elim (at-put mid next.router (port_number next.port) next.slot (Some msg) n q j m place there) [
      | inl same ↦ before r (port_number port) slot (stood ∙ same.3)
      | inr still ↦ before n q j (left_stood net r (port_number port) slot msg n q j m stood still)
    ]))

-- and comes to its tile
pub received_leaves : (net new : Network Msg) (r : ℕ) (port : Port) (slot : ℕ) (msg : Msg) (n q j : ℕ) (m : Msg) → after_data_eject net r port slot ≡ Some (msg, new)
    → at new n q j ≡ Some m → at net n q j ≡ Some m
received_leaves net new r port slot msg n q j m comes stands =
    let is = received_is net r port slot (msg, new) comes in
    left_stood net r (port_number port) slot msg n q j m is.stood (ap (λ (x : Network Msg). at x n q j) (sym is.left) ∙ stands)
