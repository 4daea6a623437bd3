-- What each step of messages keeps.
use Rattle.std.proofs.Common.{◌≡◌, ℕ, false, refl, sym, subst, Some, None}
use Rattle.std.proofs.lemmas.Option.{option_and_then_some, same_Some}
use Rattle.mesh_gen.specs.declared.msg.Msg.{Msg}
use Rattle.mesh_gen.specs.declared.port.Port.{Port}
use Rattle.mesh_gen.specs.declared.port.Port.TheVariants.{L}
use Rattle.mesh_gen.specs.Grid.{Grid, neighbour}
use Rattle.mesh_gen.specs.Ports.{port_number, opposite}
use Rattle.mesh_gen.specs.Routes.{HasTiles, route, IsRouteChannel}
use Rattle.mesh_gen.proofs.Coordinates.{has_tiles}
use Rattle.vc_bank.specs.Channels.{IsFree, lowest_free}
use Rattle.vc_bank.specs.Places.{Network, at, put, HasPlace}
use Rattle.vc_bank.proofs.PlaceLaws.{place_of}
use Rattle.chip_model.specs.declared.channel.Channel.{Channel}
use Rattle.chip_model.specs.Partial.{◌>>=◌}
use Rattle.chip_model.specs.Chip.{Chip}
use Rattle.chip_model.specs.Copies.{channels_of}
use Rattle.chip_model.specs.Replies.{no_replies, after_send, next_channel, after_data_hop, after_data_eject}
use Rattle.chip_model.specs.NetworkShape.{MessageFits}
use Rattle.chip_model.proofs.ChannelPuts.{HasChannels-put, HasChannels-empty, every-put}
use Rattle.reply_net.specs.MessagesHold.{MessagesHold, MessageCame}
use Rattle.reply_net.proofs.Steps.{landed, IsNext, next_found, elsewhere, free_found, free_place}
use Rattle.reply_net.proofs.Sound.{each-put, each-take, no_message, free_beside, stands_next}
use Rattle.reply_net.proofs.Accounts.{Nearer, received_is}

-- ---- one write

-- a message that fits comes to a free channel of its route
hold-put : (chip : Chip) (net : Network Msg) (r : ℕ) (port : Port) (slot : ℕ) (msg : Msg) → MessagesHold chip net → HasPlace net r (port_number port) slot → MessageFits chip msg
    → IsRouteChannel chip.grid msg.to r port
    → MessagesHold chip (put net r (port_number port) slot (Some msg))
hold-put chip net r port slot msg holds place fits may = record {
  channels = HasChannels-put chip.grid chip.data_vcs false net r (port_number port) slot (Some msg) holds.channels place;
  routes = λ router slot_there at_port m stands.
      each-put (λ r port m. IsRouteChannel chip.grid m.to r port) net r port slot msg (λ r port slot m stands. holds.routes r slot port m stands) place may router at_port slot_there m stands;
  messages = every-put (λ r p m. MessageFits chip m) net r (port_number port) slot (Some msg) holds.messages place (λ m same. subst (MessageFits chip) (same_Some msg m same) fits);
}

-- a message leaves its channel
hold-take : (chip : Chip) (net : Network Msg) (r p slot : ℕ) → MessagesHold chip net → HasPlace net r p slot → MessagesHold chip (put net r p slot None)
hold-take chip net r p slot holds place = record {
  channels = HasChannels-put chip.grid chip.data_vcs false net r p slot None holds.channels place;
  routes = λ router slot_there at_port m stands.
      each-take (λ r port m. IsRouteChannel chip.grid m.to r port) net r p slot (λ r port slot m stands. holds.routes r slot port m stands) place router at_port slot_there m stands;
  messages = every-put (λ r p m. MessageFits chip m) net r p slot None holds.messages place (λ m nothing. cc);
}

-- ---- the steps

pub messages_opened : (chip : Chip) → MessagesHold chip (no_replies chip.grid chip.data_vcs)
messages_opened chip = record {
  channels = HasChannels-empty chip.grid chip.data_vcs false;
  routes = λ router slot port msg stands. absurd (no_message chip.grid chip.data_vcs router (port_number port) slot msg stands);
  messages = λ router port slot msg stands. absurd (no_message chip.grid chip.data_vcs router port slot msg stands);
}

pub messages_sent : (chip : Chip) (old new : Network Msg) (r : ℕ) (msg : Msg) → MessagesHold chip old → MessageFits chip msg → after_send old r msg ≡ Some new → MessagesHold chip new
unfolding after_send
messages_sent chip old new r msg holds fits is =
    option_and_then_some (λ slot. Some (put old r (port_number L) slot (Some msg))) (lowest_free (channels_of old r) (port_number L)) new is (λ slot lowest done.
    subst (MessagesHold chip) (same_Some _ new done) (hold-put chip old r L slot msg holds (free_place old r (port_number L) slot (free_found old r (port_number L) slot lowest)) fits tt))

abbrev pub StandsOn : Type 0
StandsOn = (g : Grid) (dest r n : ℕ) → HasTiles g → neighbour g r (route g r dest) ≡ Some n → IsRouteChannel g dest n (opposite (route g r dest))

pub messages_hopped : Nearer → StandsOn → (chip : Chip) (old new : Network Msg) (r : ℕ) (port : Port) (slot : ℕ) → MessagesHold chip old
    → after_data_hop chip.grid old r port slot ≡ Some new → MessagesHold chip new
unfolding after_data_hop
messages_hopped nearer stands_on chip old new r port slot holds is =
    option_and_then_some (λ msg. next_channel chip.grid old r msg >>= (λ next. Some (landed old r p slot msg next))) (at old r p slot) new is (λ msg stands rest.
    option_and_then_some (λ next. Some (landed old r p slot msg next)) (next_channel chip.grid old r msg) new rest (λ next found done.
    subst (MessagesHold chip) (same_Some _ new done) (goes_on msg next stands (next_found chip.grid old r msg next found))))
  where
    p : ℕ
    p = port_number port

    mid : Network Msg
    mid = put old r p slot None

    goes_on : (msg : Msg) (next : Channel) → at old r p slot ≡ Some msg → IsNext chip.grid old r msg next → MessagesHold chip (landed old r p slot msg next)
    goes_on msg next stands found =
        let fits = holds.messages r p slot msg stands in
        let some = has_tiles chip.grid msg.to fits.to in
        let free : IsFree (channels_of mid next.router) (port_number next.port) next.slot = free_beside old mid r p slot next.router (port_number next.port) next.slot (elsewhere chip.grid old r msg next nearer some found) refl
        (free_found old next.router (port_number next.port) next.slot found.lowest) in
        hold-put chip mid next.router next.port next.slot msg (hold-take chip old r p slot holds (place_of old r p slot msg stands)) (free_place mid next.router (port_number next.port) next.slot free) fits
        (stands_next chip.grid old r msg next stands_on some found)

pub messages_came : (chip : Chip) (old new : Network Msg) (r : ℕ) (port : Port) (slot : ℕ) (msg : Msg) → MessagesHold chip old → after_data_eject old r port slot ≡ Some (msg, new)
    → MessageCame chip msg new
messages_came chip old new r port slot msg holds is =
    let took = received_is old r port slot (msg, new) is in
    record {
      holds = subst (MessagesHold chip) (sym took.left) (hold-take chip old r (port_number port) slot holds (place_of old r (port_number port) slot msg took.stood));
      fits = holds.messages r (port_number port) slot msg took.stood;
    }

pub message_here : (old new : Network Msg) (r : ℕ) (port : Port) (slot : ℕ) (msg : Msg) → after_data_eject old r port slot ≡ Some (msg, new) → msg.to ≡ r
message_here old new r port slot msg is = (received_is old r port slot (msg, new) is).here
