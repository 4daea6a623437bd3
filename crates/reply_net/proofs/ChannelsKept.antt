-- The channels of the replies: each step leaves every router as many of each port.
use Rattle.std.proofs.Common.{◌≡◌, ℕ, ◌+◌, ◌<◌, ◌≤◌, Bool, true, false, sym, subst, arith, Option, Some, None}
use Rattle.std.proofs.lemmas.Option.{option_and_then_some, same_Some}
use Rattle.mesh_gen.specs.declared.msg.Msg.{Msg}
use Rattle.mesh_gen.specs.declared.port.Port.{Port}
use Rattle.mesh_gen.specs.declared.port.Port.TheVariants.{L}
use Rattle.mesh_gen.specs.Grid.{Grid}
use Rattle.mesh_gen.specs.Ports.{port_number}
use Rattle.vc_bank.specs.Channels.{lowest_free}
use Rattle.vc_bank.specs.Places.{Network, slots, at, put, HasPlace}
use Rattle.vc_bank.proofs.PlaceLaws.{place_of, length-slots-put}
use Rattle.chip_model.specs.declared.channel.Channel.{Channel}
use Rattle.chip_model.specs.Partial.{◌>>=◌}
use Rattle.chip_model.specs.Copies.{channels_of}
use Rattle.chip_model.specs.Replies.{after_send, next_channel, after_data_hop, after_data_eject}
use Rattle.chip_model.specs.NetworkShape.{HasChannels}
use Rattle.chip_model.proofs.ChannelPuts.{HasChannels-put}
use Rattle.reply_net.proofs.Steps.{landed, next_found, free_found, free_place}
use Rattle.reply_net.proofs.Accounts.{received_is}

pub channels_sent : (g : Grid) (data_vcs : ℕ) (old new : Network Msg) (r : ℕ) (msg : Msg) → HasChannels g data_vcs false old → after_send old r msg ≡ Some new → HasChannels g data_vcs false new
unfolding after_send
channels_sent g data_vcs old new r msg have is =
    option_and_then_some (λ slot. Some (put old r (port_number L) slot (Some msg))) (lowest_free (channels_of old r) (port_number L)) new is (λ slot lowest done.
    subst (HasChannels g data_vcs false) (same_Some _ new done)
    (HasChannels-put g data_vcs false old r (port_number L) slot (Some msg) have (free_place old r (port_number L) slot (free_found old r (port_number L) slot lowest))))

pub channels_hopped : (g : Grid) (data_vcs : ℕ) (old new : Network Msg) (r : ℕ) (port : Port) (slot : ℕ) → HasChannels g data_vcs false old → after_data_hop g old r port slot ≡ Some new → HasChannels g data_vcs false new
unfolding after_data_hop
channels_hopped g data_vcs old new r port slot have is =
    option_and_then_some (λ msg. next_channel g old r msg >>= (λ next. Some (landed old r p slot msg next))) (at old r p slot) new is (λ msg stands rest.
    option_and_then_some (λ next. Some (landed old r p slot msg next)) (next_channel g old r msg) new rest (λ next found done.
    subst (HasChannels g data_vcs false) (same_Some _ new done) (goes_on msg next stands found)))
  where
    p : ℕ
    p = port_number port

    goes_on : (msg : Msg) (next : Channel) → at old r p slot ≡ Some msg → next_channel g old r msg ≡ Some next → HasChannels g data_vcs false (landed old r p slot msg next)
    goes_on msg next stands found =
        let q = port_number next.port in
        let place = place_of old r p slot msg stands in
        let before : HasPlace old next.router q next.slot = free_place old next.router q next.slot (free_found old next.router q next.slot (next_found g old r msg next found).lowest) in
        let same = length-slots-put old r p slot None next.router q place in
        HasChannels-put g data_vcs false (put old r p slot None) next.router q next.slot (Some msg) (HasChannels-put g data_vcs false old r p slot None have place) (omega (arith, before, same))

pub channels_came : (g : Grid) (data_vcs : ℕ) (old new : Network Msg) (r : ℕ) (port : Port) (slot : ℕ) (msg : Msg) → HasChannels g data_vcs false old → after_data_eject old r port slot ≡ Some (msg, new) → HasChannels g data_vcs false new
channels_came g data_vcs old new r port slot msg have is =
    let took = received_is old r port slot (msg, new) is in
    subst (HasChannels g data_vcs false) (sym took.left) (HasChannels-put g data_vcs false old r (port_number port) slot None have (place_of old r (port_number port) slot msg took.stood))
