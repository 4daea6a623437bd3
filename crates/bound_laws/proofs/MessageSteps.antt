-- The steps of the reply network: a message that is sent weighs less than it did in its queue, and each hop and the arrival
-- lower the measure.
use Rattle.std.proofs.Common.{◌≡◌, ℕ, ◌+◌, ◌<◌, [], Option, Some, None, get_or, subst, arith}
use Rattle.std.specs.Prelude.{◌==◌}
use Rattle.std.proofs.lemmas.Option.{cond_some}
use Rattle.mesh_gen.specs.declared.msg.Msg.{Msg}
use Rattle.mesh_gen.specs.declared.port.Port.{Port}
use Rattle.mesh_gen.specs.declared.port.Port.TheVariants.{L}
use Rattle.mesh_gen.specs.Grid.{Grid, distance}
use Rattle.mesh_gen.specs.Ports.{port_number}
use Rattle.mesh_gen.specs.Routes.{HasTiles}
use Rattle.mesh_gen.proofs.RouteHops.{hop_nearer}
use Rattle.vc_bank.specs.Channels.{IsFree, lowest_free}
use Rattle.vc_bank.specs.Places.{Network, at, put, weigh, weight}
use Rattle.vc_bank.proofs.PlaceLaws.{weigh-put, weigh_at, bank-put_other}
use Rattle.chip_model.specs.declared.channel.Channel.{Channel}
use Rattle.chip_model.specs.Copies.{channels_of}
use Rattle.chip_model.specs.Replies.{after_send, next_channel, after_data_hop, after_data_eject}
use Rattle.reply_net.proofs.Steps.{free_found, free_place, free_none, IsNext, next_found, elsewhere}
use Rattle.net_iface.proofs.Binds.{bind_eq, made}
use Rattle.bound_laws.specs.Measure.{reply_weight, replies_to_go}

-- a packet comes to a free channel
weigh-come : (f : ℕ → ℕ → ℕ → Msg → ℕ) (net : Network Msg) (r p slot : ℕ) (msg : Msg) → IsFree (channels_of net r) p slot
    → weigh f (put net r p slot (Some msg)) ≡ weigh f net + f r p slot msg
weigh-come f net r p slot msg free =
    let change : weigh f (put net r p slot (Some msg)) + 0 ≡ weigh f net + f r p slot msg =
    subst (λ (was : Option Msg). weigh f (put net r p slot (Some msg)) + weight (f r p slot) was ≡ weigh f net + f r p slot msg) (free_none net r p slot free)
    (weigh-put f net r p slot (Some msg) (free_place net r p slot free)) in
    omega arith

pub sent_grows : (g : Grid) (net new : Network Msg) (r : ℕ) (msg : Msg) → after_send net r msg ≡ Some new
    → replies_to_go g new ≡ replies_to_go g net + 1 + distance g r msg.to
unfolding after_send replies_to_go
sent_grows g net new r msg =
    bind_eq P (lowest_free (channels_of net r) (port_number L)) _
    (λ slot lowest n is. made P (put net r (port_number L) slot (Some msg)) n
    (let come = weigh-come (reply_weight g) net r (port_number L) slot msg (free_found net r (port_number L) slot lowest) in omega arith) is)
    new
  where
    P : Network Msg → Type 0
    P new = weigh (reply_weight g) new ≡ weigh (reply_weight g) net + 1 + distance g r msg.to

pub forwarded_lowers : (g : Grid) (net new : Network Msg) (r : ℕ) (port : Port) (slot : ℕ) → HasTiles g → after_data_hop g net r port slot ≡ Some new
    → replies_to_go g new < replies_to_go g net
unfolding after_data_hop replies_to_go
forwarded_lowers g net new r port slot some =
    bind_eq P (at net r (port_number port) slot) _
    (λ msg stands last done. bind_eq P (next_channel g net r msg) _
    (λ next found n is. made P (put (put net r (port_number port) slot None) next.router (port_number next.port) next.slot (Some msg)) n
    (lowers msg next stands (next_found g net r msg next found)) is) last done)
    new
  where
    P : Network Msg → Type 0
    P new = weigh (reply_weight g) new < weigh (reply_weight g) net

    lowers : (msg : Msg) (next : Channel) → at net r (port_number port) slot ≡ Some msg → IsNext g net r msg next
        → P (put (put net r (port_number port) slot None) next.router (port_number next.port) next.slot (Some msg))
    lowers msg next stands is =
        let mid = put net r (port_number port) slot None in
        let goes = weigh_at (reply_weight g) net r (port_number port) slot msg stands in
        let other : get_or mid next.router [] ≡ get_or net next.router [] =
        bank-put_other net r (port_number port) slot None next.router
        (elsewhere g net r msg next (λ g dest r n some near. hop_nearer g r dest n some near) some is) in
        let free : IsFree (channels_of mid next.router) (port_number next.port) next.slot =
        rw other (free_found net next.router (port_number next.port) next.slot is.lowest) in
        let comes = weigh-come (reply_weight g) mid next.router (port_number next.port) next.slot msg free in
        let nearer = hop_nearer g r msg.to next.router some is.near in
        omega arith

pub received_lowers : (g : Grid) (net : Network Msg) (r : ℕ) (port : Port) (slot : ℕ) (out : Msg × Network Msg) → after_data_eject net r port slot ≡ Some out
    → replies_to_go g out.1 < replies_to_go g net
unfolding after_data_eject replies_to_go
received_lowers g net r port slot out =
    bind_eq P (at net r (port_number port) slot) _
    (λ msg stands last done. let parts = cond_some (msg.to == r) (msg, put net r (port_number port) slot None) last done in
    subst P parts.1 (let goes = weigh_at (reply_weight g) net r (port_number port) slot msg stands in omega arith))
    out
  where
    P : Msg × Network Msg → Type 0
    P out = weigh (reply_weight g) out.1 < weigh (reply_weight g) net
