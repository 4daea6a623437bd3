-- What the steps of the reply network do, from what a call finds.
use Rattle.std.proofs.Common.{◌≡◌, ◌≢◌, ℕ, zero, suc, ◌+◌, Bool, true, false, refl, sym, ◌∙◌, ap, subst, arith, Option, Some, None, List, [], ◌∷◌, get_or}
use Rattle.std.specs.Prelude.{is_some, slice_get, ◌==◌}
use Rattle.std.proofs.Common.{eq-eqb}
use Rattle.std.proofs.lemmas.Bool.{ne_eqb}
use Rattle.mesh_gen.specs.declared.msg.Msg.{Msg}
use Rattle.mesh_gen.specs.declared.port.Port.{Port}
use Rattle.mesh_gen.specs.declared.port.Port.TheVariants.{L}
use Rattle.mesh_gen.specs.Grid.{Grid, neighbour, distance}
use Rattle.mesh_gen.specs.Ports.{port_number, opposite}
use Rattle.mesh_gen.specs.Routes.{HasTiles, route}
use Rattle.vc_bank.specs.Channels.{slots_at, IsFree, lowest_free}
use Rattle.vc_bank.specs.Places.{Network, slots, at, put, HasPlace, weigh, weight}
use Rattle.vc_bank.proofs.FreeSlots.{IsLowestFree-lowest_free, none-lowest_free}
use Rattle.vc_bank.proofs.SlotWrites.{free_within}
use Rattle.vc_bank.proofs.PlaceLaws.{weigh-put, weigh_at}
use Rattle.chip_model.specs.declared.channel.Channel.{Channel}
use Rattle.chip_model.specs.Copies.{channels_of}
use Rattle.chip_model.specs.Partial.{◌>>=◌, when}
use Rattle.chip_model.specs.Replies.{after_send, next_channel, after_data_hop, after_data_eject}
use Rattle.reply_net.specs.ReplyNetwork.{total}

-- ---- a free channel is there, and holds nothing
pub free_found : (net : Network Msg) (r p slot : ℕ) → lowest_free (channels_of net r) p ≡ Some slot → IsFree (channels_of net r) p slot
free_found net r p slot is = (IsLowestFree-lowest_free (channels_of net r) p slot is).free

-- the local port has as many channels as a port has normal ones
pub none_free : (net : Network Msg) (r : ℕ) → lowest_free (channels_of net r) (port_number L) ≡ None → (slot : ℕ) → IsFree (channels_of net r) (port_number L) slot → ⊥
none_free net r is slot free = none-lowest_free (channels_of net r) (port_number L) is slot (free_within (channels_of net r) (port_number L) slot free) free

pub free_place : (net : Network Msg) (r p slot : ℕ) → IsFree (channels_of net r) p slot → HasPlace net r p slot
unfolding slots
free_place net r p slot free = free_within (channels_of net r) p slot free

none_there : (packets : List (Option Msg)) (i : ℕ) → slice_get packets i ≡ Some None → get_or packets i None ≡ None
none_there [] i is = refl
none_there (packet ∷ packets) zero is = cc
none_there (packet ∷ packets) (suc i) is = none_there packets i is

pub free_none : (net : Network Msg) (r p slot : ℕ) → IsFree (channels_of net r) p slot → at net r p slot ≡ None
unfolding at
free_none net r p slot free = none_there (slots_at (channels_of net r) p) slot free

-- ---- weights
pub total-put_free : (w : Msg → ℕ) (net : Network Msg) (r p slot : ℕ) (msg : Msg) → IsFree (channels_of net r) p slot → total w (put net r p slot (Some msg)) ≡ total w net + w msg
total-put_free w net r p slot msg free =
    let f : ℕ → ℕ → ℕ → Msg → ℕ = λ router port slot msg. w msg in
    let change : weigh f (put net r p slot (Some msg)) + 0 ≡ weigh f net + w msg =
    subst (λ (was : Option Msg). weigh f (put net r p slot (Some msg)) + weight w was ≡ weigh f net + w msg) (free_none net r p slot free) (weigh-put f net r p slot (Some msg) (free_place net r p slot free)) in
    omega arith

pub total-take : (w : Msg → ℕ) (net : Network Msg) (r p slot : ℕ) (msg : Msg) → at net r p slot ≡ Some msg → total w (put net r p slot None) + w msg ≡ total w net
total-take w net r p slot msg stands = weigh_at (λ router port slot msg. w msg) net r p slot msg stands

-- ---- the next channel
pub bind_some : {X Y P : Type 0} (f : X → Option Y) (o : Option X) (y : Y) → (o >>= f) ≡ Some y → ((x : X) → o ≡ Some x → f x ≡ Some y → P) → P
bind_some f None y is k = cc
bind_some f (Some x) y is k = k x refl is

abbrev entry_at : Network Msg → Port → ℕ → Option Channel
entry_at net port to = lowest_free (channels_of net to) (port_number port) >>= (λ slot. Some (record { router = to; port = port; slot = slot }))

-- a channel that is free at the port by which the route enters the next router
pub record IsNext (g : Grid) (net : Network Msg) (r : ℕ) (msg : Msg) (next : Channel) : Type 0 where
  pub near : neighbour g r (route g r msg.to) ≡ Some next.router
  pub port_is : next.port ≡ opposite (route g r msg.to)
  pub lowest : lowest_free (channels_of net next.router) (port_number next.port) ≡ Some next.slot

-- the network in which the message has left its channel and stands in the next one
abbrev pub landed : Network Msg → ℕ → ℕ → ℕ → Msg → Channel → Network Msg
landed old r p slot msg next = put (put old r p slot None) next.router (port_number next.port) next.slot (Some msg)

pub next_found : (g : Grid) (net : Network Msg) (r : ℕ) (msg : Msg) (next : Channel) → next_channel g net r msg ≡ Some next → IsNext g net r msg next
unfolding next_channel
next_found g net r msg next is =
    let out = route g r msg.to in
    bind_some (entry_at net (opposite out)) (neighbour g r out) next is (λ to near entry.
    bind_some (λ (slot : ℕ). let channel : Option Channel = Some (record { router = to; port = opposite out; slot = slot }) in channel) (lowest_free (channels_of net to) (port_number (opposite out))) next entry (λ slot lowest made.
    subst (λ (channel : Channel). IsNext g net r msg channel) (some_one (record { router = to; port = opposite out; slot = slot }) next made) (record { near = near; port_is = refl; lowest = lowest })))
  where
    some_one : (a b : Channel) → ◌≡◌ {A = Option Channel} (Some a) (Some b) → a ≡ b
    some_one a b same = cc

pub next_made : (g : Grid) (net : Network Msg) (r : ℕ) (msg : Msg) (out port : Port) (near : Option ℕ) (router slot : ℕ) (free : Option ℕ) → out ≡ route g r msg.to → port ≡ opposite out → near ≡ neighbour g r out → near ≡ Some router
    → free ≡ lowest_free (channels_of net router) (port_number port) → free ≡ Some slot → Some (record { router = router; port = port; slot = slot }) ≡ next_channel g net r msg
unfolding next_channel
next_made g net r msg out port near router slot free outs ports nears is frees found =
    let beside : neighbour g r out ≡ Some router = sym nears ∙ is in
    let lowest : lowest_free (channels_of net router) (port_number port) ≡ Some slot = sym frees ∙ found in
    ap (λ (slot : Option ℕ). slot >>= (λ slot. let channel : Option Channel = Some (record { router = router; port = port; slot = slot }) in channel)) (sym lowest)
    ∙ ap (λ (port : Port). entry_at net port router) ports
    ∙ ap (λ (to : Option ℕ). to >>= entry_at net (opposite out)) (sym beside)
    ∙ ap (λ (out : Port). neighbour g r out >>= entry_at net (opposite out)) outs

pub next_full : (g : Grid) (net : Network Msg) (r : ℕ) (msg : Msg) (out port : Port) (near : Option ℕ) (router : ℕ) (free : Option ℕ) → out ≡ route g r msg.to → port ≡ opposite out → near ≡ neighbour g r out → near ≡ Some router
    → free ≡ lowest_free (channels_of net router) (port_number port) → free ≡ None → None ≡ next_channel g net r msg
unfolding next_channel
next_full g net r msg out port near router free outs ports nears is frees found =
    let beside : neighbour g r out ≡ Some router = sym nears ∙ is in
    let lowest : lowest_free (channels_of net router) (port_number port) ≡ None = sym frees ∙ found in
    ap (λ (slot : Option ℕ). slot >>= (λ slot. let channel : Option Channel = Some (record { router = router; port = port; slot = slot }) in channel)) (sym lowest)
    ∙ ap (λ (port : Port). entry_at net port router) ports
    ∙ ap (λ (to : Option ℕ). to >>= entry_at net (opposite out)) (sym beside)
    ∙ ap (λ (out : Port). neighbour g r out >>= entry_at net (opposite out)) outs

pub next_none : (g : Grid) (net : Network Msg) (r : ℕ) (msg : Msg) (out : Port) (near : Option ℕ) → out ≡ route g r msg.to → near ≡ neighbour g r out → near ≡ None → None ≡ next_channel g net r msg
unfolding next_channel
next_none g net r msg out near outs nears is =
    ap (λ (to : Option ℕ). to >>= entry_at net (opposite out)) (sym is ∙ nears)
    ∙ ap (λ (out : Port). neighbour g r out >>= entry_at net (opposite out)) outs

-- a hop is one nearer, and so goes to another router
pub elsewhere : (g : Grid) (net : Network Msg) (r : ℕ) (msg : Msg) (next : Channel) → ((g : Grid) (dest r n : ℕ) → HasTiles g → neighbour g r (route g r dest) ≡ Some n → distance g r dest ≡ distance g n dest + 1)
    → HasTiles g → IsNext g net r msg next → next.router ≢ r
elsewhere g net r msg next nearer some is same =
    let closer : distance g r msg.to ≡ distance g next.router msg.to + 1 = nearer g msg.to r next.router some is.near in
    let still : distance g r msg.to ≡ distance g r msg.to + 1 = subst (λ (n : ℕ). distance g r msg.to ≡ distance g n msg.to + 1) same closer in
    omega arith

-- ---- the steps, from what a call found

pub sent_into : (net : Network Msg) (r : ℕ) (msg : Msg) (slot : ℕ) → lowest_free (channels_of net r) (port_number L) ≡ Some slot → after_send net r msg ≡ Some (put net r (port_number L) slot (Some msg))
unfolding after_send
sent_into net r msg slot lowest = rw lowest

pub not_sent : (net : Network Msg) (r : ℕ) (msg : Msg) → lowest_free (channels_of net r) (port_number L) ≡ None → after_send net r msg ≡ None
unfolding after_send
not_sent net r msg lowest = rw lowest

pub forwarded_to : (g : Grid) (net : Network Msg) (r : ℕ) (port : Port) (slot : ℕ) (msg : Msg) (next : Channel) → at net r (port_number port) slot ≡ Some msg → next_channel g net r msg ≡ Some next
    → after_data_hop g net r port slot ≡ Some (put (put net r (port_number port) slot None) next.router (port_number next.port) next.slot (Some msg))
unfolding after_data_hop
forwarded_to g net r port slot msg next stands found = rw (stands, found)

pub nothing_there : (g : Grid) (net : Network Msg) (r : ℕ) (port : Port) (slot : ℕ) → at net r (port_number port) slot ≡ None → after_data_hop g net r port slot ≡ None
unfolding after_data_hop
nothing_there g net r port slot stands = rw stands

pub no_next : (g : Grid) (net : Network Msg) (r : ℕ) (port : Port) (slot : ℕ) (msg : Msg) → at net r (port_number port) slot ≡ Some msg → next_channel g net r msg ≡ None → after_data_hop g net r port slot ≡ None
unfolding after_data_hop
no_next g net r port slot msg stands found = rw (stands, found)

pub received_from : (net : Network Msg) (r : ℕ) (port : Port) (slot : ℕ) (msg : Msg) → at net r (port_number port) slot ≡ Some msg → msg.to ≡ r → after_data_eject net r port slot ≡ Some (msg, put net r (port_number port) slot None)
unfolding after_data_eject
received_from net r port slot msg stands here = rw (stands, eq-eqb msg.to r here)

pub nothing_received : (net : Network Msg) (r : ℕ) (port : Port) (slot : ℕ) → at net r (port_number port) slot ≡ None → after_data_eject net r port slot ≡ None
unfolding after_data_eject
nothing_received net r port slot stands = rw stands

pub not_here : (net : Network Msg) (r : ℕ) (port : Port) (slot : ℕ) (msg : Msg) → at net r (port_number port) slot ≡ Some msg → msg.to ≢ r → after_data_eject net r port slot ≡ None
unfolding after_data_eject
not_here net r port slot msg stands other = rw (stands, ne_eqb msg.to r other)

-- ---- what a call reads from the channels of the network
seen : {Y : Type 0} (f : Network Msg → Y) (read net : Network Msg) (answer value : Y) → read ≡ net → answer ≡ f read → answer ≡ value → f net ≡ value
seen f read net answer value same is found = ap f (sym same) ∙ sym is ∙ found

pub seen_at : (read net : Network Msg) (r p slot : ℕ) (answer value : Option Msg) → read ≡ net → answer ≡ at read r p slot → answer ≡ value → at net r p slot ≡ value
seen_at read net r p slot = seen (λ net. at net r p slot) read net

pub seen_free : (read net : Network Msg) (r p : ℕ) (answer value : Option ℕ) → read ≡ net → answer ≡ lowest_free (channels_of read r) p → answer ≡ value → lowest_free (channels_of net r) p ≡ value
seen_free read net r p = seen (λ net. lowest_free (channels_of net r) p) read net

pub seen_next : (g : Grid) (read net : Network Msg) (r : ℕ) (msg : Msg) (answer value : Option Channel) → read ≡ net → answer ≡ next_channel g read r msg → answer ≡ value → next_channel g net r msg ≡ value
seen_next g read net r msg = seen (λ net. next_channel g net r msg) read net

-- ---- whether a step can be made
some_bind : {X Y : Type 0} (o : Option X) (f : X → Y) → is_some (o >>= (λ x. Some (f x))) ≡ is_some o
some_bind None f = refl
some_bind (Some x) f = refl

some_when : {X : Type 0} (guard : Bool) (x : X) → is_some (when guard (Some x)) ≡ guard
some_when true x = refl
some_when false x = refl

pub can_send : (net : Network Msg) (r : ℕ) (msg : Msg) → is_some (lowest_free (channels_of net r) (port_number L)) ≡ is_some (after_send net r msg)
unfolding after_send
can_send net r msg = sym (some_bind (lowest_free (channels_of net r) (port_number L)) (λ slot. put net r (port_number L) slot (Some msg)))

pub can_forward : (g : Grid) (net : Network Msg) (r : ℕ) (port : Port) (slot : ℕ) (msg : Msg) → at net r (port_number port) slot ≡ Some msg → is_some (next_channel g net r msg) ≡ is_some (after_data_hop g net r port slot)
unfolding after_data_hop
can_forward g net r port slot msg stands =
    rw stands (sym (some_bind (next_channel g net r msg) (λ next. put (put net r (port_number port) slot None) next.router (port_number next.port) next.slot (Some msg))))

pub can_receive : (net : Network Msg) (r : ℕ) (port : Port) (slot : ℕ) (msg : Msg) → at net r (port_number port) slot ≡ Some msg → (msg.to == r) ≡ is_some (after_data_eject net r port slot)
unfolding after_data_eject
can_receive net r port slot msg stands = rw stands (sym (some_when {X = Msg × Network Msg} (msg.to == r) (msg, put net r (port_number port) slot None)))
