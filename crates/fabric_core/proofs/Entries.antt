-- Entries are valid: what an event names is on the chip.
use Rattle.std.proofs.Common.{◌≡◌, ◌≢◌, ℕ, ◌<◌, ◌≤◌, Bool, true, false, length, subst, ap, arith, Option, Some, None}
use Rattle.std.specs.Prelude.{slice_get}
use Rattle.std.proofs.lemmas.Option.{slice_get_within, option_and_then_some}
use Rattle.mesh_gen.specs.declared.msg.Msg.{Msg}
use Rattle.mesh_gen.specs.declared.port.Port.{Port}
use Rattle.mesh_gen.specs.declared.port.Port.TheVariants.{L}
use Rattle.mesh_gen.specs.declared.request.Request.{Request}
use Rattle.mesh_gen.specs.Grid.{Grid, neighbour}
use Rattle.mesh_gen.specs.Ports.{port_number, opposite}
use Rattle.vc_bank.specs.Channels.{lowest_free}
use Rattle.vc_bank.specs.Places.{Network, at, put, HasPlace}
use Rattle.vc_bank.proofs.PlaceLaws.{place_of}
use Rattle.report_text.specs.declared.event.Event.{Event}
use Rattle.report_text.specs.declared.event.Event.TheVariants.{Tick, Core, Inject, Post, Take, Eject, Send, Hop, DataHop, DataEject}
use Rattle.report_text.specs.Entry.{IsValid}
use Rattle.report_text.specs.Events.{IsWithinLimits}
use Rattle.chip_model.specs.declared.net_copy.NetCopy.{NetCopy}
use Rattle.chip_model.specs.Partial.{when, ◌>>=◌}
use Rattle.chip_model.specs.Windows.{Windows, after_take}
use Rattle.chip_model.specs.Copies.{Name, channels_of, owes, entry_slot, expects, left_by, arriving, after_hop}
use Rattle.chip_model.specs.OrderedNetwork.{OrderedNetwork, after_request_post, after_vector_take, after_copy_hop, after_delivery}
use Rattle.chip_model.specs.Replies.{after_send, next_channel, after_data_hop, after_data_eject}
use Rattle.net_iface.proofs.StepParts.{request_posted, vector_taken, copy_moved, request_delivered}
use Rattle.reply_net.proofs.Steps.{free_found, free_place}
use Rattle.reply_net.proofs.Accounts.{received_is}
use Rattle.fabric_core.specs.declared.made.Made.{Made}
use Rattle.fabric_core.specs.Fabric.{FabricState, MayNote}
use Rattle.fabric_core.specs.Parts.{NetworksFit}
use Rattle.fabric_core.proofs.Channels.{router_there, slot_few}

abbrev Valid : Made → Event → Type 0
Valid who event = IsValid (record { by = who.by; cores = who.cores; event = event })

entry_valid : (f : FabricState) (who : Made) (event : Event) → MayNote who f → NetworksFit f → IsWithinLimits event → Valid who event
entry_valid f who event may fit within = record { tile = omega (arith, may.by, fit.few); cores = may.cores; event = within }

-- ---- the ordered network

pub inject_valid : (f : FabricState) (who : Made) → MayNote who f → NetworksFit f → Valid who (Inject who.by)
inject_valid f who may fit = entry_valid f who (Inject who.by) may fit (omega (arith, may.by, fit.few))

pub tick_valid : (f : FabricState) (who : Made) → MayNote who f → NetworksFit f → Valid who Tick
tick_valid f who may fit = entry_valid f who Tick may fit tt

pub core_valid : (f : FabricState) (who : Made) → MayNote who f → NetworksFit f → Valid who (Core who.by)
core_valid f who may fit = entry_valid f who (Core who.by) may fit (omega (arith, may.by, fit.few))

pub post_valid : (f : FabricState) (who : Made) (t : ℕ) (new : OrderedNetwork) → MayNote who f → NetworksFit f → after_request_post f.network t ≡ Some new → Valid who (Post t)
post_valid f who t new may fit is =
    let posted = request_posted f.network new t is in
    entry_valid f who (Post t) may fit (omega (arith, slice_get_within f.network.interfaces t posted.was posted.sets.there, fit.network.interfaces, fit.few))

taken_within : (w new : Windows) (t : ℕ) → after_take w t ≡ Some new → t < length w.taken
unfolding after_take
taken_within w new t is = option_and_then_some (λ count. slice_get w.closed count >>= _) (slice_get w.taken t) new is (λ count there rest. slice_get_within w.taken t count there)

pub take_valid : (f : FabricState) (who : Made) (t : ℕ) (new : OrderedNetwork) → MayNote who f → NetworksFit f → after_vector_take f.network t ≡ Some new → Valid who (Take t)
take_valid f who t new may fit is =
    entry_valid f who (Take t) may fit (omega (arith, taken_within f.network.windows new.windows t (vector_taken f.network new t is).takes, fit.network.windows.tiles, fit.few))

pub eject_valid : (f : FabricState) (who : Made) (t : ℕ) (q : Request) (new : OrderedNetwork) → MayNote who f → NetworksFit f → after_delivery f.chip f.network t ≡ Some (q, new) → Valid who (Eject t)
eject_valid f who t q new may fit is =
    let delivered = request_delivered f.chip f.network new t q is in
    entry_valid f who (Eject t) may fit (omega (arith, slice_get_within f.network.interfaces t delivered.was delivered.sets.there, fit.network.interfaces, fit.few))

none_when : {X Y : Type 0} (b : Bool) (f : X → Option Y) (y : Y) → when b (None >>= f) ≡ Some y → ⊥
none_when true f y is = cc
none_when false f y is = cc

-- a copy that hops stands in a channel, and does not leave by the port of the router's own tile
hop_from : (g : Grid) (net new : Network NetCopy) (r : ℕ) (port : Port) (slot : ℕ) (out : Port) (expected : Option Name) → after_hop g net r port slot out expected ≡ Some new → HasPlace net r (port_number port) slot × (out ≢ L)
unfolding after_hop
hop_from g net new r port slot out expected is =
    option_and_then_some (λ copy. when (owes copy out) (neighbour g r out >>= goes copy)) (at net r (port_number port) slot) new is (λ copy stands rest.
    (place_of net r (port_number port) slot copy stands, λ local. none_when (owes copy out) (goes copy) new (subst (λ (near : Option ℕ). when (owes copy out) (near >>= goes copy) ≡ Some new) (ap (neighbour g r) local) rest)))
  where
    goes : NetCopy → ℕ → Option (Network NetCopy)
    goes copy to = entry_slot (channels_of net to) (opposite out) (expects expected copy.request) >>= (λ entry.
        Some (put (put net r (port_number port) slot (left_by out copy)) to (port_number (opposite out)) entry (Some (arriving g to copy.request))))

pub hop_valid : (f : FabricState) (who : Made) (r : ℕ) (port : Port) (slot : ℕ) (out : Port) (new : OrderedNetwork) → MayNote who f → NetworksFit f → after_copy_hop f.chip f.network r port slot out ≡ Some new → Valid who (Hop r port slot out)
hop_valid f who r port slot out new may fit is =
    let from = hop_from f.chip.grid f.network.copies new.copies r port slot out _ (copy_moved f.chip f.network new r port slot out is).hops in
    let within = router_there f.network.copies r (port_number port) slot from.0 in
    let few = slot_few f.chip.grid f.chip.vcs true f.network.copies r (port_number port) slot fit.network.channels from.0 in
    entry_valid f who (Hop r port slot out) may fit (omega (arith, within, fit.network.channels.routers, fit.few), omega (arith, few, fit.vcs), from.1)

-- ---- the replies

pub send_valid : (f : FabricState) (who : Made) (r : ℕ) (msg : Msg) (new : Network Msg) → MayNote who f → NetworksFit f → after_send f.replies r msg ≡ Some new → Valid who (Send r)
unfolding after_send
send_valid f who r msg new may fit is =
    option_and_then_some (λ slot. Some (put f.replies r (port_number L) slot (Some msg))) (lowest_free (channels_of f.replies r) (port_number L)) new is (λ slot lowest done.
    let within = router_there f.replies r (port_number L) slot (free_place f.replies r (port_number L) slot (free_found f.replies r (port_number L) slot lowest)) in
    entry_valid f who (Send r) may fit (omega (arith, within, fit.replies.routers, fit.few)))

reply_place : (f : FabricState) (r : ℕ) (port : Port) (slot : ℕ) (msg : Msg) → NetworksFit f → at f.replies r (port_number port) slot ≡ Some msg → (r ≤ 63) × (slot ≤ 15)
reply_place f r port slot msg fit stands =
    let place = place_of f.replies r (port_number port) slot msg stands in
    let within = router_there f.replies r (port_number port) slot place in
    let few = slot_few f.chip.grid f.chip.data_vcs false f.replies r (port_number port) slot fit.replies place in
    (omega (arith, within, fit.replies.routers, fit.few), omega (arith, few, fit.data_vcs))

pub data_hop_valid : (f : FabricState) (who : Made) (r : ℕ) (port : Port) (slot : ℕ) (new : Network Msg) → MayNote who f → NetworksFit f → after_data_hop f.chip.grid f.replies r port slot ≡ Some new → Valid who (DataHop r port slot)
unfolding after_data_hop
data_hop_valid f who r port slot new may fit is =
    option_and_then_some (λ msg. next_channel f.chip.grid f.replies r msg >>= _) (at f.replies r (port_number port) slot) new is (λ msg stands rest.
    entry_valid f who (DataHop r port slot) may fit (reply_place f r port slot msg fit stands))

pub data_eject_valid : (f : FabricState) (who : Made) (r : ℕ) (port : Port) (slot : ℕ) (msg : Msg) (new : Network Msg) → MayNote who f → NetworksFit f → after_data_eject f.replies r port slot ≡ Some (msg, new) → Valid who (DataEject r port slot)
data_eject_valid f who r port slot msg new may fit is =
    entry_valid f who (DataEject r port slot) may fit (reply_place f r port slot msg fit (received_is f.replies r port slot (msg, new) is).stood)
