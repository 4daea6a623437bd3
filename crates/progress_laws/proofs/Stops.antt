-- Where the chip is finished no event is possible.
use Rattle.std.proofs.Common.{◌≡◌, ◌⊎◌, ℕ, ◌+◌, ◌≤◌, Bool, true, false, cond, Option, Some, None, List, length, refl, sym, ◌∙◌, ap, inl, inr, arith}
use Rattle.std.specs.Prelude.{slice_get, is_some}
use Rattle.std.proofs.lemmas.Bool.{cases_Bool, le-ltb, false_from_ne_true}
use Rattle.std.proofs.lemmas.Option.{slice_get_past}
use Rattle.mesh_gen.specs.declared.msg.Msg.{Msg}
use Rattle.mesh_gen.specs.declared.request.Request.{Request}
use Rattle.mesh_gen.specs.Ports.{port_number}
use Rattle.mesh_gen.specs.TileSet.{has_tile}
use Rattle.mesh_gen.proofs.TileSets.{same_sets, has_tile-none}
use Rattle.order_tracker.proofs.Priorities.{has_tile-below}
use Rattle.vc_bank.specs.Places.{at}
use Rattle.report_text.specs.declared.event.Event.{Event}
use Rattle.report_text.specs.declared.event.Event.TheVariants.{Tick, Core, Inject, Post, Take, Eject, Send, Hop, DataHop, DataEject}
use Rattle.doc_text.specs.Doc.{Doc}
use Rattle.mesh_gen.specs.Partial.{◌>>=◌}
use Rattle.chip_model.specs.Chip.{Chip, chip_of, tile_count}
use Rattle.chip_model.specs.Windows.{Windows, after_tick, after_take}
use Rattle.chip_model.specs.Copies.{Name, local_place}
use Rattle.chip_model.specs.Replies.{after_data_hop, after_data_eject}
use Rattle.chip_model.specs.OrderedNetwork.{OrderedNetwork, Interface, after_network_tick, after_request_post, after_vector_take, after_copy_hop, after_delivery, expected_at, expected_at_next_hop}
use Rattle.chip_model.specs.NetworkFits.{NetworkFits}
use Rattle.chip_model.specs.Misses.{wanted}
use Rattle.chip_model.specs.Units.{UnitState, Behaviour}
use Rattle.chip_model.specs.ChipState.{ChipState, finished}
use Rattle.chip_model.specs.Events.{step, unit_at}
use Rattle.chip_model.specs.Runs.{enabled}
use Rattle.chip_model.specs.BehaviourLaws.{KeepsLaws}
use Rattle.chip_model.specs.Bookkeeping.{count_by_tile}
use Rattle.chip_model.specs.ChipInvariant.{ProtocolHolds}
use Rattle.router_xy.specs.LocalCopies.{HasLocalCopy}
use Rattle.router_xy.proofs.LocalPlaces.{local_found}
use Rattle.router_xy.proofs.Steps.{no_copy}
use Rattle.net_iface.proofs.Places.{item_at}
use Rattle.net_iface.proofs.Steps.{after_network_tick-none, after_request_post-no_tile, after_request_post-all, after_vector_take-none, after_copy_hop-none}
use Rattle.net_iface.proofs.Steps.{after_delivery-unknown, after_delivery-absent}
use Rattle.chip_laws.specs.DocFits.{DocFits}
use Rattle.chip_laws.proofs.OrderFrames.{holds_at}
use Rattle.flow_laws.specs.NetworkMoves.{NetworkRests}
use Rattle.chip_laws.specs.DoneUnits.{IsDone}
use Rattle.progress_laws.specs.Over.{IsOver}
use Rattle.progress_laws.proofs.FinishedStates.{finished_over}

-- ---- no tick, no post and no take
posted_none : (net : OrderedNetwork) (t : ℕ) (interface : Interface) → interface.posted ≡ count_by_tile t net.ordered + cond (has_tile net.windows.posts t) 1 0
    → interface.posted ≤ length interface.made
    → length interface.made ≡ count_by_tile t net.ordered → has_tile net.windows.posts t ≡ false
posted_none net t interface posted within all = by (has_tile net.windows.posts t) posted
  where
    by : (b : Bool) → interface.posted ≡ count_by_tile t net.ordered + cond b 1 0 → b ≡ false
    by true is = absurd (omega arith)
    by false is = refl

no_posts : (chip : Chip) (net : OrderedNetwork) → NetworkFits chip net → NetworkRests net → net.windows.posts ≡ 0
no_posts chip net fits rest = same_sets net.windows.posts 0 (λ t. by t (cases_Bool (has_tile net.windows.posts t)) ∙ sym (has_tile-none t))
  where
    by : (t : ℕ) → (has_tile net.windows.posts t ≡ true) ⊎ (has_tile net.windows.posts t ≡ false) → has_tile net.windows.posts t ≡ false
    by t (inl has) =
        let inside = has_tile-below (tile_count chip) net.windows.posts t fits.windows.posts has in
        let interface = item_at net.interfaces t (omega (arith, fits.interfaces)) in
        let agrees = fits.agree t interface.item interface.there in
        posted_none net t interface.item agrees.posted agrees.posted_made (rest.ordered t interface.item interface.there)
    by t (inr none) = none

no_tick : (ticks : ℕ) (w : Windows) → w.posts ≡ 0 → after_tick ticks w ≡ None
unfolding after_tick
no_tick ticks w none = rw (le-ltb 0 w.posts (omega arith)) refl

none_each : {X Y : Type 0} (o : Option X) (f : X → Option Y) → ((x : X) → o ≡ Some x → f x ≡ None) → (o >>= f) ≡ None
none_each None f each = refl
none_each (Some x) f each = each x refl

none_first : {X Y : Type 0} (o : Option X) (f : X → Option Y) → o ≡ None → (o >>= f) ≡ None
none_first o f none = rw none refl

no_take : (w : Windows) (t : ℕ) → ((count : ℕ) → slice_get w.taken t ≡ Some count → count ≡ length w.closed) → after_take w t ≡ None
unfolding after_take
no_take w t all = none_each (slice_get w.taken t) _ (λ count there. none_first (slice_get w.closed count) _ (slice_get_past w.closed count (omega (arith, all count there))))

no_post : (chip : Chip) (net : OrderedNetwork) (t : ℕ) → NetworkFits chip net → NetworkRests net → after_request_post net t ≡ None
no_post chip net t fits rest = by (slice_get net.interfaces t) refl
  where
    by : (found : Option Interface) → slice_get net.interfaces t ≡ found → after_request_post net t ≡ None
    by None is = after_request_post-no_tile net t is
    by (Some interface) is =
        after_request_post-all net t interface is (le-ltb interface.posted (length interface.made) (omega (arith, (fits.agree t interface is).posted, rest.ordered t interface is)))

-- ---- no delivery
no_local : (net : OrderedNetwork) (t : ℕ) (name : Name) → NetworkRests net → is_some (local_place net.copies t name) ≡ false
no_local net t name rest = false_from_ne_true (is_some (local_place net.copies t name)) (λ is. nothing ((local_found net.copies t name).0 is))
  where
    nothing : HasLocalCopy net.copies t name → ⊥
    nothing has = let none = rest.copies t has.port has.slot in let stands = has.stands in cc

no_delivery : (chip : Chip) (net : OrderedNetwork) (t : ℕ) (interface : Interface) → slice_get net.interfaces t ≡ Some interface → NetworkRests net → after_delivery chip net t ≡ None
no_delivery chip net t interface there rest = by (expected_at chip net t) refl
  where
    by : (found : Option Name) → expected_at chip net t ≡ found → after_delivery chip net t ≡ None
    by None is = after_delivery-unknown chip net t is
    by (Some name) is = after_delivery-absent chip net t interface name there is (no_local net t name rest)

none_wanted : (ordered : List Request) (unit : UnitState) → IsDone ordered unit → wanted unit.node.side.misses ≡ None
unfolding wanted
none_wanted ordered unit done = rw (done.demand, done.back) refl

-- ---- no event
no_step : (b : Behaviour) (laws : KeepsLaws b) (d : Doc) (s : ChipState) → ProtocolHolds d s → IsOver s → (event : Event) → step b (chip_of d) s event ≡ None
unfolding step unit_at after_data_hop after_data_eject
no_step b laws d s holds is Tick =
    none_first (after_network_tick (chip_of d) s.network) _
    (after_network_tick-none (chip_of d) s.network (no_tick d.window s.network.windows (no_posts (chip_of d) s.network holds.network.requests is.requests)))
no_step b laws d s holds is (Core t) = none_each (slice_get s.units t) _ (λ unit there. rw (laws.halted unit (is.units t unit there).halted) refl)
no_step b laws d s holds is (Inject t) = none_each (slice_get s.units t) _ (λ unit there. none_first (wanted unit.node.side.misses) _ (none_wanted s.network.ordered unit (is.units t unit there)))
no_step b laws d s holds is (Post t) = none_first (after_request_post s.network t) _ (no_post (chip_of d) s.network t holds.network.requests is.requests)
no_step b laws d s holds is (Take t) =
    none_first (after_vector_take s.network t) _ (after_vector_take-none s.network t (no_take s.network.windows t (λ count there. is.requests.all.taken t count there)))
no_step b laws d s holds is (Eject t) =
    none_each (slice_get s.units t) _ (λ unit there.
    let here = holds_at d s holds t unit there in
    none_first (after_delivery (chip_of d) s.network t) _ (no_delivery (chip_of d) s.network t here.interface here.at is.requests))
no_step b laws d s holds is (Send t) =
    none_each (slice_get s.units t) _ (λ unit there. none_first (slice_get unit.node.out 0) _ (ap (λ (out : List Msg). slice_get out 0) (is.units t unit there).out))
no_step b laws d s holds is (Hop r port slot out) =
    none_first (after_copy_hop (chip_of d) s.network r port slot out) _
    (after_copy_hop-none (chip_of d) s.network r port slot out (expected_at_next_hop (chip_of d) s.network r out) refl
    (no_copy (chip_of d).grid s.network.copies r port slot out (expected_at_next_hop (chip_of d) s.network r out) (is.requests.copies r (port_number port) slot)))
no_step b laws d s holds is (DataHop r port slot) =
    none_first (after_data_hop (chip_of d).grid s.replies r port slot) _ (none_first (at s.replies r (port_number port) slot) _ (is.replies r (port_number port) slot))
no_step b laws d s holds is (DataEject r port slot) =
    none_first (after_data_eject s.replies r port slot) _ (none_first (at s.replies r (port_number port) slot) _ (is.replies r (port_number port) slot))

pub stops : (b : Behaviour) (laws : KeepsLaws b) (d : Doc) (s : ChipState) → DocFits d → ProtocolHolds d s → finished s ≡ true → (event : Event) → enabled b (chip_of d) s event ≡ false
unfolding enabled
stops b laws d s fits holds ends event = ap is_some (no_step b laws d s holds (finished_over d s fits holds ends) event)
