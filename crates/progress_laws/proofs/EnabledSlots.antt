-- An event that is possible is that of a slot.
use Rattle.std.proofs.Common.{◌≡◌, ◌⊎◌, ℕ, ◌<◌, true, false, [], ◌∷◌, ◌++◌, Option, Some, refl, sym, ◌∙◌, ap, inl, inr, arith}
use Rattle.std.specs.Prelude.{slice_get, is_some, map, Contains}
use Rattle.std.specs.List.{flat_map}
use Rattle.std.proofs.lemmas.Bool.{true≢false}
use Rattle.std.proofs.lemmas.List.Elements.{Contains-append_left, Contains-append_right}
use Rattle.std.proofs.lemmas.Option.{slice_get_within}
use Rattle.mesh_gen.specs.declared.msg.Msg.{Msg}
use Rattle.mesh_gen.specs.declared.port.Port.{Port}
use Rattle.mesh_gen.specs.Ports.{port_number}
use Rattle.mesh_gen.specs.Partial.{◌>>=◌}
use Rattle.order_tracker.specs.Order.{upwards}
use Rattle.vc_bank.specs.Places.{at}
use Rattle.report_text.specs.declared.event.Event.{Event}
use Rattle.report_text.specs.declared.event.Event.TheVariants.{Tick, Core, Inject, Post, Take, Eject, Send, Hop, DataHop, DataEject}
use Rattle.doc_text.specs.Doc.{Doc}
use Rattle.chip_model.specs.Chip.{Chip, chip_of, tile_count}
use Rattle.chip_model.specs.Replies.{after_data_hop, after_data_eject}
use Rattle.chip_model.specs.OrderedNetwork.{after_request_post, after_vector_take, after_copy_hop}
use Rattle.chip_model.specs.Units.{UnitState, Behaviour}
use Rattle.chip_model.specs.ChipState.{ChipState, finished}
use Rattle.chip_model.specs.Events.{step, unit_at}
use Rattle.chip_model.specs.Schedules.{ports, router_hops, reply_events, tile_slots, slots}
use Rattle.chip_model.specs.Runs.{enabled}
use Rattle.chip_model.specs.BehaviourLaws.{KeepsLaws}
use Rattle.chip_model.specs.ChipInvariant.{ProtocolHolds}
use Rattle.chip_laws.specs.DocFits.{DocFits}
use Rattle.chip_laws.specs.Meetings.{UnitsFit}
use Rattle.progress_laws.specs.Possible.{SomeIsEnabled}
use Rattle.progress_laws.proofs.NeverStuck.{never_stuck}
use Rattle.flow_laws.proofs.RequestSlots.{contains_first, contains_map, contains_flat, has_number, has_port, tile_slot, own_slot, hop_slot, binds, is_poster, is_taker, is_hop, slot_below}
use Rattle.flow_laws.proofs.MessageMoves.{reply_slots, router_inside}

-- ---- the slots of replies
reply_in : (chip : Chip) (event : Port → ℕ → Event) (port : Port) (slot : ℕ) → slot < chip.data_vcs → Contains (reply_events chip event) (event port slot)
reply_in chip event port slot below =
    contains_flat (λ (port : Port). map (event port) (upwards 0 chip.data_vcs)) ports port (event port slot) (has_port port)
    (contains_map (event port) (upwards 0 chip.data_vcs) slot (has_number chip.data_vcs slot below).place (has_number chip.data_vcs slot below).there)

reply_slot : (chip : Chip) (r : ℕ) (event : Event) → r < tile_count chip → Contains (reply_events chip (DataHop r)) event ⊎ Contains (reply_events chip (DataEject r)) event
    → Contains (slots chip) event
reply_slot chip r event inside either =
    tile_slot chip r event inside
    (Contains-append_right (Core r ∷ Inject r ∷ Post r ∷ Take r ∷ Eject r ∷ Send r ∷ []) (router_hops chip r ++ reply_events chip (DataHop r) ++ reply_events chip (DataEject r)) event
    (by either))
  where
    by : Contains (reply_events chip (DataHop r)) event ⊎ Contains (reply_events chip (DataEject r)) event
        → Contains (router_hops chip r ++ reply_events chip (DataHop r) ++ reply_events chip (DataEject r)) event
    by (inl hops) =
        Contains-append_left (router_hops chip r ++ reply_events chip (DataHop r)) (reply_events chip (DataEject r)) event
        (Contains-append_right (router_hops chip r) (reply_events chip (DataHop r)) event hops)
    by (inr comes) = Contains-append_right (router_hops chip r ++ reply_events chip (DataHop r)) (reply_events chip (DataEject r)) event comes

-- ---- the tile of a possible event
is_unit : {Y : Type 0} (d : Doc) (s : ChipState) (t : ℕ) (f : UnitState → Option Y) → ProtocolHolds d s → is_some (slice_get s.units t >>= f) ≡ true → t < tile_count (chip_of d)
is_unit d s t f holds some = let unit = binds (slice_get s.units t) f some in omega (arith, slice_get_within s.units t unit.value unit.is, holds.units)

message_slot : (d : Doc) (s : ChipState) (r : ℕ) (port : Port) (slot : ℕ) (msg : Msg) → ProtocolHolds d s → at s.replies r (port_number port) slot ≡ Some msg
    → (r < tile_count (chip_of d)) × (slot < d.data_vcs)
message_slot d s r port slot msg holds stands = (
  router_inside (chip_of d).grid d.data_vcs false s.replies r (port_number port) slot msg holds.network.replies stands,
  (let below = slot_below (chip_of d).grid d.data_vcs false s.replies r (port_number port) slot msg holds.network.replies stands in omega (arith, below, reply_slots Msg d.data_vcs port)),
)

pub enabled_slot : (b : Behaviour) (d : Doc) (s : ChipState) → ProtocolHolds d s → (event : Event) → enabled b (chip_of d) s event ≡ true → Contains (slots (chip_of d)) event
unfolding enabled step unit_at after_data_hop after_data_eject slots
enabled_slot b d s holds Tick some = contains_first Tick (flat_map (tile_slots (chip_of d)) (upwards 0 (tile_count (chip_of d))))
enabled_slot b d s holds (Core t) some = own_slot (chip_of d) t (Core t) (is_unit d s t _ holds some) (0, omega arith, refl)
enabled_slot b d s holds (Inject t) some = own_slot (chip_of d) t (Inject t) (is_unit d s t _ holds some) (1, omega arith, refl)
enabled_slot b d s holds (Post t) some =
    let posts = binds (after_request_post s.network t) _ some in
    own_slot (chip_of d) t (Post t) (is_poster (chip_of d) s.network t holds.network.requests.interfaces (ap is_some posts.is)) (2, omega arith, refl)
enabled_slot b d s holds (Take t) some =
    let takes = binds (after_vector_take s.network t) _ some in
    own_slot (chip_of d) t (Take t) (is_taker (chip_of d) s.network t holds.network.requests.windows.tiles (ap is_some takes.is)) (3, omega arith, refl)
enabled_slot b d s holds (Eject t) some = own_slot (chip_of d) t (Eject t) (is_unit d s t _ holds some) (4, omega arith, refl)
enabled_slot b d s holds (Send t) some = own_slot (chip_of d) t (Send t) (is_unit d s t _ holds some) (5, omega arith, refl)
enabled_slot b d s holds (Hop r port slot out) some =
    let network = binds (after_copy_hop (chip_of d) s.network r port slot out) _ some in
    let hop = is_hop (chip_of d) s.network r port slot out (ap is_some network.is) in
    hop_slot (chip_of d) r port slot out (router_inside (chip_of d).grid d.vcs true s.network.copies r (port_number port) slot hop.copy holds.network.requests.channels hop.stands) hop.side
    (slot_below (chip_of d).grid d.vcs true s.network.copies r (port_number port) slot hop.copy holds.network.requests.channels hop.stands)
enabled_slot b d s holds (DataHop r port slot) some =
    let replies = binds (after_data_hop (chip_of d).grid s.replies r port slot) _ some in
    let msg = binds (at s.replies r (port_number port) slot) _ (ap is_some replies.is) in
    let there = message_slot d s r port slot msg.value holds msg.is in
    reply_slot (chip_of d) r (DataHop r port slot) there.0 (inl (reply_in (chip_of d) (DataHop r) port slot there.1))
enabled_slot b d s holds (DataEject r port slot) some =
    let out = binds (after_data_eject s.replies r port slot) _ some in
    let msg = binds (at s.replies r (port_number port) slot) _ (ap is_some out.is) in
    let there = message_slot d s r port slot msg.value holds msg.is in
    reply_slot (chip_of d) r (DataEject r port slot) there.0 (inr (reply_in (chip_of d) (DataEject r) port slot there.1))

-- so where no slot is possible the chip is finished
pub swept_finished : (b : Behaviour) (laws : KeepsLaws b) (d : Doc) (s : ChipState) → DocFits d → ProtocolHolds d s → UnitsFit b laws s
    → ((event : Event) → Contains (slots (chip_of d)) event → enabled b (chip_of d) s event ≡ false) → finished s ≡ true
swept_finished b laws d s fits holds fit none = by (never_stuck b laws d s fits holds fit)
  where
    by : (finished s ≡ true) ⊎ SomeIsEnabled b (chip_of d) s → finished s ≡ true
    by (inl ends) = ends
    by (inr some) = absurd (true≢false (sym some.possible ∙ none some.event (enabled_slot b d s holds some.event some.possible)))
