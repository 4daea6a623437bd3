-- What each event does to the parts of a chip.
use Rattle.std.proofs.Common.{◌≡◌, ℕ, ◌+◌, Option, Some, slice_get, refl, subst}
use Rattle.std.proofs.lemmas.Option.{same_Some}
use Rattle.mesh_gen.specs.declared.msg.Msg.{Msg}
use Rattle.mesh_gen.specs.declared.port.Port.{Port}
use Rattle.vc_bank.specs.Places.{Network}
use Rattle.report_text.specs.declared.event.Event.{Event}
use Rattle.report_text.specs.declared.event.Event.TheVariants.{Tick, Core, Inject, Post, Take, Eject, Send, Hop, DataHop, DataEject}
use Rattle.chip_model.specs.Partial.{when, ◌>>=◌}
use Rattle.chip_model.specs.Chip.{Chip}
use Rattle.chip_model.specs.Misses.{wanted}
use Rattle.chip_model.specs.OrderedNetwork.{OrderedNetwork, after_inject, after_request_post, after_network_tick, after_vector_take, after_copy_hop, after_delivery}
use Rattle.chip_model.specs.Replies.{after_send, after_data_hop, after_data_eject}
use Rattle.chip_model.specs.Node.{after_request_sent, after_message_sent}
use Rattle.chip_model.specs.Units.{Behaviour}
use Rattle.chip_model.specs.ChipState.{ChipState}
use Rattle.chip_model.specs.Events.{with_node, with_acted, with_network, unit_at, core, inject, eject, send, hop, data_hop, data_eject, step}
use Rattle.chip_model.specs.Runs.{noted, after}
use Rattle.chip_laws.specs.EventSteps.{ChangesNetwork, ChangesReplies, CoreWorks, RequestEnters, RequestComes, MessageEnters, MessageComes, EventDoes}
use Rattle.chip_laws.proofs.Options.{bind, when_some}

network_changed : (network_step : Option OrderedNetwork) (s new : ChipState) → (network_step >>= λ network. Some (with_network network s)) ≡ Some new → ChangesNetwork network_step s new
network_changed network_step s new e =
    bind network_step (λ network. Some (with_network network s)) new e (λ network is done.
    subst (λ (x : ChipState). ChangesNetwork network_step s x) (same_Some (with_network network s) new done)
    (record { network = is; replies = refl; units = refl; accesses = refl }))

hop_does : (chip : Chip) (s new : ChipState) (r : ℕ) (port : Port) (slot : ℕ) (out : Port) → hop chip s r port slot out ≡ Some new → ChangesNetwork (after_copy_hop chip s.network r port slot out) s new
hop_does chip s new r port slot out e =
    let hopped : OrderedNetwork → ChipState = λ (network : OrderedNetwork). record s { network = network; hops = s.hops + 1 } in
    bind (after_copy_hop chip s.network r port slot out) (λ network. Some (hopped network)) new e (λ network is done.
    subst (λ (x : ChipState). ChangesNetwork (after_copy_hop chip s.network r port slot out) s x) (same_Some (hopped network) new done)
    (record { network = is; replies = refl; units = refl; accesses = refl }))

data_hop_does : (chip : Chip) (s new : ChipState) (r : ℕ) (port : Port) (slot : ℕ) → data_hop chip s r port slot ≡ Some new → ChangesReplies (after_data_hop chip.grid s.replies r port slot) s new
data_hop_does chip s new r port slot e =
    let hopped : Network Msg → ChipState = λ (replies : Network Msg). record s { replies = replies } in
    bind (after_data_hop chip.grid s.replies r port slot) (λ replies. Some (hopped replies)) new e (λ replies is done.
    subst (λ (x : ChipState). ChangesReplies (after_data_hop chip.grid s.replies r port slot) s x) (same_Some (hopped replies) new done)
    (record { replies = is; network = refl; units = refl; accesses = refl }))

core_does : (b : Behaviour) (s new : ChipState) (t : ℕ) → core b s t ≡ Some new → CoreWorks b s new t
unfolding unit_at
core_does b s new t e =
    bind (slice_get s.units t) (λ unit. when (b.ready unit) (Some (with_acted t (b.stepped unit) s))) new e (λ unit at works.
    when_some (b.ready unit) (Some (with_acted t (b.stepped unit) s)) new works (λ ready done.
    subst (λ (x : ChipState). CoreWorks b s x t) (same_Some (with_acted t (b.stepped unit) s) new done)
    (record { unit = unit; ready = ready; changes = record { at = at; units = refl }; accesses = refl; network = refl; replies = refl })))

inject_does : (chip : Chip) (s new : ChipState) (t : ℕ) → inject chip s t ≡ Some new → RequestEnters chip s new t
unfolding unit_at
inject_does chip s new t e =
    bind (slice_get s.units t) (λ unit. wanted unit.node.side.misses >>= λ asked. after_inject chip s.network t asked.0 asked.1 >>= λ network. Some (with_node t unit (after_request_sent unit.node) (with_network network s))) new e (λ unit at e1.
    bind (wanted unit.node.side.misses) (λ asked. after_inject chip s.network t asked.0 asked.1 >>= λ network. Some (with_node t unit (after_request_sent unit.node) (with_network network s))) new e1 (λ asked wants e2.
    bind (after_inject chip s.network t asked.0 asked.1) (λ network. Some (with_node t unit (after_request_sent unit.node) (with_network network s))) new e2 (λ network is done.
    subst (λ (x : ChipState). RequestEnters chip s x t) (same_Some (with_node t unit (after_request_sent unit.node) (with_network network s)) new done)
    (record { unit = unit; kind = asked.0; line = asked.1; wants = wants; network = is; changes = record { at = at; units = refl }; replies = refl; accesses = refl }))))

eject_does : (b : Behaviour) (chip : Chip) (s new : ChipState) (t : ℕ) → eject b chip s t ≡ Some new → RequestComes b chip s new t
unfolding unit_at
eject_does b chip s new t e =
    bind (slice_get s.units t) (λ unit. after_delivery chip s.network t >>= λ out. Some (with_acted t (b.delivered out.0 unit) (with_network out.1 s))) new e (λ unit at e1.
    bind (after_delivery chip s.network t) (λ out. Some (with_acted t (b.delivered out.0 unit) (with_network out.1 s))) new e1 (λ out is done.
    subst (λ (x : ChipState). RequestComes b chip s x t) (same_Some (with_acted t (b.delivered out.0 unit) (with_network out.1 s)) new done)
    (record { unit = unit; request = out.0; network = is; changes = record { at = at; units = refl }; accesses = refl; replies = refl })))

send_does : (s new : ChipState) (t : ℕ) → send s t ≡ Some new → MessageEnters s new t
unfolding unit_at
send_does s new t e =
    bind (slice_get s.units t) (λ unit. slice_get unit.node.out 0 >>= λ msg. after_send s.replies t msg >>= λ replies. Some (with_node t unit (after_message_sent unit.node) (record s { replies = replies }))) new e (λ unit at e1.
    bind (slice_get unit.node.out 0) (λ msg. after_send s.replies t msg >>= λ replies. Some (with_node t unit (after_message_sent unit.node) (record s { replies = replies }))) new e1 (λ msg first e2.
    bind (after_send s.replies t msg) (λ replies. Some (with_node t unit (after_message_sent unit.node) (record s { replies = replies }))) new e2 (λ replies is done.
    subst (λ (x : ChipState). MessageEnters s x t) (same_Some (with_node t unit (after_message_sent unit.node) (record s { replies = replies })) new done)
    (record { unit = unit; msg = msg; first = first; replies = is; changes = record { at = at; units = refl }; network = refl; accesses = refl }))))

data_eject_does : (b : Behaviour) (s new : ChipState) (t : ℕ) (port : Port) (slot : ℕ) → data_eject b s t port slot ≡ Some new → MessageComes b s new t port slot
unfolding unit_at
data_eject_does b s new t port slot e =
    bind (after_data_eject s.replies t port slot) (λ out. slice_get s.units t >>= λ unit. Some (with_acted t (b.received out.0 unit) (record s { replies = out.1 }))) new e (λ out is e1.
    bind (slice_get s.units t) (λ unit. Some (with_acted t (b.received out.0 unit) (record s { replies = out.1 }))) new e1 (λ unit at done.
    subst (λ (x : ChipState). MessageComes b s x t port slot) (same_Some (with_acted t (b.received out.0 unit) (record s { replies = out.1 })) new done)
    (record { unit = unit; msg = out.0; replies = is; changes = record { at = at; units = refl }; accesses = refl; network = refl })))

-- what an event did
pub event_does : (b : Behaviour) (chip : Chip) (s new : ChipState) (event : Event) → step b chip s event ≡ Some new → EventDoes b chip s new event
unfolding step
event_does b chip s new Tick e = network_changed (after_network_tick chip s.network) s new e
event_does b chip s new (Core t) e = core_does b s new t e
event_does b chip s new (Inject t) e = inject_does chip s new t e
event_does b chip s new (Post t) e = network_changed (after_request_post s.network t) s new e
event_does b chip s new (Take t) e = network_changed (after_vector_take s.network t) s new e
event_does b chip s new (Eject t) e = eject_does b chip s new t e
event_does b chip s new (Send t) e = send_does s new t e
event_does b chip s new (Hop r port slot out) e = hop_does chip s new r port slot out e
event_does b chip s new (DataHop r port slot) e = data_hop_does chip s new r port slot e
event_does b chip s new (DataEject r port slot) e = data_eject_does b s new r port slot e

-- an event that is done and noted is its step, with the event in the journal
pub noted_after : (b : Behaviour) (chip : Chip) (s new : ChipState) (event : Event) → after b chip s event ≡ Some new → (left : ChipState) × (step b chip s event ≡ Some left) × (noted event left ≡ new)
unfolding after
noted_after b chip s new event e =
    bind (step b chip s event) (λ left. Some (noted event left)) new e (λ left stepped done. (left, stepped, same_Some (noted event left) new done))
