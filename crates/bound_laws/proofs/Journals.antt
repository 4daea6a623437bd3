-- The journal of a state that a run has reached: each event adds itself at its end, and it leads to the state.
use Rattle.std.proofs.Common.{◌≡◌, ◌+◌, Option, Some, List, [], ◌∷◌, ◌++◌, refl, ◌∙◌, ap}
use Rattle.std.specs.Prelude.{slice_get}
use Rattle.std.proofs.lemmas.Option.{same_Some}
use Rattle.mesh_gen.specs.Partial.{◌>>=◌}
use Rattle.report_text.specs.declared.event.Event.{Event}
use Rattle.report_text.specs.declared.event.Event.TheVariants.{Tick, Core, Inject, Post, Take, Eject, Send, Hop, DataHop, DataEject}
use Rattle.doc_text.specs.Doc.{Doc}
use Rattle.chip_model.specs.Chip.{Chip, chip_of}
use Rattle.chip_model.specs.OrderedNetwork.{OrderedNetwork, after_inject, after_request_post, after_network_tick, after_vector_take, after_copy_hop, after_delivery}
use Rattle.chip_model.specs.Replies.{after_send, after_data_hop, after_data_eject}
use Rattle.chip_model.specs.Misses.{wanted}
use Rattle.chip_model.specs.Node.{after_request_sent, after_message_sent}
use Rattle.chip_model.specs.Units.{Behaviour}
use Rattle.chip_model.specs.ChipState.{ChipState, opening}
use Rattle.chip_model.specs.Events.{with_network, with_node, with_acted, unit_at, step}
use Rattle.chip_model.specs.Runs.{noted, after, run, IsReachable}
use Rattle.chip_laws.proofs.Options.{bind}
use Rattle.net_iface.proofs.Binds.{bind_eq, made}
use Rattle.bound_laws.proofs.AccessSteps.{when_some}

-- a step leaves the journal as it is
abbrev Same : ChipState → ChipState → Type 0
Same s new = new.journal ≡ s.journal

network_journal : (o : Option OrderedNetwork) (s new : ChipState) → (o >>= (λ network. Some (with_network network s))) ≡ Some new → Same s new
network_journal o s new = bind_eq (Same s) o _ (λ network is n last. made (Same s) (with_network network s) n refl last) new

pub step_journal : (b : Behaviour) (chip : Chip) (s new : ChipState) (event : Event) → step b chip s event ≡ Some new → new.journal ≡ s.journal
unfolding step unit_at
step_journal b chip s new Tick = network_journal (after_network_tick chip s.network) s new
step_journal b chip s new (Core t) = bind_eq (Same s) (slice_get s.units t) _
    (λ unit there n last. made (Same s) (with_acted t (b.stepped unit) s) n refl
    (when_some (b.ready unit) (Some (with_acted t (b.stepped unit) s)) n last).1) new
step_journal b chip s new (Inject t) = bind_eq (Same s) (slice_get s.units t) _
    (λ unit there n last. bind_eq (Same s) (wanted unit.node.side.misses) _
    (λ asked wants n last. bind_eq (Same s) (after_inject chip s.network t asked.0 asked.1) _
    (λ net enters n is. made (Same s) (with_node t unit (after_request_sent unit.node) (with_network net s)) n refl is) n last) n last) new
step_journal b chip s new (Post t) = network_journal (after_request_post s.network t) s new
step_journal b chip s new (Take t) = network_journal (after_vector_take s.network t) s new
step_journal b chip s new (Eject t) = bind_eq (Same s) (slice_get s.units t) _
    (λ unit there n last. bind_eq (Same s) (after_delivery chip s.network t) _
    (λ out comes n is. made (Same s) (with_acted t (b.delivered out.0 unit) (with_network out.1 s)) n refl is) n last) new
step_journal b chip s new (Send t) = bind_eq (Same s) (slice_get s.units t) _
    (λ unit there n last. bind_eq (Same s) (slice_get unit.node.out 0) _
    (λ msg first n last. bind_eq (Same s) (after_send s.replies t msg) _
    (λ replies sends n is. made (Same s) (with_node t unit (after_message_sent unit.node) (record s { replies = replies })) n refl is) n last) n last) new
step_journal b chip s new (Hop r port slot out) = bind_eq (Same s) (after_copy_hop chip s.network r port slot out) _
    (λ net hops n is. made (Same s) (record s { network = net; hops = s.hops + 1 }) n refl is) new
step_journal b chip s new (DataHop r port slot) = bind_eq (Same s) (after_data_hop chip.grid s.replies r port slot) _
    (λ replies hops n is. made (Same s) (record s { replies = replies }) n refl is) new
step_journal b chip s new (DataEject r port slot) = bind_eq (Same s) (after_data_eject s.replies r port slot) _
    (λ out comes n last. bind_eq (Same s) (slice_get s.units r) _
    (λ unit there n is. made (Same s) (with_acted r (b.received out.0 unit) (record s { replies = out.1 })) n refl is) n last) new

-- a run, and one event more
pub run_more : (b : Behaviour) (chip : Chip) (events : List Event) (s mid new : ChipState) (event : Event) → run b chip s events ≡ Some mid
    → after b chip mid event ≡ Some new
    → run b chip s (events ++ event ∷ []) ≡ Some new
unfolding run
run_more b chip [] s mid new event goes steps =
    let here : after b chip s event ≡ Some new = ap (λ (x : ChipState). after b chip x event) (same_Some s mid goes) ∙ steps in
    rw here refl
run_more b chip (first ∷ events) s mid new event goes steps =
    bind (after b chip s first) (λ next. run b chip next events) (mid) goes (λ next begins rest.
    rw begins (run_more b chip events next mid new event rest steps))

-- an event after a step
pub after_is : (b : Behaviour) (chip : Chip) (s left : ChipState) (event : Event) → step b chip s event ≡ Some left
    → after b chip s event ≡ Some (noted event left)
unfolding after
after_is b chip s left event is = rw is refl

-- a state that is reached leads to states that are
pub reached_next : (b : Behaviour) (d : Doc) (s left : ChipState) (event : Event) → IsReachable b d s → step b (chip_of d) s event ≡ Some left
    → IsReachable b d (noted event left)
reached_next b d s left event reached is =
    let same = step_journal b (chip_of d) s left event is in
    ap (λ (events : List Event). run b (chip_of d) (opening d) (events ++ event ∷ [])) same
    ∙ run_more b (chip_of d) s.journal (opening d) s (noted event left) event reached (after_is b (chip_of d) s left event is)

pub opening_reached : (b : Behaviour) (d : Doc) → IsReachable b d (opening d)
unfolding run
opening_reached b d = refl

-- an event notes itself
pub event_noted : (b : Behaviour) (chip : Chip) (s new : ChipState) (event : Event) → after b chip s event ≡ Some new → new.journal ≡ s.journal ++ event ∷ []
unfolding after
event_noted b chip s new event is =
    bind_eq (λ (n : ChipState). n.journal ≡ s.journal ++ event ∷ []) (step b chip s event) _
    (λ left steps n done. made (λ (n : ChipState). n.journal ≡ s.journal ++ event ∷ []) (noted event left) n (ap (λ (events : List Event). events ++ event ∷ []) (step_journal b chip s left event steps)) done) new is
