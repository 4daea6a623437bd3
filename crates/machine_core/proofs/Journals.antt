-- The journal of a run: a step leaves it, an event is noted at its end, and so it leads to the state after the event.
use Rattle.std.specs.Prelude.{slice_get}
use Rattle.std.proofs.Common.{◌≡◌, ◌+◌, List, [], ◌∷◌, ◌++◌, Option, Some, refl, sym, ◌∙◌, ap, subst}
use Rattle.std.proofs.lemmas.Option.{option_and_then_some, same_Some}
use Rattle.mesh_gen.specs.Partial.{when, ◌>>=◌}
use Rattle.report_text.specs.declared.event.Event.{Event}
use Rattle.report_text.specs.declared.event.Event.TheVariants.{Tick, Core, Inject, Post, Take, Eject, Send, Hop, DataHop, DataEject}
use Rattle.chip_model.specs.Chip.{Chip}
use Rattle.chip_model.specs.Units.{Behaviour}
use Rattle.chip_model.specs.ChipState.{ChipState}
use Rattle.chip_model.specs.Events.{step, unit_at, with_acted, with_network, with_node}
use Rattle.chip_model.specs.Misses.{wanted}
use Rattle.chip_model.specs.Node.{after_request_sent, after_message_sent}
use Rattle.chip_model.specs.OrderedNetwork.{after_inject, after_request_post, after_network_tick, after_vector_take, after_copy_hop, after_delivery}
use Rattle.chip_model.specs.Replies.{after_send, after_data_hop, after_data_eject}
use Rattle.chip_model.specs.Runs.{noted, after, run}
use Rattle.snoop_core.proofs.Options.{when_some}

abbrev HasJournal : List Event → Option ChipState → Type 0
HasJournal j o = (y : ChipState) → o ≡ Some y → y.journal ≡ j

through : {X : Type 0} (j : List Event) (o : Option X) (f : X → Option ChipState) → ((x : X) → HasJournal j (f x)) → HasJournal j (o >>= f)
through j o f each y e = option_and_then_some f o y e (λ x is done. each x y done)

guarded : (j : List Event) (guard : _) (o : Option ChipState) → HasJournal j o → HasJournal j (when guard o)
guarded j guard o has y e = when_some guard o y e (λ holds is. has y is)

made : (j : List Event) (x : ChipState) → x.journal ≡ j → HasJournal j (Some x)
made j x is y e = ap (λ (s : ChipState). s.journal) (sym (same_Some x y e)) ∙ is

-- a step leaves the journal as it is
pub step_journal : (b : Behaviour) (chip : Chip) (s : ChipState) (event : Event) → HasJournal s.journal (step b chip s event)
unfolding step unit_at
step_journal b chip s Tick = through s.journal (after_network_tick chip s.network) (λ network. Some (with_network network s))
    (λ network. made s.journal (with_network network s) refl)
step_journal b chip s (Core t) =
    through s.journal (slice_get s.units t) (λ unit. when (b.ready unit) (Some (with_acted t (b.stepped unit) s))) (λ unit.
    guarded s.journal (b.ready unit) (Some (with_acted t (b.stepped unit) s)) (made s.journal (with_acted t (b.stepped unit) s) refl))
step_journal b chip s (Inject t) =
    through s.journal (slice_get s.units t) (λ unit. wanted unit.node.side.misses >>= (λ asked. after_inject chip s.network t asked.0 asked.1 >>=
    (λ network. Some (with_node t unit (after_request_sent unit.node) (with_network network s))))) (λ unit.
    through s.journal (wanted unit.node.side.misses) (λ asked. after_inject chip s.network t asked.0 asked.1 >>=
    (λ network. Some (with_node t unit (after_request_sent unit.node) (with_network network s)))) (λ asked.
    through s.journal (after_inject chip s.network t asked.0 asked.1)
    (λ network. Some (with_node t unit (after_request_sent unit.node) (with_network network s))) (λ network.
    made s.journal (with_node t unit (after_request_sent unit.node) (with_network network s)) refl)))
step_journal b chip s (Post t) = through s.journal (after_request_post s.network t) (λ network. Some (with_network network s))
    (λ network. made s.journal (with_network network s) refl)
step_journal b chip s (Take t) = through s.journal (after_vector_take s.network t) (λ network. Some (with_network network s))
    (λ network. made s.journal (with_network network s) refl)
step_journal b chip s (Eject t) =
    through s.journal (slice_get s.units t) (λ unit. after_delivery chip s.network t >>=
    (λ out. Some (with_acted t (b.delivered out.0 unit) (with_network out.1 s)))) (λ unit.
    through s.journal (after_delivery chip s.network t) (λ out. Some (with_acted t (b.delivered out.0 unit) (with_network out.1 s))) (λ out.
    made s.journal (with_acted t (b.delivered out.0 unit) (with_network out.1 s)) refl))
step_journal b chip s (Send t) =
    through s.journal (slice_get s.units t) (λ unit. slice_get unit.node.out 0 >>= (λ msg. after_send s.replies t msg >>=
    (λ replies. Some (with_node t unit (after_message_sent unit.node) (record s { replies = replies }))))) (λ unit.
    through s.journal (slice_get unit.node.out 0) (λ msg. after_send s.replies t msg >>=
    (λ replies. Some (with_node t unit (after_message_sent unit.node) (record s { replies = replies })))) (λ msg.
    through s.journal (after_send s.replies t msg) (λ replies. Some (with_node t unit (after_message_sent unit.node) (record s { replies = replies })))
    (λ replies.
    made s.journal (with_node t unit (after_message_sent unit.node) (record s { replies = replies })) refl)))
step_journal b chip s (Hop r port slot out) =
    through s.journal (after_copy_hop chip s.network r port slot out) (λ network. Some (record s { network = network; hops = s.hops + 1 })) (λ network.
    made s.journal (record s { network = network; hops = s.hops + 1 }) refl)
step_journal b chip s (DataHop r port slot) =
    through s.journal (after_data_hop chip.grid s.replies r port slot) (λ replies. Some (record s { replies = replies }))
    (λ replies. made s.journal (record s { replies = replies }) refl)
step_journal b chip s (DataEject r port slot) =
    through s.journal (after_data_eject s.replies r port slot) (λ out. slice_get s.units r >>=
    (λ unit. Some (with_acted r (b.received out.0 unit) (record s { replies = out.1 })))) (λ out.
    through s.journal (slice_get s.units r) (λ unit. Some (with_acted r (b.received out.0 unit) (record s { replies = out.1 }))) (λ unit.
    made s.journal (with_acted r (b.received out.0 unit) (record s { replies = out.1 })) refl))

-- an event is noted at the end
pub after_journal : (b : Behaviour) (chip : Chip) (s new : ChipState) (event : Event) → after b chip s event ≡ Some new → new.journal ≡ s.journal ++ event ∷ []
unfolding after
after_journal b chip s new event e =
    option_and_then_some (λ left. Some (noted event left)) (step b chip s event) new e (λ left stepped done.
    ap (λ (x : ChipState). x.journal) (sym (same_Some (noted event left) new done))
    ∙ ap (λ (j : List Event). j ++ event ∷ []) (step_journal b chip s event left stepped))

-- one event more at the end of a run
pub run_more : (b : Behaviour) (chip : Chip) (events : List Event) (first s new : ChipState) (event : Event) → run b chip first events ≡ Some s
    → after b chip s event ≡ Some new
    → run b chip first (events ++ event ∷ []) ≡ Some new
unfolding run
run_more b chip [] first s new event e next =
    let same : first ≡ s = same_Some first s e in
    subst (λ (x : ChipState). (after b chip x event >>= (λ y. run b chip y [])) ≡ Some new) (sym same) (ap (λ o. o >>= (λ y. run b chip y [])) next)
run_more b chip (e0 ∷ events) first s new event e next =
    option_and_then_some (λ y. run b chip y events) (after b chip first e0) s e (λ y was rest.
    ap (λ o. o >>= (λ y. run b chip y (events ++ event ∷ []))) was ∙ run_more b chip events y s new event rest next)

-- where the journal leads to a state, it leads to the next one
pub reached_next : (b : Behaviour) (chip : Chip) (first s new : ChipState) (event : Event) → run b chip first s.journal ≡ Some s
    → after b chip s event ≡ Some new → run b chip first new.journal ≡ Some new
reached_next b chip first s new event reached next =
    subst (λ (j : List Event). run b chip first j ≡ Some new) (sym (after_journal b chip s new event next))
    (run_more b chip s.journal first s new event reached next)
