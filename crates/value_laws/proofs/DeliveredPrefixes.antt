-- What a run delivers to a tile is a prefix of the order.
use Rattle.std.proofs.Common.{◌≡◌, ℕ, zero, suc, ◌+◌, Bool, true, false, cond, refl, sym, ◌∙◌, ap, subst, inl, inr, Option, Some, List, [], ◌∷◌, ◌++◌, take}
use Rattle.std.specs.Prelude.{◌==◌, slice_get}
use Rattle.std.proofs.lemmas.Bool.{cases_eq, eq-eqb, ne_eqb}
use Rattle.std.proofs.lemmas.List.{append-nil, append_assoc, take-append-le}
use Rattle.std.proofs.lemmas.Option.{same_Some}
use Rattle.mesh_gen.specs.declared.request.Request.{Request}
use Rattle.mesh_gen.specs.declared.msg.Msg.{Msg}
use Rattle.mesh_gen.specs.declared.msg_kind.MsgKind.{MsgKind}
use Rattle.mesh_gen.specs.declared.msg_kind.MsgKind.TheVariants.{Data, Back}
use Rattle.report_text.specs.declared.event.Event.{Event}
use Rattle.report_text.specs.declared.event.Event.TheVariants.{Tick, Core, Inject, Post, Take, Eject, Send, Hop, DataHop, DataEject}
use Rattle.doc_text.specs.Doc.{Doc}
use Rattle.chip_model.specs.Chip.{chip_of}
use Rattle.chip_model.specs.OrderedNetwork.{OrderedNetwork, after_delivery}
use Rattle.chip_model.specs.Node.{Node, node_after_request, node_after_message, arrived_as, after_request_sent, after_message_sent}
use Rattle.chip_model.specs.Units.{UnitState, Behaviour, Acted}
use Rattle.chip_model.specs.ChipState.{ChipState, opening}
use Rattle.chip_model.specs.BehaviourLaws.{KeepsLaws, Works}
use Rattle.chip_model.specs.Runs.{after, run}
use Rattle.chip_model.specs.Suppliers.{count_of, delivered_at}
use Rattle.snoop_core.proofs.Accesses.{accessed_frame}
use Rattle.chip_laws.specs.DocLaws.{DocLaws}
use Rattle.chip_laws.specs.EventSteps.{CoreWorks, RequestComes, EventDoes}
use Rattle.chip_laws.proofs.Deliveries.{deliveries_fit}
use Rattle.chip_laws.proofs.EventSteps.{event_does, noted_after}
use Rattle.chip_laws.proofs.Options.{bind}
use Rattle.chip_laws.proofs.OrderGrows.{order_grows, delivered_order}
use Rattle.chip_laws.proofs.OrderLists.{take_next}
use Rattle.chip_laws.proofs.SuppliedEvents.{unit_holds, delivered_within}
use Rattle.chip_laws.proofs.SupplyFrames.{same_counts, count_here, count_there}
use Rattle.supply_laws.specs.Reachable.{StateHolds}
use Rattle.supply_laws.proofs.NotedStates.{noted_state}
use Rattle.supply_laws.proofs.ReachedStates.{IsKept}
use Rattle.value_laws.specs.Deliveries.{delivered_request, delivered_by, deliveries}

-- ---- an event delivers the next requests of the order to a tile, as many as its count rises by
sent_count : (node : Node) → (after_request_sent node).delivered ≡ node.delivered
unfolding after_request_sent
sent_count node = refl

queue_count : (node : Node) → (after_message_sent node).delivered ≡ node.delivered
unfolding after_message_sent
queue_count node = refl

comes_count : (msg : Msg) (node : Node) → (node_after_message msg node).0.delivered ≡ node.delivered
unfolding node_after_message
comes_count msg node = by msg.kind where
  by : (kind : MsgKind) → (arrived_as msg node kind).0.delivered ≡ node.delivered
  by Data = refl
  by Back = refl

delivered_count : (q : Request) (node : Node) → (node_after_request q node).0.delivered ≡ node.delivered + 1
unfolding node_after_request
delivered_count q node = refl

module _ (b : Behaviour) (laws : KeepsLaws b) (d : Doc) (s new : ChipState) (fits : DocLaws d) (holds : StateHolds b laws d s) (t : ℕ) where
  -- a count that stays, in an order that may grow
  stays : (event : Event) → EventDoes b (chip_of d) s new event → delivered_at new t ≡ delivered_at s t
      → take (delivered_at new t) new.network.ordered ≡ take (delivered_at s t) s.network.ordered
  stays event does count =
      let grows = order_grows b (chip_of d) s new event does in
      ap (λ (n : ℕ). take n new.network.ordered) count
      ∙ ap (take (delivered_at s t)) grows.is
      ∙ take-append-le (delivered_at s t) s.network.ordered grows.more (delivered_within d s holds.protocol t)

  units_same : new.units ≡ s.units → delivered_at new t ≡ delivered_at s t
  units_same same = ap (λ (units : List UnitState). count_of (slice_get units t)) same

  core_count : (unit : UnitState) (acted : Acted) → slice_get s.units unit.node.tile ≡ Some unit → Works unit acted
      → acted.0.node.delivered ≡ unit.node.delivered
  core_count unit acted at (inl alone) = ap (λ (n : Node). n.delivered) alone.node
  core_count unit acted at (inr tries) =
      ap (λ (n : Node). n.delivered) tries.goes_on.node
      ∙ ap (λ (n : Node). n.delivered)
      (accessed_frame tries.access unit.node tries.left tries.tried (unit_holds d s unit.node.tile unit holds.protocol at).holds.node.fits.side.cache)

  works_count : (u : ℕ) (does : CoreWorks b s new u) → delivered_at new t ≡ delivered_at s t
  works_count u does =
      let tile = (unit_holds d s u does.unit holds.protocol does.changes.at).holds.node.agrees.tile in
      let works = (laws.stepped does.unit (holds.fit u does.unit does.changes.at) does.ready).1 in
      same_counts s new u does.unit (b.stepped does.unit).0 does.changes
      (core_count does.unit (b.stepped does.unit) (ap (slice_get s.units) tile ∙ does.changes.at) works) t

  eject_goes : (u : ℕ) (does : RequestComes b (chip_of d) s new u) → (here : Bool) → (u == t) ≡ here
      → take (delivered_at s t) s.network.ordered ++ cond {A = List Request} here (delivered_request (after_delivery (chip_of d) s.network u)) []
      ≡ take (delivered_at new t) new.network.ordered
  eject_goes u does here test = elim (cases_eq u t) [
    | inl same ↦ (
        let passes : here ≡ true = sym test ∙ eq-eqb u t same in
        let counts = count_here s new u does.unit (b.delivered does.request does.unit).0 does.changes in
        let was : delivered_at s t ≡ does.unit.node.delivered = ap (delivered_at s) (sym same) ∙ counts.0 in
        let node : (b.delivered does.request does.unit).0.node ≡ (node_after_request does.request does.unit.node).0 =
        (laws.delivered does.request does.unit (holds.fit u does.unit does.changes.at)).1.goes_on.node in
        let is : delivered_at new t ≡ does.unit.node.delivered + 1 =
        ap (delivered_at new) (sym same) ∙ counts.1 ∙ ap (λ (n : Node). n.delivered) node ∙ delivered_count does.request does.unit.node in
        ap (λ (x : Bool). take (delivered_at s t) s.network.ordered ++ cond {A = List Request} x
        (delivered_request (after_delivery (chip_of d) s.network u)) []) passes
        ∙ ap (λ (o : Option (Request × OrderedNetwork)). take (delivered_at s t) s.network.ordered ++ delivered_request o) does.network
        ∙ ap (λ (n : ℕ). take n s.network.ordered ++ does.request ∷ []) was
        ∙ sym (take_next s.network.ordered does.unit.node.delivered does.request
        (deliveries_fit d s fits holds.protocol u does.unit does.request new.network does.changes.at does.network))
        ∙ ap (λ (n : ℕ). take n s.network.ordered) (sym is)
        ∙ ap (take (delivered_at new t)) (sym (delivered_order (chip_of d) s.network new.network u does.request does.network)))
    | inr away ↦ (
        let fails : here ≡ false = sym test ∙ ne_eqb u t away in
        ap (λ (x : Bool). take (delivered_at s t) s.network.ordered ++ cond {A = List Request} x
        (delivered_request (after_delivery (chip_of d) s.network u)) []) fails
        ∙ append-nil (take (delivered_at s t) s.network.ordered)
        ∙ sym (stays (Eject u) does (count_there s new u t does.unit (b.delivered does.request does.unit).0 does.changes (λ same. away (sym same)))))
  ]

  nothing : (event : Event) → EventDoes b (chip_of d) s new event → delivered_at new t ≡ delivered_at s t
      → take (delivered_at s t) s.network.ordered ++ [] ≡ take (delivered_at new t) new.network.ordered
  nothing event does count = append-nil (take (delivered_at s t) s.network.ordered) ∙ sym (stays event does count)

  pub event_delivers : (event : Event) → EventDoes b (chip_of d) s new event
      → take (delivered_at s t) s.network.ordered ++ delivered_by (chip_of d) s t event ≡ take (delivered_at new t) new.network.ordered
  event_delivers Tick does = nothing Tick does (units_same does.units)
  event_delivers (Core u) does = nothing (Core u) does (works_count u does)
  event_delivers (Inject u) does =
      nothing (Inject u) does (same_counts s new u does.unit (record does.unit { node = after_request_sent does.unit.node }) does.changes
      (sent_count does.unit.node) t)
  event_delivers (Post u) does = nothing (Post u) does (units_same does.units)
  event_delivers (Take u) does = nothing (Take u) does (units_same does.units)
  event_delivers (Eject u) does = eject_goes u does (u == t) refl
  event_delivers (Send u) does =
      nothing (Send u) does (same_counts s new u does.unit (record does.unit { node = after_message_sent does.unit.node }) does.changes
      (queue_count does.unit.node) t)
  event_delivers (Hop r port slot out) does = nothing (Hop r port slot out) does (units_same does.units)
  event_delivers (DataHop r port slot) does = nothing (DataHop r port slot) does (units_same does.units)
  event_delivers (DataEject r port slot) does =
      let node : (b.received does.msg does.unit).0.node ≡ (node_after_message does.msg does.unit.node).0 =
      (laws.received does.msg does.unit (holds.fit r does.unit does.changes.at)).1.goes_on.node in
      nothing (DataEject r port slot) does
      (same_counts s new r does.unit (b.received does.msg does.unit).0 does.changes
      (ap (λ (n : Node). n.delivered) node ∙ comes_count does.msg does.unit.node) t)

-- ---- along a run
run_delivers : IsKept → (b : Behaviour) (laws : KeepsLaws b) (d : Doc) (events : List Event) (s last : ChipState) (t : ℕ) → DocLaws d → StateHolds b laws d s
    → run b (chip_of d) s events ≡ Some last
    → take (delivered_at s t) s.network.ordered ++ deliveries b (chip_of d) t (Some s) events ≡ take (delivered_at last t) last.network.ordered
unfolding run deliveries
run_delivers kept b laws d [] s last t fits holds e =
    append-nil (take (delivered_at s t) s.network.ordered) ∙ ap (λ (x : ChipState). take (delivered_at x t) x.network.ordered) (same_Some s last e)
run_delivers kept b laws d (event ∷ events) s last t fits holds e =
    bind (after b (chip_of d) s event) (λ new. run b (chip_of d) new events) last e (λ new first rest.
    let (left, stepped, noted_is) = noted_after b (chip_of d) s new event first in
    let next = kept b laws d s left event fits.doc holds stepped in
    let delivers : take (delivered_at s t) s.network.ordered ++ delivered_by (chip_of d) s t event ≡ take (delivered_at new t) new.network.ordered =
    event_delivers b laws d s left fits holds t event (event_does b (chip_of d) s left event stepped)
    ∙ ap (λ (x : ChipState). take (delivered_at x t) x.network.ordered) noted_is in
    ap (λ (o : Option ChipState). take (delivered_at s t) s.network.ordered ++
    (delivered_by (chip_of d) s t event ++ deliveries b (chip_of d) t o events)) first
    ∙ sym (append_assoc (take (delivered_at s t) s.network.ordered) (delivered_by (chip_of d) s t event) (deliveries b (chip_of d) t (Some new) events))
    ∙ ap (λ (requests : List Request). requests ++ deliveries b (chip_of d) t (Some new) events) delivers
    ∙ run_delivers kept b laws d events new last t fits (subst (StateHolds b laws d) noted_is (noted_state b laws d left event next)) rest)

-- before any event nothing is ordered
take_none : {X : Type 0} (n : ℕ) → take {A = X} n [] ≡ []
take_none zero = refl
take_none (suc n) = refl

pub run_prefix : IsKept → (b : Behaviour) (laws : KeepsLaws b) (d : Doc) (events : List Event) (s : ChipState) (t : ℕ) → DocLaws d
    → StateHolds b laws d (opening d)
    → run b (chip_of d) (opening d) events ≡ Some s → deliveries b (chip_of d) t (Some (opening d)) events ≡ take (delivered_at s t) s.network.ordered
run_prefix kept b laws d events s t fits holds e =
    let none : take (delivered_at (opening d) t) [] ≡ [] = take_none (delivered_at (opening d) t) in
    sym (ap (λ (requests : List Request). requests ++ deliveries b (chip_of d) t (Some (opening d)) events) none)
    ∙ run_delivers kept b laws d events (opening d) s t fits holds e
