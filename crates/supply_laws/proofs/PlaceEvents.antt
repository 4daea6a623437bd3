-- What every event does to the places of the gets for which tiles wait: it orders nothing, and each stays or its get
-- completes; or it is a tick, which changes no unit.
use Rattle.std.proofs.Common.{◌≡◌, ℕ, ◌+◌, ◌≤◌, Bool, true, false, cond, refl, sym, ◌∙◌, ap, subst, arith, inl, inr, ◌⊎◌, Option, Some, None, List}
use Rattle.std.specs.Prelude.{◌==◌, ◌&&◌, not, take, slice_get}
use Rattle.std.proofs.lemmas.Bool.{cases_eq, eq-eqb, eqb-true}
use Rattle.std.proofs.lemmas.Option.{same_Some}
use Rattle.mesh_gen.specs.declared.request.Request.{Request}
use Rattle.mesh_gen.specs.declared.port.Port.{Port}
use Rattle.mesh_gen.specs.Ports.{count_if}
use Rattle.vc_bank.specs.Places.{Network}
use Rattle.mesh_gen.specs.declared.msg.Msg.{Msg}
use Rattle.mesh_gen.specs.declared.msg_kind.MsgKind.{MsgKind}
use Rattle.mesh_gen.specs.declared.msg_kind.MsgKind.TheVariants.{Data, Back}
use Rattle.report_text.specs.declared.event.Event.{Event}
use Rattle.report_text.specs.declared.event.Event.TheVariants.{Tick, Core, Inject, Post, Take, Eject, Send, Hop, DataHop, DataEject}
use Rattle.doc_text.specs.Doc.{Doc}
use Rattle.chip_model.specs.Chip.{Chip, chip_of}
use Rattle.chip_model.specs.OrderedNetwork.{OrderedNetwork, after_network_tick}
use Rattle.chip_model.specs.Node.{Node, is_back, node_after_request, node_after_message, arrived_as, after_request_sent, after_message_sent}
use Rattle.chip_model.specs.Units.{UnitState, Behaviour, Acted}
use Rattle.chip_model.specs.ChipState.{ChipState}
use Rattle.chip_model.specs.BehaviourLaws.{KeepsLaws, Works}
use Rattle.chip_model.specs.NodeShape.{IsCache}
use Rattle.chip_model.specs.declared.owner.Owner.TheVariants.{Tile}
use Rattle.chip_model.specs.Replies.{after_data_eject}
use Rattle.chip_model.specs.Ownership.{owner, owns}
use Rattle.chip_model.specs.Bookkeeping.{is_get}
use Rattle.chip_model.specs.Suppliers.{count_of, delivered_at, has_early, is_ordered, is_data_for, data_in_channels, place_of_get}
use Rattle.chip_model.specs.ChipInvariant.{ProtocolHolds}
use Rattle.snoop_core.specs.Requests.{OwnRequestFits}
use Rattle.snoop_core.proofs.Accesses.{accessed_frame}
use Rattle.chip_laws.specs.DocLaws.{DocLaws}
use Rattle.chip_laws.specs.EventSteps.{ChangesNetwork, ChangesUnit, EventDoes}
use Rattle.chip_laws.specs.Meetings.{UnitsFit}
use Rattle.chip_laws.specs.MessageLaws.{MessageLaws}
use Rattle.chip_laws.proofs.Deliveries.{deliveries_fit}
use Rattle.chip_laws.proofs.OrderGrows.{injected_order, delivered_order}
use Rattle.supply_laws.proofs.KeptOrders.{posted_order, taken_order, hopped_order}
use Rattle.chip_laws.proofs.OrderFrames.{holds_at}
use Rattle.chip_laws.proofs.SupplyBounds.{one_open}
use Rattle.chip_laws.proofs.SupplyFrames.{count_here, count_there}
use Rattle.chip_laws.proofs.SupplyAccounts.{accessed_supply}
use Rattle.chip_laws.proofs.SupplyDeliveries.{delivered_account}
use Rattle.chip_laws.proofs.SuppliedComes.{OneOpen, same_delivered}
use Rattle.chip_laws.proofs.UnitFrames.{changed_unit, other_unit, each_unit}
use Rattle.chip_laws.proofs.WholeSteps.{delivers_next}
use Rattle.supply_laws.proofs.OwnerGets.{is_owner}
use Rattle.supply_laws.proofs.GetPlaces.{get_of, open_place, none_waits, undelivered_open}
use Rattle.supply_laws.proofs.PlaceSteps.{asked_place, message_sent_place, accessed_place, arrived_place, returned_place, delivered_place, delivered_ends}

-- of a tile at most one get is ordered and not complete
pub one_of : (d : Doc) (s : ChipState) (t : ℕ) (unit : UnitState) → ProtocolHolds d s → slice_get s.units t ≡ Some unit → OneOpen s.network.ordered unit.node.tile unit.node
one_of d s t unit holds at =
    let here = holds_at d s holds t unit at in
    subst (λ (k : ℕ). OneOpen s.network.ordered k unit.node) (sym here.holds.node.agrees.tile)
    (one_open s.network t here.interface unit.node (holds.network.requests.agree t here.interface here.at) here.holds.node.agrees)

-- a get of a tile completes because data for it is here, or because the tile itself owns the line where it is ordered
abbrev pub EndsBy : ChipState → ℕ → UnitState → Type 0
EndsBy s t unit =
    (1 ≤ count_if (has_early unit.node.side.misses.demand) + data_in_channels s t)
    ⊎ ((place : ℕ) (q : Request) → place_of_get s unit.node ≡ Some place → slice_get s.network.ordered place ≡ Some q → owner q.line (take place s.network.ordered) ≡ Tile t)

-- a place stays, or its get completes
abbrev pub GoesOnBy : ChipState → ℕ → UnitState → Option ℕ → Type 0
GoesOnBy s t unit now = (now ≡ place_of_get s unit.node) ⊎ ((now ≡ None) × EndsBy s t unit)

-- the place stays or its get completes, and the counts of what was delivered do not fall
pub record KeepsPlaces (s new : ChipState) : Type 0 where
  pub order : new.network.ordered ≡ s.network.ordered
  pub places : (t : ℕ) (unit after : UnitState) → slice_get s.units t ≡ Some unit → slice_get new.units t ≡ Some after → GoesOnBy s t unit (place_of_get new after.node)
  pub counts : (v : ℕ) → delivered_at s v ≤ delivered_at new v
  pub units : (t : ℕ) (after : UnitState) → slice_get new.units t ≡ Some after → (unit : UnitState) × (slice_get s.units t ≡ Some unit)
  pub stands : (t : ℕ) (unit : UnitState) → slice_get s.units t ≡ Some unit → (after : UnitState) × (slice_get new.units t ≡ Some after)
  pub tiles : (t : ℕ) (unit after : UnitState) → slice_get s.units t ≡ Some unit → slice_get new.units t ≡ Some after → after.node.tile ≡ unit.node.tile

stays_by : (s new : ChipState) (t : ℕ) (unit : UnitState) → new.network.ordered ≡ s.network.ordered → GoesOnBy s t unit (place_of_get new unit.node)
stays_by s new t unit order = inl (ap (λ (ordered : List Request). open_place ordered unit.node) order)

-- no unit changes
quiet_places : (s new : ChipState) → new.network.ordered ≡ s.network.ordered → new.units ≡ s.units → KeepsPlaces s new
quiet_places s new order units = record {
  order = order;
  places = λ t unit after was is.
      let same : unit ≡ after = same_Some unit after (sym was ∙ (ap (λ (us : List UnitState). slice_get us t) (sym units) ∙ is)) in
      subst (λ (u : UnitState). GoesOnBy s t unit (place_of_get new u.node)) same (stays_by s new t unit order);
  counts = λ v. let same : delivered_at new v ≡ delivered_at s v = ap (λ (us : List UnitState). count_of (slice_get us v)) units in omega (arith, same);
  units = λ t after at. (after, ap (λ (us : List UnitState). slice_get us t) (sym units) ∙ at);
  stands = λ t unit at. (unit, ap (λ (us : List UnitState). slice_get us t) units ∙ at);
  tiles = λ t unit after was is.
      let same : unit ≡ after = same_Some unit after (sym was ∙ (ap (λ (us : List UnitState). slice_get us t) (sym units) ∙ is)) in
      ap (λ (u : UnitState). u.node.tile) (sym same);
}

-- one unit changes
unit_places : (s new : ChipState) (u : ℕ) (unit after : UnitState) → ChangesUnit s new u unit after → new.network.ordered ≡ s.network.ordered → after.node.tile ≡ unit.node.tile
    → unit.node.delivered ≤ after.node.delivered → GoesOnBy s u unit (open_place s.network.ordered after.node) → KeepsPlaces s new
unit_places s new u unit after c order tile more here = record {
  order = order;
  places = λ t was is before now.
      each_unit (λ v x. (old : UnitState) → slice_get s.units v ≡ Some old → GoesOnBy s v old (place_of_get new x.node)) s new u unit after c
      (λ old at.
      let same : unit ≡ old = same_Some unit old (sym c.at ∙ at) in
      subst (λ (x : UnitState). GoesOnBy s u x (place_of_get new after.node)) same
      (subst (λ (ordered : List Request). GoesOnBy s u unit (open_place ordered after.node)) (sym order) here))
      (λ v x away at old was_at.
      let same : x ≡ old = same_Some x old (sym at ∙ was_at) in
      subst (λ (y : UnitState). GoesOnBy s v y (place_of_get new x.node)) same (stays_by s new v x order))
      t is now was before;
  counts = λ v. elim (cases_eq v u) [
    | inl same ↦ (
        let both = count_here s new u unit after c in
        let old : delivered_at s v ≡ unit.node.delivered = ap (delivered_at s) same ∙ both.0 in
        let now : delivered_at new v ≡ after.node.delivered = ap (delivered_at new) same ∙ both.1 in
        omega (arith, old, now, more))
    | inr away ↦ omega (arith, count_there s new u v unit after c away)
  ];
  units = λ t x at. elim (cases_eq t u) [
    | inl same ↦ (unit, ap (slice_get s.units) same ∙ c.at)
    | inr away ↦ (x, sym (other_unit s new u t unit after c away) ∙ at)
  ];
  stands = λ t x at. elim (cases_eq t u) [
    | inl same ↦ (after, ap (slice_get new.units) same ∙ changed_unit s new u unit after c)
    | inr away ↦ (x, other_unit s new u t unit after c away ∙ at)
  ];
  tiles = λ t was is before now.
      each_unit (λ v x. (old : UnitState) → slice_get s.units v ≡ Some old → x.node.tile ≡ old.node.tile) s new u unit after c
      (λ old at. tile ∙ ap (λ (x : UnitState). x.node.tile) (same_Some unit old (sym c.at ∙ at)))
      (λ v x away at old was_at. ap (λ (y : UnitState). y.node.tile) (same_Some x old (sym at ∙ was_at)))
      t is now was before;
}

-- ---- the steps of a unit
core_place : (ordered : List Request) (unit : UnitState) (acted : Acted) → IsCache unit.node.chip unit.node.side.cache → Works unit acted
    → (open_place ordered acted.0.node ≡ open_place ordered unit.node) × (acted.0.node.delivered ≡ unit.node.delivered) × (acted.0.node.tile ≡ unit.node.tile)
core_place ordered unit acted cache works = elim works [
  | inl alone ↦ (ap (open_place ordered) alone.node, ap (λ (n : Node). n.delivered) alone.node, ap (λ (n : Node). n.tile) alone.node)
  | inr tries ↦ (
    ap (open_place ordered) tries.goes_on.node ∙ accessed_place ordered tries.access unit.node tries.left tries.tried cache,
    ap (λ (n : Node). n.delivered) tries.goes_on.node ∙ (accessed_supply tries.access unit.node tries.left tries.tried cache).delivered,
    ap (λ (n : Node). n.tile) tries.goes_on.node ∙ ap (λ (n : Node). n.tile) (accessed_frame tries.access unit.node tries.left tries.tried cache),
  )
]

asked_tile : (node : Node) → (after_request_sent node).tile ≡ node.tile
unfolding after_request_sent
asked_tile node = refl

sent_tile : (node : Node) → (after_message_sent node).tile ≡ node.tile
unfolding after_message_sent
sent_tile node = refl

delivered_tile : (q : Request) (node : Node) → (node_after_request q node).0.tile ≡ node.tile
unfolding node_after_request
delivered_tile q node = refl

asked_count : (node : Node) → (after_request_sent node).delivered ≡ node.delivered
unfolding after_request_sent
asked_count node = refl

sent_count : (node : Node) → (after_message_sent node).delivered ≡ node.delivered
unfolding after_message_sent
sent_count node = refl

delivered_count : (q : Request) (node : Node) → (node_after_request q node).0.delivered ≡ node.delivered + 1
unfolding node_after_request
delivered_count q node = refl

same_tile : (msg : Msg) (node : Node) → (node_after_message msg node).0.tile ≡ node.tile
unfolding node_after_message
same_tile msg node = by msg.kind where
  by : (kind : MsgKind) → (arrived_as msg node kind).0.tile ≡ node.tile
  by Data = refl
  by Back = refl

same_order : (s new : ChipState) → new.network ≡ s.network → new.network.ordered ≡ s.network.ordered
same_order s new same = ap (λ (net : OrderedNetwork). net.ordered) same

-- ---- what completes a get
-- its own delivery
delivered_goes : (d : Doc) (s : ChipState) (t : ℕ) (unit : UnitState) (q : Request) → ProtocolHolds d s → slice_get s.units t ≡ Some unit → slice_get s.network.ordered unit.node.delivered ≡ Some q
    → OwnRequestFits unit.node.tile unit.node.side q → GoesOnBy s t unit (open_place s.network.ordered (node_after_request q unit.node).0)
delivered_goes d s t unit q holds at next own = elim (delivered_place s.network.ordered q unit.node few next own) [
  | inl stays ↦ inl stays
  | inr ends ↦ elim (delivered_ends s.network.ordered q unit.node few next own ends) [
    | inl none ↦ inl (ends ∙ sym none)
    | inr asks ↦ inr (ends, by (has_early unit.node.side.misses.demand) (owns unit.node.chip unit.node.side q.line) refl refl ends asks)
  ]
]
  where
    few : OneOpen s.network.ordered unit.node.tile unit.node
    few = one_of d s t unit holds at

    by : (early owned : Bool) → has_early unit.node.side.misses.demand ≡ early → owns unit.node.chip unit.node.side q.line ≡ owned
        → open_place s.network.ordered (node_after_request q unit.node).0 ≡ None → ((q.source == unit.node.tile) ≡ true) × (is_get q.kind ≡ true) → EndsBy s t unit
    by true owned early_is owned_is ends asks = inl (let one : count_if (has_early unit.node.side.misses.demand) ≡ 1 = ap count_if early_is in omega (arith, one))
    by false true early_is owned_is ends asks =
        let here = holds_at d s holds t unit at in
        let waits = undelivered_open s.network.ordered unit.node unit.node.delivered q few next (get_of unit.node.tile q asks.1 (eqb-true q.source unit.node.tile asks.0)) (omega arith) in
        let owner_is : owner q.line (take unit.node.delivered s.network.ordered) ≡ Tile unit.node.tile =
        is_owner unit.node.tile (owner q.line (take unit.node.delivered s.network.ordered)) (sym (here.holds.serves.owns.lines q.line) ∙ owned_is) in
        inr (λ place r waits_r at_r.
        let same : unit.node.delivered ≡ place = same_Some unit.node.delivered place (sym waits ∙ waits_r) in
        let same_get : q ≡ r = same_Some q r (sym next ∙ (ap (slice_get s.network.ordered) same ∙ at_r)) in
        ap (λ (x : Request). owner x.line (take place s.network.ordered)) (sym same_get)
        ∙ ap (λ (k : ℕ). owner q.line (take k s.network.ordered)) (sym same)
        ∙ owner_is
        ∙ ap Tile here.holds.node.agrees.tile)
    by false false early_is owned_is ends asks =
        let here = holds_at d s holds t unit at in
        let none_early : count_if (has_early unit.node.side.misses.demand) ≡ 0 = ap count_if early_is in
        let none_owned : cond (owns unit.node.chip unit.node.side q.line) (count_if (is_get q.kind)) 0 ≡ 0 = ap (λ (b : Bool). cond b (count_if (is_get q.kind)) 0) owned_is in
        let one : count_if (is_get q.kind) ≡ 1 = ap count_if asks.1 in
        let account = delivered_account q unit.node here.holds.node.fits.side own asks.0 (omega (arith, none_early, none_owned)) in
        let after = (node_after_request q unit.node).0 in
        let unordered : count_if (is_ordered after.side.misses.demand) ≡ 0 = ap count_if (none_waits s.network.ordered after ends).unordered in
        absurd (omega (arith, account, none_early, none_owned, one, unordered))

-- data that comes
arrived_goes : MessageLaws → (d : Doc) (s : ChipState) (t : ℕ) (port : Port) (slot : ℕ) (unit : UnitState) (msg : Msg) (replies : Network Msg) → ProtocolHolds d s → slice_get s.units t ≡ Some unit
    → after_data_eject s.replies t port slot ≡ Some (msg, replies) → GoesOnBy s t unit (open_place s.network.ordered (node_after_message msg unit.node).0)
arrived_goes messages d s t port slot unit msg replies holds at comes = elim (arrived_place s.network.ordered msg unit.node (one_of d s t unit holds at)) [
  | inl stays ↦ inl stays
  | inr ends ↦ by msg.kind refl ends
]
  where
    by : (kind : MsgKind) → msg.kind ≡ kind → open_place s.network.ordered (node_after_message msg unit.node).0 ≡ None
        → GoesOnBy s t unit (open_place s.network.ordered (node_after_message msg unit.node).0)
    by Back kind ends = inl (returned_place s.network.ordered msg unit.node kind)
    by Data kind ends =
        let to = messages.here s.replies replies t port slot msg comes in
        let one : count_if (is_data_for t msg) ≡ 1 = ap count_if (ap (λ (k : MsgKind). not (is_back k) && (msg.to == t)) kind ∙ eq-eqb msg.to t to) in
        let sum : data_in_channels (record s { replies = replies }) t + count_if (is_data_for t msg) ≡ data_in_channels s t =
        messages.takes (λ m. count_if (is_data_for t m)) s.replies replies t port slot msg comes in
        inr (ends, inl (omega (arith, one, sum)))

-- what an event does: it keeps the places, or it is a tick
abbrev pub KeepsOrTicks : Chip → ChipState → ChipState → Type 0
KeepsOrTicks chip s new = KeepsPlaces s new ⊎ ChangesNetwork (after_network_tick chip s.network) s new

module _ (messages : MessageLaws) (b : Behaviour) (laws : KeepsLaws b) (d : Doc) (s new : ChipState) (fits : DocLaws d) (holds : ProtocolHolds d s) (fit : UnitsFit b laws s) where
  core_keeps : (t : ℕ) → EventDoes b (chip_of d) s new (Core t) → KeepsPlaces s new
  core_keeps t does =
      let here = holds_at d s holds t does.unit does.changes.at in
      let law = laws.stepped does.unit (fit t does.unit does.changes.at) does.ready in
      let same = core_place s.network.ordered does.unit (b.stepped does.unit) here.holds.node.fits.side.cache law.1 in
      unit_places s new t does.unit (b.stepped does.unit).0 does.changes (same_order s new does.network) same.2 (omega (arith, same.1)) (inl same.0)

  eject_keeps : (t : ℕ) → EventDoes b (chip_of d) s new (Eject t) → KeepsPlaces s new
  eject_keeps t does =
      let law = laws.delivered does.request does.unit (fit t does.unit does.changes.at) in
      let next = delivers_next d s holds (deliveries_fit d s fits holds) t does.unit does.request new.network does.changes.at does.network in
      let node : (b.delivered does.request does.unit).0.node ≡ (node_after_request does.request does.unit.node).0 = law.1.goes_on.node in
      let more : (b.delivered does.request does.unit).0.node.delivered ≡ does.unit.node.delivered + 1 = ap (λ (n : Node). n.delivered) node ∙ delivered_count does.request does.unit.node in
      unit_places s new t does.unit (b.delivered does.request does.unit).0 does.changes (delivered_order (chip_of d) s.network new.network t does.request does.network)
      (ap (λ (n : Node). n.tile) node ∙ delivered_tile does.request does.unit.node) (omega (arith, more))
      (subst (λ (n : Node). GoesOnBy s t does.unit (open_place s.network.ordered n)) (sym node) (delivered_goes d s t does.unit does.request holds does.changes.at next.at next.own))

  comes_keeps : (r : ℕ) (port : Port) (slot : ℕ) → EventDoes b (chip_of d) s new (DataEject r port slot) → KeepsPlaces s new
  comes_keeps r port slot does =
      let law = laws.received does.msg does.unit (fit r does.unit does.changes.at) in
      let node : (b.received does.msg does.unit).0.node ≡ (node_after_message does.msg does.unit.node).0 = law.1.goes_on.node in
      let same : (b.received does.msg does.unit).0.node.delivered ≡ does.unit.node.delivered = ap (λ (n : Node). n.delivered) node ∙ same_delivered does.msg does.unit.node in
      unit_places s new r does.unit (b.received does.msg does.unit).0 does.changes (same_order s new does.network) (ap (λ (n : Node). n.tile) node ∙ same_tile does.msg does.unit.node)
      (omega (arith, same))
      (subst (λ (n : Node). GoesOnBy s r does.unit (open_place s.network.ordered n)) (sym node)
      (arrived_goes messages d s r port slot does.unit does.msg new.replies holds does.changes.at does.replies))

  pub keeps_or_ticks : (event : Event) → EventDoes b (chip_of d) s new event → KeepsOrTicks (chip_of d) s new
  keeps_or_ticks Tick does = inr does
  keeps_or_ticks (Core t) does = inl (core_keeps t does)
  keeps_or_ticks (Inject t) does =
      inl (unit_places s new t does.unit (record does.unit { node = after_request_sent does.unit.node }) does.changes
      (injected_order (chip_of d) s.network new.network t does.kind does.line does.network) (asked_tile does.unit.node)
      (omega (arith, asked_count does.unit.node)) (inl (asked_place s.network.ordered does.unit.node)))
  keeps_or_ticks (Post t) does = inl (quiet_places s new (posted_order s.network new.network t does.network) does.units)
  keeps_or_ticks (Take t) does = inl (quiet_places s new (taken_order s.network new.network t does.network) does.units)
  keeps_or_ticks (Eject t) does = inl (eject_keeps t does)
  keeps_or_ticks (Send t) does =
      inl (unit_places s new t does.unit (record does.unit { node = after_message_sent does.unit.node }) does.changes (same_order s new does.network) (sent_tile does.unit.node)
      (omega (arith, sent_count does.unit.node)) (inl (message_sent_place s.network.ordered does.unit.node)))
  keeps_or_ticks (Hop r port slot out) does = inl (quiet_places s new (hopped_order (chip_of d) s.network new.network r port slot out does.network) does.units)
  keeps_or_ticks (DataHop r port slot) does = inl (quiet_places s new (same_order s new does.network) does.units)
  keeps_or_ticks (DataEject r port slot) does = inl (comes_keeps r port slot does)
