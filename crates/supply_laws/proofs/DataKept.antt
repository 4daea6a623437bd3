-- Data in queues and channels is for tiles that wait for a get of its line: every event keeps that.
use Rattle.std.proofs.Common.{◌≡◌, ℕ, zero, suc, ◌≤◌, true, false, refl, sym, ◌∙◌, ap, subst, arith, inl, inr, Some, List, [], ◌∷◌, map}
use Rattle.std.specs.Prelude.{◌==◌, ◌&&◌, not, slice_get}
use Rattle.std.proofs.lemmas.Bool.{eq-eqb}
use Rattle.std.proofs.lemmas.Option.{same_Some}
use Rattle.mesh_gen.specs.declared.msg.Msg.{Msg}
use Rattle.mesh_gen.specs.declared.msg_kind.MsgKind.{MsgKind}
use Rattle.mesh_gen.specs.declared.msg_kind.MsgKind.TheVariants.{Data}
use Rattle.mesh_gen.specs.declared.port.Port.{Port}
use Rattle.mesh_gen.specs.declared.request.Request.{Request}
use Rattle.mesh_gen.specs.Ports.{count_if}
use Rattle.mesh_gen.specs.Grid.{tiles}
use Rattle.order_tracker.specs.Order.{upwards}
use Rattle.vc_bank.specs.Places.{Network, at}
use Rattle.vc_bank.proofs.PlaceLaws.{weigh_at, at-empty}
use Rattle.report_text.specs.declared.event.Event.{Event}
use Rattle.report_text.specs.declared.event.Event.TheVariants.{Tick, Core, Inject, Post, Take, Eject, Send, Hop, DataHop, DataEject}
use Rattle.doc_text.specs.Doc.{Doc}
use Rattle.chip_model.specs.Chip.{Chip, chip_of, tile_count}
use Rattle.chip_model.specs.Node.{Node, is_back, after_request_sent, after_message_sent}
use Rattle.chip_model.specs.Units.{UnitState, Behaviour, Acted, opening_unit}
use Rattle.chip_model.specs.ChipState.{ChipState, opening, program_of}
use Rattle.chip_model.specs.BehaviourLaws.{KeepsLaws, Works}
use Rattle.chip_model.specs.NodeShape.{IsCache}
use Rattle.chip_model.specs.Suppliers.{is_data_for, data_in_channels, promised_by, answers_to_come}
use Rattle.chip_model.specs.ChipInvariant.{ProtocolHolds}
use Rattle.snoop_core.proofs.Accesses.{accessed_frame}
use Rattle.chip_laws.specs.DocLaws.{DocLaws}
use Rattle.chip_laws.specs.EventSteps.{ChangesUnit, EventDoes}
use Rattle.chip_laws.specs.Meetings.{UnitsFit}
use Rattle.chip_laws.specs.Parts.{GetsAreSupplied}
use Rattle.chip_laws.specs.MessageLaws.{MessageLaws}
use Rattle.chip_laws.proofs.Deliveries.{deliveries_fit}
use Rattle.chip_laws.proofs.Each.{each_at, each_from}
use Rattle.chip_laws.proofs.Options.{none_some}
use Rattle.chip_laws.proofs.OrderFrames.{holds_at}
use Rattle.chip_laws.proofs.SupplyRoom.{sum_by-part}
use Rattle.chip_laws.proofs.UnitFrames.{each_unit}
use Rattle.chip_laws.proofs.WholeSteps.{delivers_next}
use Rattle.net_iface.proofs.Named.{slice_get_grown}
use Rattle.supply_laws.specs.OpenGets.{WaitsFor, DataAnswersGets}
use Rattle.supply_laws.proofs.Carried.{sent_stands, hopped_stands, received_leaves}
use Rattle.supply_laws.proofs.DataSends.{DataIs, AllDataIs, delivered_data, arrived_data, sent_data}
use Rattle.supply_laws.proofs.GetPlaces.{one_counts, open_place}
use Rattle.supply_laws.proofs.OneToComes.{nothing_comes}
use Rattle.supply_laws.proofs.PlaceEvents.{KeepsPlaces, KeepsOrTicks, keeps_or_ticks}
use Rattle.supply_laws.proofs.GrownPlaces.{grown_place}
use Rattle.supply_laws.proofs.Ticked.{Ticked, ticked}
use Rattle.supply_laws.proofs.WaitingGets.{supplies_waiting, demand_waits, waiters_wait}

-- all data in queues and channels is for such tiles and lines
record AllData (P : ℕ → ℕ → Type 0) (s : ChipState) : Type 0 where
  pub queued : (u : ℕ) (unit : UnitState) → slice_get s.units u ≡ Some unit → AllDataIs P unit.node.out
  pub carried : (router port slot : ℕ) (msg : Msg) → at s.replies router port slot ≡ Some msg → DataIs P msg

all_data : (s : ChipState) → DataAnswersGets s → AllData (WaitsFor s) s
all_data s answers = record {
  queued = λ u unit at. each_from (DataIs (WaitsFor s)) unit.node.out (λ place msg there has. answers.queued u place unit msg at there has);
  carried = λ router port slot msg there has. answers.carried router port slot msg there has;
}

-- ---- what an event leaves in the queues and channels is for tiles that waited before it
module _ (P : ℕ → ℕ → Type 0) (s new : ChipState) (all : AllData P s) where
  same_data : new.units ≡ s.units → new.replies ≡ s.replies → AllData P new
  same_data units replies = record {
    queued = λ u unit at. all.queued u unit (ap (λ (us : List UnitState). slice_get us u) (sym units) ∙ at);
    carried = λ router port slot msg there. all.carried router port slot msg (ap (λ (net : Network Msg). at net router port slot) (sym replies) ∙ there);
  }

  unit_data : (u : ℕ) (unit after : UnitState) → ChangesUnit s new u unit after → AllDataIs P after.node.out
      → ((router port slot : ℕ) (msg : Msg) → at new.replies router port slot ≡ Some msg → DataIs P msg) → AllData P new
  unit_data u unit after c here carried = record {
    queued = each_unit (λ v x. AllDataIs P x.node.out) s new u unit after c here (λ v x away at. all.queued v x at);
    carried = carried;
  }

  same_carried : new.replies ≡ s.replies → (router port slot : ℕ) (msg : Msg) → at new.replies router port slot ≡ Some msg → DataIs P msg
  same_carried replies router port slot msg there = all.carried router port slot msg (ap (λ (net : Network Msg). at net router port slot) (sym replies) ∙ there)

asked_out : (node : Node) → (after_request_sent node).out ≡ node.out
unfolding after_request_sent
asked_out node = refl

core_out : (unit : UnitState) (acted : Acted) → IsCache unit.node.chip unit.node.side.cache → Works unit acted → acted.0.node.out ≡ unit.node.out
core_out unit acted cache works = elim works [
  | inl alone ↦ ap (λ (n : Node). n.out) alone.node
  | inr tries ↦ ap (λ (n : Node). n.out) tries.goes_on.node ∙ ap (λ (n : Node). n.out) (accessed_frame tries.access unit.node tries.left tries.tried cache)
]

module _ (b : Behaviour) (laws : KeepsLaws b) (d : Doc) (s new : ChipState) (fits : DocLaws d) (holds : ProtocolHolds d s) (fit : UnitsFit b laws s) (all : AllData (WaitsFor s) s) where
  P : ℕ → ℕ → Type 0
  P t line = WaitsFor s t line

  core_data : (t : ℕ) → EventDoes b (chip_of d) s new (Core t) → AllData (WaitsFor s) new
  core_data t does =
      let here = holds_at d s holds t does.unit does.changes.at in
      let law = laws.stepped does.unit (fit t does.unit does.changes.at) does.ready in
      unit_data (WaitsFor s) s new all t does.unit (b.stepped does.unit).0 does.changes
      (subst (AllDataIs (WaitsFor s)) (sym (core_out does.unit (b.stepped does.unit) here.holds.node.fits.side.cache law.1)) (all.queued t does.unit does.changes.at))
      (same_carried (WaitsFor s) s new all does.replies)

  eject_data : (t : ℕ) → EventDoes b (chip_of d) s new (Eject t) → AllData (WaitsFor s) new
  eject_data t does =
      let law = laws.delivered does.request does.unit (fit t does.unit does.changes.at) in
      let next = delivers_next d s holds (deliveries_fit d s fits holds) t does.unit does.request new.network does.changes.at does.network in
      unit_data (WaitsFor s) s new all t does.unit (b.delivered does.request does.unit).0 does.changes
      (subst (λ (n : Node). AllDataIs (WaitsFor s) n.out) (sym law.1.goes_on.node)
      (delivered_data (WaitsFor s) does.request does.unit.node (supplies_waiting d s fits holds t does.unit does.request does.changes.at next.at)
      (demand_waits d s fits holds t does.unit does.changes.at) (all.queued t does.unit does.changes.at)))
      (same_carried (WaitsFor s) s new all does.replies)

  send_data : (t : ℕ) → EventDoes b (chip_of d) s new (Send t) → AllData (WaitsFor s) new
  send_data t does =
      unit_data (WaitsFor s) s new all t does.unit (record does.unit { node = after_message_sent does.unit.node }) does.changes
      (sent_data (WaitsFor s) does.unit.node (all.queued t does.unit does.changes.at))
      (λ router port slot msg there.
      sent_stands s.replies new.replies t does.msg router port slot msg does.replies there
      (λ same. subst (DataIs (WaitsFor s)) (sym same) (each_at (DataIs (WaitsFor s)) does.unit.node.out 0 does.msg (all.queued t does.unit does.changes.at) does.first))
      (λ before. all.carried router port slot msg before))

  comes_data : (r : ℕ) (port : Port) (slot : ℕ) → EventDoes b (chip_of d) s new (DataEject r port slot) → AllData (WaitsFor s) new
  comes_data r port slot does =
      let law = laws.received does.msg does.unit (fit r does.unit does.changes.at) in
      unit_data (WaitsFor s) s new all r does.unit (b.received does.msg does.unit).0 does.changes
      (subst (λ (n : Node). AllDataIs (WaitsFor s) n.out) (sym law.1.goes_on.node)
      (arrived_data (WaitsFor s) does.msg does.unit.node (demand_waits d s fits holds r does.unit does.changes.at)
      (λ back record_is at_record. waiters_wait d s fits holds r does.unit does.msg.line record_is does.changes.at at_record)
      (all.queued r does.unit does.changes.at)))
      (λ router q i msg there. all.carried router q i msg (received_leaves s.replies new.replies r port slot does.msg router q i msg does.replies there))

  event_data : (event : Event) → EventDoes b (chip_of d) s new event → AllData (WaitsFor s) new
  event_data Tick does = same_data (WaitsFor s) s new all does.units does.replies
  event_data (Core t) does = core_data t does
  event_data (Inject t) does =
      unit_data (WaitsFor s) s new all t does.unit (record does.unit { node = after_request_sent does.unit.node }) does.changes
      (subst (AllDataIs (WaitsFor s)) (sym (asked_out does.unit.node)) (all.queued t does.unit does.changes.at)) (same_carried (WaitsFor s) s new all does.replies)
  event_data (Post t) does = same_data (WaitsFor s) s new all does.units does.replies
  event_data (Take t) does = same_data (WaitsFor s) s new all does.units does.replies
  event_data (Eject t) does = eject_data t does
  event_data (Send t) does = send_data t does
  event_data (Hop r port slot out) does = same_data (WaitsFor s) s new all does.units does.replies
  event_data (DataHop r port slot) does = record {
    queued = (same_data_units does.units);
    carried = λ router q i msg there. hopped_stands (chip_of d).grid s.replies new.replies r port slot router q i msg does.replies there (λ u v w stood. all.carried u v w msg stood);
  }
    where
      same_data_units : new.units ≡ s.units → (u : ℕ) (unit : UnitState) → slice_get new.units u ≡ Some unit → AllDataIs (WaitsFor s) unit.node.out
      same_data_units units u unit at = all.queued u unit (ap (λ (us : List UnitState). slice_get us u) (sym units) ∙ at)
  event_data (DataEject r port slot) does = comes_data r port slot does

-- ---- those that waited wait still
is_for : (msg : Msg) → msg.kind ≡ Data → is_data_for msg.to msg ≡ true
is_for msg has = ap (λ (k : MsgKind). not (is_back k) && (msg.to == msg.to)) has ∙ eq-eqb msg.to msg.to refl

queued_counts : (chip : Chip) (s : ChipState) (u place : ℕ) (unit : UnitState) (msg : Msg) → slice_get s.units u ≡ Some unit → slice_get unit.node.out place ≡ Some msg → msg.kind ≡ Data
    → 1 ≤ answers_to_come chip s msg.to
queued_counts chip s u place unit msg at there has =
    let one = one_counts (is_data_for msg.to) unit.node.out place msg there (is_for msg has) in
    let part = sum_by-part (promised_by msg.to) s.units u unit at in
    omega (arith, one, part)

pub carried_counts : (chip : Chip) (s : ChipState) (router port slot : ℕ) (msg : Msg) → at s.replies router port slot ≡ Some msg → msg.kind ≡ Data → 1 ≤ answers_to_come chip s msg.to
carried_counts chip s router port slot msg there has =
    let one : count_if (is_data_for msg.to msg) ≡ 1 = ap count_if (is_for msg has) in
    let sum = weigh_at (λ r p i m. count_if (is_data_for msg.to m)) s.replies router port slot msg there in
    let some : 1 ≤ data_in_channels s msg.to = omega (arith, one, sum) in
    omega (arith, some)

still_waits : (d : Doc) (s new : ChipState) (t line : ℕ) → ProtocolHolds d s → KeepsPlaces s new → GetsAreSupplied d new → WaitsFor s t line → 1 ≤ answers_to_come (chip_of d) new t
    → WaitsFor new t line
still_waits d s new t line holds keeps supplied was some =
    let now = keeps.stands t was.unit was.unit_at in
    let here = holds_at d s holds t was.unit was.unit_at in
    elim (keeps.places t was.unit now.0 was.unit_at now.1) [
      | inl same ↦ record {
        unit = now.0;
        unit_at = now.1;
        place = was.place;
        waits = same ∙ was.waits;
        get = was.get;
        get_at = ap (λ (ordered : List Request). slice_get ordered was.place) keeps.order ∙ was.get_at;
        same = was.same;
      }
      | inr ends ↦ (
          let none = nothing_comes (chip_of d) new t now.0.node (keeps.tiles t was.unit now.0 was.unit_at now.1 ∙ here.holds.node.agrees.tile) (supplied t now.0 now.1) ends.0 in
          absurd (omega (arith, none, some)))
    ]

ticked_waits : (d : Doc) (s new : ChipState) (t line : ℕ) → Ticked d s new → WaitsFor s t line → WaitsFor new t line
ticked_waits d s new t line is was = record {
  unit = was.unit;
  unit_at = ap (λ (us : List UnitState). slice_get us t) is.units ∙ was.unit_at;
  place = was.place;
  waits = ap (λ (ordered : List Request). open_place ordered was.unit.node) is.order ∙ elim (grown_place s.network.ordered is.more was.unit.node) [
    | inl same ↦ same ∙ was.waits
    | inr comes ↦ none_some was.place (sym comes.none ∙ was.waits)
  ];
  get = was.get;
  get_at = ap (λ (ordered : List Request). slice_get ordered was.place) is.order ∙ slice_get_grown s.network.ordered is.more was.place was.get was.get_at;
  same = was.same;
}

waits_on : (d : Doc) (s new : ChipState) (t line : ℕ) → DocLaws d → ProtocolHolds d s → KeepsOrTicks (chip_of d) s new → GetsAreSupplied d new → 1 ≤ answers_to_come (chip_of d) new t
    → WaitsFor s t line → WaitsFor new t line
waits_on d s new t line fits holds (inl keeps) supplied some was = still_waits d s new t line holds keeps supplied was some
waits_on d s new t line fits holds (inr ticks) supplied some was = ticked_waits d s new t line (ticked d s new fits holds ticks) was

-- before any event no queue and no channel holds a message
empty_queue : (d : Doc) (tiles : List ℕ) (k : ℕ) (unit : UnitState) → slice_get (map (λ (tile : ℕ). opening_unit (chip_of d) tile (program_of d tile) d.memory) tiles) k ≡ Some unit
    → unit.node.out ≡ []
empty_queue d [] k unit at = none_some unit at
empty_queue d (tile ∷ tiles) zero unit at = ap (λ (u : UnitState). u.node.out) (sym (same_Some (opening_unit (chip_of d) tile (program_of d tile) d.memory) unit at))
empty_queue d (tile ∷ tiles) (suc k) unit at = empty_queue d tiles k unit at

pub data_answers_opened : (d : Doc) → DataAnswersGets (opening d)
data_answers_opened d = record {
  queued = λ u place unit msg at there has.
      none_some msg (sym (ap (λ (out : List Msg). slice_get out place) (empty_queue d (upwards 0 (tile_count (chip_of d))) u unit at)) ∙ there);
  carried = λ router port slot msg there has. none_some msg (sym (at-empty (tiles (chip_of d).grid) d.data_vcs false router port slot) ∙ there);
}

pub data_answers_kept : MessageLaws → (b : Behaviour) (laws : KeepsLaws b) (d : Doc) (s new : ChipState) (event : Event) → DocLaws d → ProtocolHolds d s → UnitsFit b laws s → DataAnswersGets s
    → EventDoes b (chip_of d) s new event → GetsAreSupplied d new → DataAnswersGets new
data_answers_kept messages b laws d s new event fits holds fit answers does supplied =
    let goes = keeps_or_ticks messages b laws d s new fits holds fit event does in
    let all = event_data b laws d s new fits holds fit (all_data s answers) event does in
    record {
      queued = λ u place unit msg at there has.
          waits_on d s new msg.to msg.line fits holds goes supplied (queued_counts (chip_of d) new u place unit msg at there has)
          (each_at (DataIs (WaitsFor s)) unit.node.out place msg (all.queued u unit at) there has);
      carried = λ router port slot msg there has.
          waits_on d s new msg.to msg.line fits holds goes supplied (carried_counts (chip_of d) new router port slot msg there has) (all.carried router port slot msg there has);
    }
