-- In every state that a run comes to, no core has done more instructions, no tile has delivered more requests, and no more
-- accesses were performed, than there are events.
use Rattle.std.proofs.Common.{◌≡◌, ◌≢◌, ◌⊎◌, ℕ, zero, suc, ◌+◌, ◌<◌, ◌≤◌, List, [], ◌∷◌, Option, Some, None, length, sym, ◌∙◌, ap, subst, arith, inl, inr, zero-add}
use Rattle.std.specs.Prelude.{slice_get, map}
use Rattle.std.proofs.lemmas.List.{length-append}
use Rattle.std.proofs.lemmas.Option.{option_and_then_some, same_Some}
use Rattle.report_text.specs.declared.access.Access.{Access}
use Rattle.report_text.specs.declared.event.Event.{Event}
use Rattle.report_text.specs.declared.event.Event.TheVariants.{Tick, Core, Inject, Post, Take, Eject, Send, Hop, DataHop, DataEject}
use Rattle.doc_text.specs.Doc.{Doc}
use Rattle.order_tracker.specs.Order.{upwards}
use Rattle.chip_model.specs.Chip.{chip_of, tile_count}
use Rattle.chip_model.specs.NodeShape.{IsCache}
use Rattle.chip_model.specs.Node.{Node, after_request_sent, after_message_sent}
use Rattle.chip_model.specs.Units.{UnitState, Acted, Behaviour, opening_unit}
use Rattle.chip_model.specs.ChipState.{ChipState, opening, program_of}
use Rattle.chip_model.specs.Events.{with_access, step}
use Rattle.chip_model.specs.Runs.{noted, after, run}
use Rattle.chip_model.specs.BehaviourLaws.{KeepsLaws, Works}
use Rattle.chip_model.specs.ChipInvariant.{ProtocolHolds}
use Rattle.chip_laws.specs.DeliveryCounts.{CountsDeliveries}
use Rattle.chip_laws.specs.EventSteps.{ChangesUnit, EventDoes}
use Rattle.chip_laws.specs.Tiles.{TileOf}
use Rattle.core_unit.specs.Counts.{CountsOne}
use Rattle.machine_core.specs.Counts.{IsCounted, UnitCounted}
use Rattle.supply_laws.specs.Reachable.{StateHolds}

-- what the laws below say of the events and the tiles of a chip
pub record EventLaws (b : Behaviour) (laws : KeepsLaws b) (d : Doc) : Type 0 where
  pub keeps : (s new : ChipState) (event : Event) → StateHolds b laws d s → after b (chip_of d) s event ≡ Some new → StateHolds b laws d new
  pub steps : (s new : ChipState) (event : Event) → after b (chip_of d) s event ≡ Some new
      → (left : ChipState) × (step b (chip_of d) s event ≡ Some left) × (noted event left ≡ new)
  pub does : (s new : ChipState) (event : Event) → step b (chip_of d) s event ≡ Some new → EventDoes b (chip_of d) s new event
  pub units : (s new : ChipState) (t u : ℕ) (unit changed other : UnitState) → ChangesUnit s new t unit changed → slice_get new.units u ≡ Some other
      → ((u ≡ t) × (changed ≡ other)) ⊎ ((u ≢ t) × (slice_get s.units u ≡ Some other))
  pub counts : (node : Node) → CountsDeliveries node
  pub tile : (s : ChipState) (t : ℕ) → ProtocolHolds d s → t < tile_count (chip_of d) → TileOf d s t
  pub inside : (s : ChipState) (t : ℕ) (unit : UnitState) → ProtocolHolds d s → slice_get s.units t ≡ Some unit → t < tile_count (chip_of d)

-- one more of each at most
record OneMore (old new : UnitState) : Type 0 where
  steps : new.core.steps ≤ old.core.steps + 1
  delivered : new.node.delivered ≤ old.node.delivered + 1

access_more : (access : Option Access) (accesses : List Access) → length (with_access access accesses) ≤ length accesses + 1
access_more None accesses = omega arith
access_more (Some access) accesses = omega (arith, length-append accesses (access ∷ []))

module _ (b : Behaviour) (laws : KeepsLaws b) (one : CountsOne b) (d : Doc) (known : EventLaws b laws d) where
  quiet : (n : ℕ) (s left : ChipState) → left.units ≡ s.units → left.accesses ≡ s.accesses → IsCounted n s → IsCounted (n + 1) left
  quiet n s left same accesses h = record {
    units = λ t unit at.
        let was = h.units t unit (ap (λ (units : List UnitState). slice_get units t) (sym same) ∙ at) in
        record { steps = omega (arith, was.steps); delivered = omega (arith, was.delivered) };
    accesses = omega (arith, h.accesses, ap (λ (a : List Access). length a) accesses);
  }

  works : (n : ℕ) (s left : ChipState) (t : ℕ) (unit new : UnitState) (access : Option Access) → ChangesUnit s left t unit new → OneMore unit new
      → left.accesses ≡ with_access access s.accesses → IsCounted n s → IsCounted (n + 1) left
  works n s left t unit new access changes more accesses h = record {
    units = λ u other at. elim (known.units s left t u unit new other changes at) [
      | inl changed ↦ (
          let was = h.units t unit changes.at in
          subst (UnitCounted (n + 1)) changed.1
          (record { steps = omega (arith, more.steps, was.steps); delivered = omega (arith, more.delivered, was.delivered) }))
      | inr there ↦ (
          let was = h.units u other there.1 in
          record { steps = omega (arith, was.steps); delivered = omega (arith, was.delivered) })
    ];
    accesses = omega (arith, h.accesses, ap (λ (a : List Access). length a) accesses, access_more access s.accesses);
  }

  -- a core event delivers nothing
  worked : (s : ChipState) (t : ℕ) (unit : UnitState) (acted : Acted) → ProtocolHolds d s → slice_get s.units t ≡ Some unit → Works unit acted
      → acted.0.node.delivered ≡ unit.node.delivered
  worked s t unit acted holds at by = elim by [
    | inl alone ↦ ap (λ (n : Node). n.delivered) alone.node
    | inr tries ↦ (
        let tile = known.tile s t holds (known.inside s t unit holds at) in
        let same : tile.unit ≡ unit = same_Some tile.unit unit (sym tile.unit_at ∙ at) in
        let fits = subst (λ (u : UnitState). IsCache u.node.chip u.node.side.cache) same tile.holds.node.fits.side.cache in
        ap (λ (n : Node). n.delivered) tries.goes_on.node ∙ (known.counts unit.node).accessed tries.access tries.left fits tries.tried)
  ]

  sent_more : (unit : UnitState) (node : Node) → node.delivered ≡ unit.node.delivered → OneMore unit (record unit { node = node })
  sent_more unit node same = record { steps = omega arith; delivered = omega (arith, same) }

  -- an event counts one more at most
  event_counted : (n : ℕ) (s left : ChipState) (event : Event) → StateHolds b laws d s → EventDoes b (chip_of d) s left event
      → IsCounted n s → IsCounted (n + 1) left
  event_counted n s left Tick holds does h = quiet n s left does.units does.accesses h
  event_counted n s left (Core t) holds does h =
      let law = laws.stepped does.unit (holds.fit t does.unit does.changes.at) does.ready in
      let same = worked s t does.unit (b.stepped does.unit) holds.protocol does.changes.at law.1 in
      works n s left t does.unit (b.stepped does.unit).0 (b.stepped does.unit).1 does.changes
      (record { steps = one.stepped does.unit; delivered = omega (arith, same) }) does.accesses h
  event_counted n s left (Inject t) holds does h =
      works n s left t does.unit (record does.unit { node = after_request_sent does.unit.node }) None does.changes
      (sent_more does.unit (after_request_sent does.unit.node) (known.counts does.unit.node).asked) does.accesses h
  event_counted n s left (Post t) holds does h = quiet n s left does.units does.accesses h
  event_counted n s left (Take t) holds does h = quiet n s left does.units does.accesses h
  event_counted n s left (Eject t) holds does h =
      let law = laws.delivered does.request does.unit (holds.fit t does.unit does.changes.at) in
      let same = ap (λ (x : Node). x.delivered) law.1.goes_on.node in
      works n s left t does.unit (b.delivered does.request does.unit).0 (b.delivered does.request does.unit).1 does.changes
      (record { steps = one.delivered does.request does.unit; delivered = omega (arith, same, (known.counts does.unit.node).delivered does.request) })
      does.accesses h
  event_counted n s left (Send t) holds does h =
      works n s left t does.unit (record does.unit { node = after_message_sent does.unit.node }) None does.changes
      (sent_more does.unit (after_message_sent does.unit.node) (known.counts does.unit.node).sent) does.accesses h
  event_counted n s left (Hop r port slot out) holds does h = quiet n s left does.units does.accesses h
  event_counted n s left (DataHop r port slot) holds does h = quiet n s left does.units does.accesses h
  event_counted n s left (DataEject r port slot) holds does h =
      let law = laws.received does.msg does.unit (holds.fit r does.unit does.changes.at) in
      let same = ap (λ (x : Node). x.delivered) law.1.goes_on.node in
      works n s left r does.unit (b.received does.msg does.unit).0 (b.received does.msg does.unit).1 does.changes
      (record { steps = one.received does.msg does.unit; delivered = omega (arith, same, (known.counts does.unit.node).arrived does.msg) })
      does.accesses h

  noted_counted : (n : ℕ) (s : ChipState) (event : Event) → IsCounted n s → IsCounted n (noted event s)
  noted_counted n s event h = record { units = h.units; accesses = h.accesses }

  run_counted : (events : List Event) (n : ℕ) (s last : ChipState) → StateHolds b laws d s → IsCounted n s
      → run b (chip_of d) s events ≡ Some last → IsCounted (n + length events) last
  unfolding run
  run_counted [] n s last holds h e =
      subst (λ (x : ChipState). IsCounted (n + 0) x) (same_Some s last e) (subst (λ (m : ℕ). IsCounted m s) (omega arith) h)
  run_counted (event ∷ events) n s last holds h e =
      option_and_then_some (λ new. run b (chip_of d) new events) (after b (chip_of d) s event) last e (λ new first rest.
      let made = known.steps s new event first in
      let does = known.does s made.0 event made.1 in
      let counted = subst (IsCounted (n + 1)) made.2 (noted_counted (n + 1) made.0 event (event_counted n s made.0 event holds does h)) in
      subst (λ (m : ℕ). IsCounted m last) (omega arith) (run_counted events (n + 1) new last (known.keeps s new event holds first) counted rest))

-- at the opening nothing is counted
opened_counted : (d : Doc) → IsCounted 0 (opening d)
opened_counted d = record {
  units = λ t unit at. by (upwards 0 (tile_count (chip_of d))) t unit at;
  accesses = omega arith;
}
  where
    by : (tiles : List ℕ) (t : ℕ) (unit : UnitState)
        → slice_get (map (λ tile. opening_unit (chip_of d) tile (program_of d tile) d.memory) tiles) t ≡ Some unit → UnitCounted 0 unit
    by [] t unit at = cc
    by (tile ∷ tiles) zero unit at =
        subst (UnitCounted 0) (same_Some (opening_unit (chip_of d) tile (program_of d tile) d.memory) unit at)
        (record { steps = omega arith; delivered = omega arith })
    by (tile ∷ tiles) (suc t) unit at = by tiles t unit at

-- every state that a run comes to
pub reached_counted : (b : Behaviour) (laws : KeepsLaws b) → CountsOne b → (d : Doc) → EventLaws b laws d → (s : ChipState) → StateHolds b laws d (opening d)
    → run b (chip_of d) (opening d) s.journal ≡ Some s → IsCounted (length s.journal) s
reached_counted b laws one d known s holds e =
    subst (λ (n : ℕ). IsCounted n s) (zero-add (length s.journal))
    (run_counted b laws one d known s.journal 0 (opening d) s holds (opened_counted d) e)
