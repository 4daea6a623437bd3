-- What a delivery is to the nodes and to the order, from what holds of the chip: the parts' lemmas on one event, joined.
use Rattle.std.proofs.Common.{◌≡◌, Some}
use Rattle.report_text.specs.declared.event.Event.{Event}
use Rattle.report_text.specs.declared.event.Event.TheVariants.{Tick, Core, Inject, Post, Take, Eject, Send, Hop, DataHop, DataEject}
use Rattle.doc_text.specs.Doc.{Doc}
use Rattle.chip_model.specs.Chip.{chip_of}
use Rattle.chip_model.specs.Units.{Behaviour}
use Rattle.chip_model.specs.ChipState.{ChipState}
use Rattle.chip_model.specs.Events.{step}
use Rattle.chip_model.specs.BehaviourLaws.{KeepsLaws}
use Rattle.chip_model.specs.ChipInvariant.{ProtocolHolds}
use Rattle.chip_laws.specs.DocLaws.{DocLaws}
use Rattle.chip_laws.specs.EventSteps.{EventDoes}
use Rattle.chip_laws.specs.Meetings.{DeliveriesFit, UnitsFit}
use Rattle.chip_laws.specs.Parts.{GetsAreSupplied}
use Rattle.chip_laws.specs.MessageLaws.{MessageLaws}
use Rattle.chip_laws.proofs.EventSteps.{event_does}
use Rattle.chip_laws.proofs.NodeKeeps.{node_keeps}
use Rattle.chip_laws.proofs.TileAgreements.{own_request_fits}
use Rattle.chip_laws.proofs.NetworkFrames.{ticked_views, taken_views, hopped_views, posted_views, injected_sets, delivered_sets}
use Rattle.chip_laws.proofs.RequestsInside.{request_inside}
use Rattle.chip_laws.proofs.OrderFrames.{DeliversNext, holds_at}
use Rattle.chip_laws.proofs.SuppliedEvents.{OrderGoes, supplied_event}

-- what a tile delivers is the next request of the order, and one of its own is that of its demand or its write-back
pub delivers_next : (d : Doc) (s : ChipState) → ProtocolHolds d s → DeliveriesFit d s → DeliversNext (chip_of d) s
delivers_next d s holds next t unit q net at delivered =
    let here = holds_at d s holds t unit at in
    let before = node_keeps d s t here.interface unit.node here.holds.node in
    record {
      at = next t unit q net at delivered;
      own = own_request_fits s.network t here.interface unit.node q (record {
        agrees = holds.network.requests.agree t here.interface here.at;
        at = next t unit q net at delivered;
        keeps = before.keeps;
      });
    }

-- where the order grows, and what is delivered
pub order_goes : (b : Behaviour) (d : Doc) (s new : ChipState) (event : Event) → DocLaws d → ProtocolHolds d s → DeliveriesFit d s
    → (does : EventDoes b (chip_of d) s new event) → OrderGoes b (chip_of d) s new event does
order_goes b d s new Tick fits holds next does = let v = ticked_views (chip_of d) s.network new.network does.network in (v.more, v.ordered)
order_goes b d s new (Post t) fits holds next does = let v = posted_views s.network new.network t does.network in (v.more, v.ordered)
order_goes b d s new (Take t) fits holds next does = let v = taken_views s.network new.network t does.network in (v.more, v.ordered)
order_goes b d s new (Hop r port slot out) fits holds next does = let v = hopped_views (chip_of d) s.network new.network r port slot out does.network in (v.more, v.ordered)
order_goes b d s new (Inject t) fits holds next does = (injected_sets (chip_of d) s.network new.network t does.kind does.line does.network).1.ordered
order_goes b d s new (Eject t) fits holds next does =
    let at = next t does.unit does.request new.network does.changes.at does.network in (
      (delivered_sets (chip_of d) s.network new.network t does.request does.network).1.ordered,
      at,
      (request_inside d s does.unit.node.delivered does.request fits holds at).line,
    )
order_goes b d s new (Core t) fits holds next does = _
order_goes b d s new (Send t) fits holds next does = _
order_goes b d s new (DataHop r port slot) fits holds next does = _
order_goes b d s new (DataEject r port slot) fits holds next does = _

-- who answers the gets, after an event
pub supplied_after : MessageLaws → (b : Behaviour) (laws : KeepsLaws b) (d : Doc) (s new : ChipState) (event : Event) → DocLaws d → ProtocolHolds d s → UnitsFit b laws s
    → DeliveriesFit d s → step b (chip_of d) s event ≡ Some new → GetsAreSupplied d new
supplied_after messages b laws d s new event fits holds fit next e =
    let does = event_does b (chip_of d) s new event e in
    supplied_event b laws d s new event messages fits.doc.chip.tiles holds fit does (order_goes b d s new event fits holds next does)
    (λ t unit at. (holds_at d s holds t unit at).holds.serves.supplied)
