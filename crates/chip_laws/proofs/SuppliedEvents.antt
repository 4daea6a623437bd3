-- Every event keeps that each get that is ordered and not complete is answered from exactly one place: the table by kind.
use Rattle.std.proofs.Common.{◌≡◌, ℕ, ◌<◌, ◌≤◌, List, ◌++◌, length, refl, sym, ap, subst, arith, inl, inr, Option, Some, None}
use Rattle.std.specs.Prelude.{slice_get}
use Rattle.std.proofs.lemmas.Option.{slice_get_within}
use Rattle.mesh_gen.specs.declared.request.Request.{Request}
use Rattle.mesh_gen.specs.Routes.{HasTiles}
use Rattle.report_text.specs.declared.event.Event.{Event}
use Rattle.report_text.specs.declared.event.Event.TheVariants.{Tick, Core, Inject, Post, Take, Eject, Send, Hop, DataHop, DataEject}
use Rattle.doc_text.specs.Doc.{Doc}
use Rattle.chip_model.specs.Chip.{Chip, chip_of}
use Rattle.chip_model.specs.OrderedNetwork.{OrderedNetwork, Interface}
use Rattle.chip_model.specs.Node.{after_request_sent, after_message_sent}
use Rattle.chip_model.specs.Units.{UnitState, Acted, Behaviour}
use Rattle.chip_model.specs.ChipState.{ChipState}
use Rattle.chip_model.specs.BehaviourLaws.{KeepsLaws, Works}
use Rattle.chip_model.specs.NodeShape.{IsCache}
use Rattle.chip_model.specs.ChipInvariant.{UnitHolds, ProtocolHolds}
use Rattle.chip_model.specs.Suppliers.{count_of, delivered_at}
use Rattle.net_iface.proofs.Places.{item_at}
use Rattle.chip_laws.specs.EventSteps.{EventDoes, ChangesNetwork}
use Rattle.chip_laws.specs.Meetings.{UnitsFit}
use Rattle.chip_laws.specs.MessageLaws.{MessageLaws}
use Rattle.chip_laws.proofs.TileAgreements.{keeps_of, own_request_fits}
use Rattle.chip_laws.proofs.SupplyAccounts.{SameSupply, accessed_supply, asked_supply}
use Rattle.chip_laws.proofs.SupplyBounds.{one_open}
use Rattle.chip_laws.proofs.SupplyFrames.{EachIsSupplied}
use Rattle.chip_laws.proofs.Supplied.{supplied_hop, supplied_grown, supplied_quiet, supplied_sent}
use Rattle.chip_laws.proofs.SuppliedComes.{Delivers, Comes, supplied_delivered, supplied_comes}

-- the interface of each unit's tile, and what holds of both
pub record Holds (d : Doc) (s : ChipState) (t : ℕ) (unit : UnitState) : Type 0 where
  pub interface : Interface
  pub at : slice_get s.network.interfaces t ≡ Some interface
  pub holds : UnitHolds d s t interface unit

pub unit_holds : (d : Doc) (s : ChipState) (t : ℕ) (unit : UnitState) → ProtocolHolds d s → slice_get s.units t ≡ Some unit → Holds d s t unit
unit_holds d s t unit holds at =
    let within = slice_get_within s.units t unit at in
    let interface = item_at s.network.interfaces t (omega (arith, within, holds.units, holds.network.requests.interfaces)) in
    record { interface = interface.item; at = interface.there; holds = holds.tiles t interface.item unit interface.there at }

-- no tile has delivered more than there is
pub delivered_within : (d : Doc) (s : ChipState) → ProtocolHolds d s → (v : ℕ) → delivered_at s v ≤ length s.network.ordered
delivered_within d s holds v = by (slice_get s.units v) refl where
  by : (entry : Option UnitState) → slice_get s.units v ≡ entry → count_of entry ≤ length s.network.ordered
  by None at = omega arith
  by (Some unit) at =
      let own = unit_holds d s v unit holds at in
      omega (arith, own.holds.node.agrees.counts, (holds.network.requests.agree v own.interface own.at).within)

delivers : (d : Doc) (s : ChipState) (t : ℕ) (unit : UnitState) (q : Request) → ProtocolHolds d s → slice_get s.units t ≡ Some unit
    → slice_get s.network.ordered unit.node.delivered ≡ Some q → q.line < (chip_of d).lines → Delivers (chip_of d) s.network.ordered t unit.node q
delivers d s t unit q holds at next line =
    let own = unit_holds d s t unit holds at in
    let node = own.holds.node in
    let agrees = holds.network.requests.agree t own.interface own.at in
    record {
      of = node.chip;
      tile = node.agrees.tile;
      fits = node.fits;
      owns = own.holds.serves.owns;
      few = one_open s.network t own.interface unit.node agrees node.agrees;
      next = next;
      line = subst (λ (chip : Chip). q.line < chip.lines) (sym node.chip) line;
      meets = own_request_fits s.network t own.interface unit.node q (record { agrees = agrees; at = next; keeps = keeps_of s.network t own.interface unit.node node.agrees node.followed });
    }

takes_in : (d : Doc) (s : ChipState) (t : ℕ) (unit : UnitState) → ProtocolHolds d s → slice_get s.units t ≡ Some unit → Comes s.network.ordered t unit.node
takes_in d s t unit holds at =
    let own = unit_holds d s t unit holds at in
    record {
      fits = own.holds.node.fits;
      few = one_open s.network t own.interface unit.node (holds.network.requests.agree t own.interface own.at) own.holds.node.agrees;
    }

-- the network grows its order by some requests
abbrev pub MayOrder : ChipState → ChipState → Type 0
MayOrder s new = (more : List Request) × (new.network.ordered ≡ s.network.ordered ++ more)

-- what an event does to the order: those of the ordered network may order more; what is delivered is its next request
abbrev pub OrderGoes : (b : Behaviour) (chip : Chip) (s new : ChipState) (event : Event) → EventDoes b chip s new event → Type 0
OrderGoes b chip s new Tick does = MayOrder s new
OrderGoes b chip s new (Post t) does = MayOrder s new
OrderGoes b chip s new (Take t) does = MayOrder s new
OrderGoes b chip s new (Hop r port slot out) does = MayOrder s new
OrderGoes b chip s new (Inject t) does = new.network.ordered ≡ s.network.ordered
OrderGoes b chip s new (Eject t) does =
    (new.network.ordered ≡ s.network.ordered) × (slice_get s.network.ordered does.unit.node.delivered ≡ Some does.request) × (does.request.line < chip.lines)
OrderGoes b chip s new (Core t) does = Unit {0}
OrderGoes b chip s new (Send t) does = Unit {0}
OrderGoes b chip s new (DataHop r port slot) does = Unit {0}
OrderGoes b chip s new (DataEject r port slot) does = Unit {0}

-- a core event leaves what a node has promised
core_supply : (unit : UnitState) (acted : Acted) → IsCache unit.node.chip unit.node.side.cache → Works unit acted → SameSupply unit.node acted.0.node
core_supply unit acted cache works = elim works [
  | inl alone ↦ subst (SameSupply unit.node) (sym alone.node) (record { promises = λ t. refl; stays = record { early = refl; ordered = refl }; delivered = refl })
  | inr tries ↦ subst (SameSupply unit.node) (sym tries.goes_on.node) (accessed_supply tries.access unit.node tries.left tries.tried cache)
]

network_event : (d : Doc) (s new : ChipState) (step : Option OrderedNetwork) → ProtocolHolds d s → ChangesNetwork step s new → MayOrder s new
    → EachIsSupplied (chip_of d) s → EachIsSupplied (chip_of d) new
network_event d s new step holds does orders =
    supplied_grown (chip_of d) s new orders.0 (record { units = does.units; order = orders.1; replies = does.replies }) (delivered_within d s holds)

same_order : (s new : ChipState) → new.network ≡ s.network → new.network.ordered ≡ s.network.ordered
same_order s new same = ap (λ (net : OrderedNetwork). net.ordered) same

pub supplied_event : (b : Behaviour) (laws : KeepsLaws b) (d : Doc) (s new : ChipState) (event : Event) → MessageLaws → HasTiles (chip_of d).grid → ProtocolHolds d s → UnitsFit b laws s
    → (does : EventDoes b (chip_of d) s new event) → OrderGoes b (chip_of d) s new event does → EachIsSupplied (chip_of d) s → EachIsSupplied (chip_of d) new
supplied_event b laws d s new Tick messages some holds fit does order = network_event d s new _ holds does order
supplied_event b laws d s new (Post t) messages some holds fit does order = network_event d s new _ holds does order
supplied_event b laws d s new (Take t) messages some holds fit does order = network_event d s new _ holds does order
supplied_event b laws d s new (Hop r port slot out) messages some holds fit does order = network_event d s new _ holds does order
supplied_event b laws d s new (Core t) messages some holds fit does order =
    let own = unit_holds d s t does.unit holds does.changes.at in
    let works = laws.stepped does.unit (fit t does.unit does.changes.at) does.ready in
    supplied_quiet (chip_of d) s new t does.unit (b.stepped does.unit).0 does.changes (same_order s new does.network) does.replies
    (core_supply does.unit (b.stepped does.unit) own.holds.node.fits.side.cache works.1)
supplied_event b laws d s new (Inject t) messages some holds fit does order =
    supplied_quiet (chip_of d) s new t does.unit (record does.unit { node = after_request_sent does.unit.node }) does.changes order does.replies (asked_supply does.unit.node)
supplied_event b laws d s new (Eject t) messages some holds fit does order =
    let law = laws.delivered does.request does.unit (fit t does.unit does.changes.at) in
    supplied_delivered (chip_of d) s new t does.unit (b.delivered does.request does.unit).0 does.request does.changes law.1.goes_on.node order.0 does.replies
    (delivers d s t does.unit does.request holds does.changes.at order.1 order.2)
supplied_event b laws d s new (Send t) messages some holds fit does order =
    supplied_sent messages (chip_of d) s new t does.unit (record does.unit { node = after_message_sent does.unit.node }) does.msg does.changes refl does.first does.replies does.network
supplied_event b laws d s new (DataHop r port slot) messages some holds fit does order =
    supplied_hop (chip_of d) s new r port slot messages some does.replies does.units does.network
supplied_event b laws d s new (DataEject r port slot) messages some holds fit does order =
    let law = laws.received does.msg does.unit (fit r does.unit does.changes.at) in
    supplied_comes messages (chip_of d) s new r does.unit (b.received does.msg does.unit).0 port slot does.msg does.changes law.1.goes_on.node does.replies
    (same_order s new does.network) (takes_in d s r does.unit holds does.changes.at)
