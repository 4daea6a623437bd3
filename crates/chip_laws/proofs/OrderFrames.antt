-- What holds of each node against the order goes on holding over every event, where each step of a node keeps it.
use Rattle.std.proofs.Common.{◌≡◌, ℕ, zero, suc, ◌<◌, ◌≤◌, Some, List, [], ◌∷◌, ◌++◌, length, slice_get, refl, sym, ap, subst, arith, inl, inr}
use Rattle.std.proofs.lemmas.List.{append-nil}
use Rattle.std.proofs.lemmas.Option.{slice_get_within}
use Rattle.mesh_gen.specs.declared.msg.Msg.{Msg}
use Rattle.mesh_gen.specs.declared.request.Request.{Request}
use Rattle.report_text.specs.declared.event.Event.{Event}
use Rattle.report_text.specs.declared.event.Event.TheVariants.{Tick, Core, Inject, Post, Take, Eject, Send, Hop, DataHop, DataEject}
use Rattle.doc_text.specs.Doc.{Doc}
use Rattle.chip_model.specs.declared.pending.Pending.{Pending}
use Rattle.chip_model.specs.Chip.{Chip}
use Rattle.chip_model.specs.OrderedNetwork.{OrderedNetwork, Interface, after_delivery}
use Rattle.chip_model.specs.Misses.{Demand}
use Rattle.chip_model.specs.Node.{Node, Performed, node_after_access, node_after_request, node_after_message, after_request_sent, after_message_sent}
use Rattle.chip_model.specs.Units.{UnitState, Acted, Behaviour}
use Rattle.chip_model.specs.ChipState.{ChipState}
use Rattle.chip_model.specs.NodeShape.{NodeFits}
use Rattle.chip_model.specs.Ownership.{OwnsByOrder}
use Rattle.chip_model.specs.Bookkeeping.{IsOrderedAt, DemandIsFollowed}
use Rattle.chip_model.specs.Writers.{WritersFit}
use Rattle.chip_model.specs.ChipInvariant.{UnitHolds, ProtocolHolds}
use Rattle.chip_model.specs.BehaviourLaws.{KeepsLaws, Works}
use Rattle.snoop_core.specs.Requests.{OwnRequestFits}
use Rattle.chip_laws.specs.EventSteps.{ChangesUnit, EventDoes}
use Rattle.chip_laws.specs.Meetings.{UnitsFit}
use Rattle.chip_laws.proofs.UnitFrames.{each_unit, same_units}
use Rattle.chip_laws.proofs.OrderGrows.{Grows, order_grows, injected_order, delivered_order}

-- what a node is known to have of the order
pub record KnownOf (ordered : List Request) (node : Node) : Type 0 where
  pub within : node.delivered ≤ length ordered
  pub fits : NodeFits node
  pub demand : (demand : Demand) (place : ℕ) → node.side.misses.demand ≡ Some demand → demand.ordered ≡ Some place → IsOrderedAt ordered node demand place
  pub followed : DemandIsFollowed ordered node
  pub owns : OwnsByOrder ordered node
  pub writers : WritersFit ordered node

-- a request is the next of the order for its node, and the node's own is what the node waits for
pub record IsNext (ordered : List Request) (node : Node) (q : Request) : Type 0 where
  pub at : slice_get ordered node.delivered ≡ Some q
  pub own : OwnRequestFits node.tile node.side q

-- what a tile delivers is the next of the order for it
abbrev pub DeliversNext : Chip → ChipState → Type 0
DeliversNext chip s = (t : ℕ) (unit : UnitState) (q : Request) (net : OrderedNetwork) → slice_get s.units t ≡ Some unit
    → after_delivery chip s.network t ≡ Some (q, net) → IsNext s.network.ordered unit.node q

-- each step of a node makes it hold, and so does an order that grows
pub record KeptByNodes (P : List Request → Node → Type 0) : Type 0 where
  pub grown : (ordered more : List Request) (node : Node) → KnownOf ordered node → P (ordered ++ more) node
  pub asked : (ordered : List Request) (node : Node) → KnownOf ordered node → P ordered (after_request_sent node)
  pub sent : (ordered : List Request) (node : Node) → KnownOf ordered node → P ordered (after_message_sent node)
  pub delivered : (ordered : List Request) (q : Request) (node : Node) → KnownOf ordered node → IsNext ordered node q → P ordered (node_after_request q node).0
  pub arrived : (ordered : List Request) (msg : Msg) (node : Node) → KnownOf ordered node → P ordered (node_after_message msg node).0
  pub accessed : (ordered : List Request) (access : Pending) (node : Node) (step : Performed) → KnownOf ordered node → node_after_access access node ≡ Some step → P ordered step.0

abbrev pub AllKnown : ChipState → Type 0
AllKnown s = (t : ℕ) (unit : UnitState) → slice_get s.units t ≡ Some unit → KnownOf s.network.ordered unit.node

abbrev Each : (List Request → Node → Type 0) → List Request → ℕ → UnitState → Type 0
Each P ordered t unit = P ordered unit.node

-- the same order
stays : (P : List Request → Node → Type 0) → KeptByNodes P → (ordered : List Request) (node : Node) → KnownOf ordered node → P ordered node
stays P kept ordered node known = subst (λ (requests : List Request). P requests node) (append-nil ordered) (kept.grown ordered [] node known)

one_step : (P : List Request → Node → Type 0) → KeptByNodes P → (s new : ChipState) (t : ℕ) (unit after : UnitState) → new.network.ordered ≡ s.network.ordered → AllKnown s
    → ChangesUnit s new t unit after → P s.network.ordered after.node
    → (u : ℕ) (other : UnitState) → slice_get new.units u ≡ Some other → P new.network.ordered other.node
one_step P kept s new t unit after same known c here u other is =
    subst (λ (requests : List Request). P requests other.node) (sym same)
    (each_unit (Each P s.network.ordered) s new t unit after c here (λ v one away at. stays P kept s.network.ordered one.node (known v one at)) u other is)

no_step : (P : List Request → Node → Type 0) → KeptByNodes P → (s new : ChipState) → Grows s.network.ordered new.network.ordered → AllKnown s → new.units ≡ s.units
    → (u : ℕ) (other : UnitState) → slice_get new.units u ≡ Some other → P new.network.ordered other.node
no_step P kept s new grows known same u other is =
    subst (λ (requests : List Request). P requests other.node) (sym grows.is)
    (same_units (Each P (s.network.ordered ++ grows.more)) s new same (λ v one at. kept.grown s.network.ordered grows.more one.node (known v one at)) u other is)

core_step : (P : List Request → Node → Type 0) → KeptByNodes P → (ordered : List Request) (unit : UnitState) (acted : Acted) → KnownOf ordered unit.node → Works unit acted → P ordered acted.0.node
core_step P kept ordered unit acted known works = elim works [
  | inl alone ↦ subst (P ordered) (sym alone.node) (stays P kept ordered unit.node known)
  | inr tries ↦ subst (P ordered) (sym tries.goes_on.node) (kept.accessed ordered tries.access unit.node tries.left known tries.tried)
]

-- it holds of each node after an event
pub kept_by_event : (P : List Request → Node → Type 0) → KeptByNodes P → (b : Behaviour) (laws : KeepsLaws b) (chip : Chip) (s new : ChipState) (event : Event)
    → UnitsFit b laws s → AllKnown s → DeliversNext chip s → EventDoes b chip s new event
    → (u : ℕ) (other : UnitState) → slice_get new.units u ≡ Some other → P new.network.ordered other.node
kept_by_event P kept b laws chip s new Tick fit known next does = no_step P kept s new (order_grows b chip s new Tick does) known does.units
kept_by_event P kept b laws chip s new (Core t) fit known next does =
    one_step P kept s new t does.unit (b.stepped does.unit).0 (ap (λ (n : OrderedNetwork). n.ordered) does.network) known does.changes
    (core_step P kept s.network.ordered does.unit (b.stepped does.unit) (known t does.unit does.changes.at)
    (laws.stepped does.unit (fit t does.unit does.changes.at) does.ready).1)
kept_by_event P kept b laws chip s new (Inject t) fit known next does =
    one_step P kept s new t does.unit _ (injected_order chip s.network new.network t does.kind does.line does.network) known does.changes
    (kept.asked s.network.ordered does.unit.node (known t does.unit does.changes.at))
kept_by_event P kept b laws chip s new (Post t) fit known next does = no_step P kept s new (order_grows b chip s new (Post t) does) known does.units
kept_by_event P kept b laws chip s new (Take t) fit known next does = no_step P kept s new (order_grows b chip s new (Take t) does) known does.units
kept_by_event P kept b laws chip s new (Eject t) fit known next does =
    let law = laws.delivered does.request does.unit (fit t does.unit does.changes.at) in
    one_step P kept s new t does.unit (b.delivered does.request does.unit).0 (delivered_order chip s.network new.network t does.request does.network) known does.changes
    (subst (P s.network.ordered) (sym law.1.goes_on.node)
    (kept.delivered s.network.ordered does.request does.unit.node (known t does.unit does.changes.at) (next t does.unit does.request new.network does.changes.at does.network)))
kept_by_event P kept b laws chip s new (Send t) fit known next does =
    one_step P kept s new t does.unit _ (ap (λ (n : OrderedNetwork). n.ordered) does.network) known does.changes
    (kept.sent s.network.ordered does.unit.node (known t does.unit does.changes.at))
kept_by_event P kept b laws chip s new (Hop r port slot out) fit known next does = no_step P kept s new (order_grows b chip s new (Hop r port slot out) does) known does.units
kept_by_event P kept b laws chip s new (DataHop r port slot) fit known next does = no_step P kept s new (order_grows b chip s new (DataHop r port slot) does) known does.units
kept_by_event P kept b laws chip s new (DataEject r port slot) fit known next does =
    let law = laws.received does.msg does.unit (fit r does.unit does.changes.at) in
    one_step P kept s new r does.unit (b.received does.msg does.unit).0 (ap (λ (n : OrderedNetwork). n.ordered) does.network) known does.changes
    (subst (P s.network.ordered) (sym law.1.goes_on.node) (kept.arrived s.network.ordered does.msg does.unit.node (known r does.unit does.changes.at)))

-- ---- all of this is known where the protocol holds
pub record HoldsAt (d : Doc) (s : ChipState) (t : ℕ) (unit : UnitState) : Type 0 where
  pub interface : Interface
  pub at : slice_get s.network.interfaces t ≡ Some interface
  pub holds : UnitHolds d s t interface unit

some_get : {X : Type 0} (xs : List X) (k : ℕ) → k < length xs → (x : X) × (slice_get xs k ≡ Some x)
some_get {X} [] k less = absurd (omega arith)
some_get {X} (x ∷ xs) zero less = (x, refl)
some_get {X} (x ∷ xs) (suc k) less = some_get xs k (omega arith)

pub holds_at : (d : Doc) (s : ChipState) → ProtocolHolds d s → (t : ℕ) (unit : UnitState) → slice_get s.units t ≡ Some unit → HoldsAt d s t unit
holds_at d s holds t unit is =
    let within : t < length s.units = slice_get_within s.units t unit is in
    let one = some_get s.network.interfaces t (omega (arith, holds.units, holds.network.requests.interfaces)) in
    record { interface = one.0; at = one.1; holds = holds.tiles t one.0 unit one.1 is }

pub known_of : (d : Doc) (s : ChipState) → ProtocolHolds d s → AllKnown s
known_of d s holds t unit is =
    let h = holds_at d s holds t unit is in
    record {
      within = omega (arith, h.holds.node.agrees.counts, (holds.network.requests.agree t h.interface h.at).within);
      fits = h.holds.node.fits;
      demand = h.holds.node.agrees.demand;
      followed = h.holds.node.followed;
      owns = h.holds.serves.owns;
      writers = h.holds.serves.writers;
    }
