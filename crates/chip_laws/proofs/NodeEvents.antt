-- Every event keeps what holds of each node by itself and with its interface.
use Rattle.std.proofs.Common.{◌≡◌, ℕ, ◌+◌, ◌<◌, Bool, true, false, cond, refl, sym, ◌∙◌, ap, subst, inl, inr, Option, Some, None, List, [], ◌∷◌, ◌++◌, slice_get}
use Rattle.std.specs.Prelude.{◌==◌, not}
use Rattle.std.proofs.lemmas.Option.{same_Some}
use Rattle.mesh_gen.specs.declared.kind.Kind.{Kind}
use Rattle.mesh_gen.specs.declared.kind.Kind.TheVariants.{PutM}
use Rattle.mesh_gen.specs.declared.msg.Msg.{Msg}
use Rattle.mesh_gen.specs.declared.port.Port.{Port}
use Rattle.mesh_gen.specs.Ports.{port_number}
use Rattle.vc_bank.specs.Places.{Network, at, put}
use Rattle.report_text.specs.declared.access.Access.{Access}
use Rattle.report_text.specs.declared.event.Event.{Event}
use Rattle.report_text.specs.declared.event.Event.TheVariants.{Tick, Core, Inject, Post, Take, Eject, Send, Hop, DataHop, DataEject}
use Rattle.doc_text.specs.Doc.{Doc}
use Rattle.chip_model.specs.Partial.{when}
use Rattle.chip_model.specs.Chip.{Chip, chip_of}
use Rattle.chip_model.specs.Misses.{Demand, WriteBack, wanted_by_demand, wanted_by, wanted}
use Rattle.chip_model.specs.OrderedNetwork.{OrderedNetwork, Interface, next_request}
use Rattle.chip_model.specs.Replies.{after_data_eject}
use Rattle.chip_model.specs.Node.{Node, after_request_sent, after_message_sent}
use Rattle.chip_model.specs.Units.{UnitState, Behaviour}
use Rattle.chip_model.specs.ChipState.{ChipState}
use Rattle.chip_model.specs.NodeShape.{LinesFit}
use Rattle.chip_model.specs.BehaviourLaws.{KeepsLaws, Works}
use Rattle.chip_model.specs.ChipInvariant.{NodeHolds, ProtocolHolds}
use Rattle.chip_laws.specs.DocLaws.{DocLaws}
use Rattle.chip_laws.specs.Meetings.{DeliveriesFit, ArrivalsFit, NodesHold, UnitsFit}
use Rattle.chip_laws.specs.EventSteps.{ChangesUnit, CoreWorks, RequestEnters, RequestComes, MessageEnters, MessageComes, EventDoes}
use Rattle.chip_laws.proofs.Options.{none_some, bind, when_some}
use Rattle.chip_laws.proofs.UnitFrames.{each_unit}
use Rattle.chip_laws.proofs.NetworkFrames.{SetsInterface, SameViews, unchanged_views, set_interface, other_interface, ticked_views, taken_views, hopped_views, posted_views, injected_sets, delivered_sets}
use Rattle.chip_laws.proofs.RequestsInside.{request_inside, sends_fit, waiters_inside}
use Rattle.chip_laws.proofs.NodeKeeps.{NodeKeeps, node_keeps, node_holds, node_stays_keeps, message_sent_keeps, accessed_keeps, arrived_keeps, request_sent_keeps, delivered_keeps}

-- ---- frames
old_keeps : (d : Doc) (s : ChipState) (t : ℕ) (interface : Interface) (unit : UnitState) → ProtocolHolds d s → slice_get s.network.interfaces t ≡ Some interface → slice_get s.units t ≡ Some unit
    → NodeKeeps (chip_of d) s.network.ordered t interface unit.node
old_keeps d s t interface unit holds at_interface at_unit = node_keeps d s t interface unit.node (holds.tiles t interface unit at_interface at_unit).node

-- the network steps, and no node does
grown_nodes : (d : Doc) (s new : ChipState) → ProtocolHolds d s → SameViews s.network new.network → new.units ≡ s.units → NodesHold d new
grown_nodes d s new holds views units t interface unit at_interface at_unit =
    let was = views.interfaces t interface at_interface in
    let before = old_keeps d s t was.was unit holds was.at (ap (λ (xs : List UnitState). slice_get xs t) (sym units) ∙ at_unit) in
    let within = (holds.network.requests.agree t was.was was.at).within in
    node_holds d new (s.network.ordered ++ views.more) t interface unit.node views.ordered
    (node_stays_keeps (chip_of d) s.network.ordered views.more t was.was interface unit.node was.made was.delivered within before)

-- an interface and a node step, at one tile
set_nodes : (d : Doc) (s new : ChipState) (t : ℕ) (interface later : Interface) (unit after : UnitState) → ProtocolHolds d s → SetsInterface s.network new.network t interface later → ChangesUnit s new t unit after
    → NodeKeeps (chip_of d) s.network.ordered t later after.node → NodesHold d new
set_nodes d s new t interface later unit after holds sets changes here u i other at_interface at_unit =
    each_unit (λ v x. (j : Interface) → slice_get new.network.interfaces v ≡ Some j → NodeHolds d new v j x.node) s new t unit after changes
    (λ j is. subst (λ (k : Interface). NodeHolds d new t k after.node) (same_Some later j (sym (set_interface s.network new.network t interface later sets) ∙ is))
    (node_holds d new s.network.ordered t later after.node sets.ordered here))
    (λ v x away was j is. node_holds d new s.network.ordered v j x.node sets.ordered
    (old_keeps d s v j x holds (sym (other_interface s.network new.network t v interface later sets away) ∙ is) was))
    u other at_unit i at_interface

-- a node steps, and the network does not
quiet_nodes : (d : Doc) (s new : ChipState) (t : ℕ) (unit after : UnitState) → ProtocolHolds d s → new.network ≡ s.network → ChangesUnit s new t unit after
    → ((interface : Interface) → slice_get s.network.interfaces t ≡ Some interface → NodeKeeps (chip_of d) s.network.ordered t interface unit.node → NodeKeeps (chip_of d) s.network.ordered t interface after.node)
    → NodesHold d new
quiet_nodes d s new t unit after holds network changes steps u i other at_interface at_unit =
    each_unit (λ v x. (j : Interface) → slice_get new.network.interfaces v ≡ Some j → NodeHolds d new v j x.node) s new t unit after changes
    (λ j is. node_holds d new s.network.ordered t j after.node ordered (steps j (was t j is) (old_keeps d s t j unit holds (was t j is) changes.at)))
    (λ v x away at_old j is. node_holds d new s.network.ordered v j x.node ordered (old_keeps d s v j x holds (was v j is) at_old))
    u other at_unit i at_interface
  where
    ordered : new.network.ordered ≡ s.network.ordered
    ordered = ap (λ (net : OrderedNetwork). net.ordered) network

    was : (v : ℕ) (j : Interface) → slice_get new.network.interfaces v ≡ Some j → slice_get s.network.interfaces v ≡ Some j
    was v j is = ap (λ (net : OrderedNetwork). slice_get net.interfaces v) (sym network) ∙ is

-- ---- the core of a tile
works_keeps : (d : Doc) (s : ChipState) (t : ℕ) (interface : Interface) (unit after : UnitState) (o : Option Access) → Works unit (after, o) → NodeKeeps (chip_of d) s.network.ordered t interface unit.node
    → NodeKeeps (chip_of d) s.network.ordered t interface after.node
works_keeps d s t interface unit after o (inl alone) is = subst (NodeKeeps (chip_of d) s.network.ordered t interface) (sym alone.node) is
works_keeps d s t interface unit after o (inr tries) is =
    subst (NodeKeeps (chip_of d) s.network.ordered t interface) (sym tries.goes_on.node)
    (accessed_keeps (chip_of d) s.network.ordered t interface tries.access unit.node tries.left tries.tried tries.address is)

core_nodes : (b : Behaviour) (laws : KeepsLaws b) (d : Doc) (s new : ChipState) (t : ℕ) → ProtocolHolds d s → UnitsFit b laws s → CoreWorks b s new t → NodesHold d new
core_nodes b laws d s new t holds fit does =
    let law = laws.stepped does.unit (fit t does.unit does.changes.at) does.ready in
    quiet_nodes d s new t does.unit (b.stepped does.unit).0 holds does.network does.changes
    (λ interface at is. works_keeps d s t interface does.unit (b.stepped does.unit).0 (b.stepped does.unit).1 law.1 is)

-- ---- a request enters the network
wanted_below : (lines line : ℕ) (kind : Kind) (demand : Option Demand) → ((x : Demand) → demand ≡ Some x → x.line < lines) → wanted_by_demand demand ≡ Some (kind, line) → line < lines
wanted_below lines line kind None below e = none_some {X = Kind × ℕ} (kind, line) e
wanted_below lines line kind (Some demand) below e =
    when_some {X = Kind × ℕ} (not demand.sent) (Some (demand.kind, demand.line)) (kind, line) e (λ unsent same.
    subst (λ (l : ℕ). l < lines) (ap (λ (x : Kind × ℕ). x.1) (same_Some {A = Kind × ℕ} (demand.kind, demand.line) (kind, line) same)) (below demand refl))

by_back_below : (lines line : ℕ) (kind : Kind) (demand : Option Demand) (back : Option WriteBack) → ((x : Demand) → demand ≡ Some x → x.line < lines) → ((x : WriteBack) → back ≡ Some x → x.line < lines)
    → wanted_by demand back ≡ Some (kind, line) → line < lines
by_back_below lines line kind demand None below backs e = wanted_below lines line kind demand below e
by_back_below lines line kind demand (Some back) below backs e = by back.sent e where
  by : (sent : Bool) → cond sent (wanted_by_demand demand) (Some (PutM, back.line)) ≡ Some (kind, line) → line < lines
  by true e = wanted_below lines line kind demand below e
  by false e = subst (λ (l : ℕ). l < lines) (ap (λ (x : Kind × ℕ). x.1) (same_Some {A = Kind × ℕ} (PutM, back.line) (kind, line) e)) (backs back refl)

pub wanted_line : (node : Node) (kind : Kind) (line : ℕ) → LinesFit node → wanted node.side.misses ≡ Some (kind, line) → line < node.chip.lines
unfolding wanted
wanted_line node kind line fits e = by_back_below node.chip.lines line kind node.side.misses.demand node.side.misses.back fits.demand fits.back e

inject_nodes : (d : Doc) (s new : ChipState) (t : ℕ) → ProtocolHolds d s → RequestEnters (chip_of d) s new t → NodesHold d new
inject_nodes d s new t holds does =
    let sets = injected_sets (chip_of d) s.network new.network t does.kind does.line does.network in
    let interface = sets.0 in
    let later : Interface = record interface { made = interface.made ++ next_request t interface does.kind does.line ∷ [] } in
    let before = old_keeps d s t interface does.unit holds sets.1.at does.changes.at in
    let below = subst (λ (c : Chip). does.line < c.lines) before.of_chip (wanted_line does.unit.node does.kind does.line before.fits.lines does.wants) in
    set_nodes d s new t interface later does.unit (record does.unit { node = after_request_sent does.unit.node }) holds sets.1 does.changes
    (request_sent_keeps (chip_of d) s.network t interface later does.unit.node does.kind does.line (holds.network.requests.agree t interface sets.1.at) does.wants below refl refl before)

-- ---- a request is delivered
eject_nodes : (b : Behaviour) (laws : KeepsLaws b) (d : Doc) (s new : ChipState) (t : ℕ) → DocLaws d → ProtocolHolds d s → UnitsFit b laws s → DeliveriesFit d s → RequestComes b (chip_of d) s new t
    → NodesHold d new
eject_nodes b laws d s new t fits holds fit next does =
    let q = does.request in
    let sets = delivered_sets (chip_of d) s.network new.network t q does.network in
    let interface = sets.0 in
    let later : Interface = record interface { delivered = interface.delivered + 1 } in
    let unit = holds.tiles t interface does.unit sets.1.at does.changes.at in
    let before = node_keeps d s t interface does.unit.node unit.node in
    let at = next t does.unit q new.network does.changes.at does.network in
    let law = laws.delivered q does.unit (fit t does.unit does.changes.at) in
    set_nodes d s new t interface later does.unit (b.delivered q does.unit).0 holds sets.1 does.changes
    (subst (NodeKeeps (chip_of d) s.network.ordered t later) (sym law.1.goes_on.node)
    (delivered_keeps (chip_of d) s.network t interface later does.unit.node q (holds.network.requests.agree t interface sets.1.at) at
    (request_inside d s does.unit.node.delivered q fits holds at) (sends_fit d s does.unit.node fits holds unit.node.chip unit.node.fits unit.node.followed) unit.serves.owns refl refl before))

-- ---- a message is sent, and comes
send_nodes : (d : Doc) (s new : ChipState) (t : ℕ) → ProtocolHolds d s → MessageEnters s new t → NodesHold d new
send_nodes d s new t holds does =
    quiet_nodes d s new t does.unit (record does.unit { node = after_message_sent does.unit.node }) holds does.network does.changes
    (λ interface at is. message_sent_keeps (chip_of d) s.network.ordered t interface does.unit.node is)

pub received_stands : (net new : Network Msg) (r : ℕ) (port : Port) (slot : ℕ) (msg : Msg) → after_data_eject net r port slot ≡ Some (msg, new) → at net r (port_number port) slot ≡ Some msg
unfolding after_data_eject
received_stands net new r port slot msg e =
    let out : Msg → Msg × Network Msg = λ (m : Msg). (m, put net r (port_number port) slot None) in
    bind (at net r (port_number port) slot) (λ m. when (m.to == r) (Some (out m))) (msg, new) e (λ m stands here.
    when_some {X = Msg × Network Msg} (m.to == r) (Some (out m)) (msg, new) here (λ goes same.
    stands ∙ ap (λ (x : Msg × Network Msg). Some x.0) (same_Some {A = Msg × Network Msg} (out m) (msg, new) same)))

data_nodes : (b : Behaviour) (laws : KeepsLaws b) (d : Doc) (s new : ChipState) (t : ℕ) (port : Port) (slot : ℕ) → DocLaws d → ProtocolHolds d s → UnitsFit b laws s → ArrivalsFit s
    → MessageComes b s new t port slot → NodesHold d new
data_nodes b laws d s new t port slot fits holds fit arrive does =
    let msg = does.msg in
    let law = laws.received msg does.unit (fit t does.unit does.changes.at) in
    let message = holds.network.messages t (port_number port) slot msg (received_stands s.replies new.replies t port slot msg does.replies) in
    quiet_nodes d s new t does.unit (b.received msg does.unit).0 holds does.network does.changes (λ interface at is.
    let unit = holds.tiles t interface does.unit at does.changes.at in
    subst (NodeKeeps (chip_of d) s.network.ordered t interface) (sym law.1.goes_on.node)
    (arrived_keeps (chip_of d) s.network.ordered t interface msg does.unit.node (arrive t port slot does.unit msg new.replies does.changes.at does.replies) message.line
    (sends_fit d s does.unit.node fits holds unit.node.chip unit.node.fits unit.node.followed)
    (λ r there. waiters_inside d s does.unit.node msg.line r fits holds unit.serves.waiters there) is))

-- ---- all events
network_nodes : (d : Doc) (s new : ChipState) → ProtocolHolds d s → new.network ≡ s.network → new.units ≡ s.units → NodesHold d new
network_nodes d s new holds network units =
    grown_nodes d s new holds (unchanged_views s.network new.network (ap (λ (net : OrderedNetwork). net.ordered) network) (ap (λ (net : OrderedNetwork). net.interfaces) network)) units

pub nodes_hold : (b : Behaviour) (laws : KeepsLaws b) (d : Doc) (s new : ChipState) (event : Event) → DocLaws d → ProtocolHolds d s → UnitsFit b laws s → DeliveriesFit d s → ArrivalsFit s
    → EventDoes b (chip_of d) s new event → NodesHold d new
nodes_hold b laws d s new Tick fits holds fit next arrive does = grown_nodes d s new holds (ticked_views (chip_of d) s.network new.network does.network) does.units
nodes_hold b laws d s new (Core t) fits holds fit next arrive does = core_nodes b laws d s new t holds fit does
nodes_hold b laws d s new (Inject t) fits holds fit next arrive does = inject_nodes d s new t holds does
nodes_hold b laws d s new (Post t) fits holds fit next arrive does = grown_nodes d s new holds (posted_views s.network new.network t does.network) does.units
nodes_hold b laws d s new (Take t) fits holds fit next arrive does = grown_nodes d s new holds (taken_views s.network new.network t does.network) does.units
nodes_hold b laws d s new (Eject t) fits holds fit next arrive does = eject_nodes b laws d s new t fits holds fit next does
nodes_hold b laws d s new (Send t) fits holds fit next arrive does = send_nodes d s new t holds does
nodes_hold b laws d s new (Hop r port slot out) fits holds fit next arrive does = grown_nodes d s new holds (hopped_views (chip_of d) s.network new.network r port slot out does.network) does.units
nodes_hold b laws d s new (DataHop r port slot) fits holds fit next arrive does = network_nodes d s new holds does.network does.units
nodes_hold b laws d s new (DataEject r port slot) fits holds fit next arrive does = data_nodes b laws d s new r port slot fits holds fit arrive does
