-- What each event does to the parts of a chip: the step that it takes, and what it leaves unchanged.
use Rattle.std.specs.Prelude.{◌≡◌, ℕ, ◌*◌, ◌<◌, true, Option, Some, slice_get, set}
use Rattle.mesh_gen.specs.declared.kind.Kind.{Kind}
use Rattle.mesh_gen.specs.declared.msg.Msg.{Msg}
use Rattle.mesh_gen.specs.declared.port.Port.{Port}
use Rattle.mesh_gen.specs.declared.request.Request.{Request}
use Rattle.vc_bank.specs.Places.{Network}
use Rattle.report_text.specs.declared.event.Event.{Event}
use Rattle.report_text.specs.declared.event.Event.TheVariants.{Tick, Core, Inject, Post, Take, Eject, Send, Hop, DataHop, DataEject}
use Rattle.chip_model.specs.declared.pending.Pending.{Pending}
use Rattle.chip_model.specs.Chip.{Chip}
use Rattle.chip_model.specs.Misses.{wanted}
use Rattle.chip_model.specs.OrderedNetwork.{OrderedNetwork, after_inject, after_request_post, after_network_tick, after_vector_take, after_copy_hop, after_delivery}
use Rattle.chip_model.specs.Replies.{after_send, after_data_hop, after_data_eject}
use Rattle.chip_model.specs.Node.{Node, Performed, node_after_access, node_after_request, node_after_message, after_request_sent, after_message_sent}
use Rattle.chip_model.specs.Units.{UnitState, Behaviour}
use Rattle.chip_model.specs.ChipState.{ChipState}
use Rattle.chip_model.specs.Events.{with_access}

-- an event that changes the ordered network alone, by this step
pub record ChangesNetwork (step : Option OrderedNetwork) (s new : ChipState) : Type 0 where
  pub network : step ≡ Some new.network
  pub replies : new.replies ≡ s.replies
  pub units : new.units ≡ s.units
  pub accesses : new.accesses ≡ s.accesses

-- an event that changes the replies alone, by this step
pub record ChangesReplies (step : Option (Network Msg)) (s new : ChipState) : Type 0 where
  pub replies : step ≡ Some new.replies
  pub network : new.network ≡ s.network
  pub units : new.units ≡ s.units
  pub accesses : new.accesses ≡ s.accesses

-- of all units that of one tile may change
pub record ChangesUnit (s new : ChipState) (t : ℕ) (unit after : UnitState) : Type 0 where
  pub at : slice_get s.units t ≡ Some unit
  pub units : new.units ≡ set s.units t after

-- the core of a tile works
pub record CoreWorks (b : Behaviour) (s new : ChipState) (t : ℕ) : Type 0 where
  pub unit : UnitState
  pub ready : b.ready unit ≡ true
  pub changes : ChangesUnit s new t unit (b.stepped unit).0
  pub accesses : new.accesses ≡ with_access (b.stepped unit).1 s.accesses
  pub network : new.network ≡ s.network
  pub replies : new.replies ≡ s.replies

-- the request that a tile's node wants enters the network
pub record RequestEnters (chip : Chip) (s new : ChipState) (t : ℕ) : Type 0 where
  pub unit : UnitState
  pub kind : Kind
  pub line : ℕ
  pub wants : wanted unit.node.side.misses ≡ Some (kind, line)
  pub network : after_inject chip s.network t kind line ≡ Some new.network
  pub changes : ChangesUnit s new t unit (record unit { node = after_request_sent unit.node })
  pub replies : new.replies ≡ s.replies
  pub accesses : new.accesses ≡ s.accesses

-- a request is delivered to the unit of a tile
pub record RequestComes (b : Behaviour) (chip : Chip) (s new : ChipState) (t : ℕ) : Type 0 where
  pub unit : UnitState
  pub request : Request
  pub network : after_delivery chip s.network t ≡ Some (request, new.network)
  pub changes : ChangesUnit s new t unit (b.delivered request unit).0
  pub accesses : new.accesses ≡ with_access (b.delivered request unit).1 s.accesses
  pub replies : new.replies ≡ s.replies

-- the first message of a tile's queue enters the reply network
pub record MessageEnters (s new : ChipState) (t : ℕ) : Type 0 where
  pub unit : UnitState
  pub msg : Msg
  pub first : slice_get unit.node.out 0 ≡ Some msg
  pub replies : after_send s.replies t msg ≡ Some new.replies
  pub changes : ChangesUnit s new t unit (record unit { node = after_message_sent unit.node })
  pub network : new.network ≡ s.network
  pub accesses : new.accesses ≡ s.accesses

-- a message comes to the unit of a tile
pub record MessageComes (b : Behaviour) (s new : ChipState) (t : ℕ) (port : Port) (slot : ℕ) : Type 0 where
  pub unit : UnitState
  pub msg : Msg
  pub replies : after_data_eject s.replies t port slot ≡ Some (msg, new.replies)
  pub changes : ChangesUnit s new t unit (b.received msg unit).0
  pub accesses : new.accesses ≡ with_access (b.received msg unit).1 s.accesses
  pub network : new.network ≡ s.network

-- what an event did
abbrev pub EventDoes : Behaviour → Chip → ChipState → ChipState → Event → Type 0
EventDoes b chip s new Tick = ChangesNetwork (after_network_tick chip s.network) s new
EventDoes b chip s new (Core t) = CoreWorks b s new t
EventDoes b chip s new (Inject t) = RequestEnters chip s new t
EventDoes b chip s new (Post t) = ChangesNetwork (after_request_post s.network t) s new
EventDoes b chip s new (Take t) = ChangesNetwork (after_vector_take s.network t) s new
EventDoes b chip s new (Eject t) = RequestComes b chip s new t
EventDoes b chip s new (Send t) = MessageEnters s new t
EventDoes b chip s new (Hop r port slot out) = ChangesNetwork (after_copy_hop chip s.network r port slot out) s new
EventDoes b chip s new (DataHop r port slot) = ChangesReplies (after_data_hop chip.grid s.replies r port slot) s new
EventDoes b chip s new (DataEject r port slot) = MessageComes b s new r port slot

-- what an event may do to a node: nothing, or one step
pub data NodeStep (node new : Node) : Type 0 where
  node_stays : new ≡ node → NodeStep node new
  request_leaves : new ≡ after_request_sent node → NodeStep node new
  message_leaves : new ≡ after_message_sent node → NodeStep node new
  request_comes : (q : Request) → new ≡ (node_after_request q node).0 → NodeStep node new
  message_comes : (msg : Msg) → new ≡ (node_after_message msg node).0 → NodeStep node new
  node_accesses : (access : Pending) (left : Performed) → node_after_access access node ≡ Some left → access.address < 4 * node.chip.lines
      → new ≡ left.0 → NodeStep node new
