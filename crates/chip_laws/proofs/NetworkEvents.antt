-- The networks hold at the opening and after every event.
use Rattle.std.proofs.Common.{◌≡◌, ℕ, ◌<◌, subst, sym, Some}
use Rattle.mesh_gen.specs.declared.kind.Kind.{Kind}
use Rattle.mesh_gen.specs.declared.msg.Msg.{Msg}
use Rattle.mesh_gen.specs.declared.port.Port.{Port}
use Rattle.mesh_gen.specs.declared.request.Request.{Request}
use Rattle.vc_bank.specs.Places.{Network}
use Rattle.report_text.specs.declared.event.Event.{Event}
use Rattle.report_text.specs.declared.event.Event.TheVariants.{Tick, Core, Inject, Post, Take, Eject, Send, Hop, DataHop, DataEject}
use Rattle.doc_text.specs.Doc.{Doc}
use Rattle.chip_model.specs.Chip.{Chip, chip_of}
use Rattle.chip_model.specs.OrderedNetwork.{OrderedNetwork, opening_network, after_inject, after_request_post, after_network_tick, after_vector_take, after_copy_hop, after_delivery}
use Rattle.chip_model.specs.Replies.{no_replies, after_send, after_data_hop, after_data_eject}
use Rattle.chip_model.specs.Units.{Behaviour}
use Rattle.chip_model.specs.ChipState.{ChipState, opening}
use Rattle.chip_model.specs.Events.{step}
use Rattle.chip_model.specs.NetworkShape.{MessageFits}
use Rattle.chip_model.specs.ChipInvariant.{NetworkHolds}
use Rattle.net_iface.specs.NetworkHolds.{OrderedNetworkHolds}
use Rattle.reply_net.specs.MessagesHold.{MessagesHold, MessageCame}
use Rattle.chip_laws.specs.DocFits.{DocFits}
use Rattle.chip_laws.specs.EventSteps.{EventDoes}
use Rattle.chip_laws.specs.QueuedMessages.{QueuesFit}
use Rattle.chip_laws.proofs.EventSteps.{event_does}
use Rattle.chip_laws.proofs.ArrivedMessages.{replies_of}

-- what the steps of the two networks keep
pub record NetworkLaws : Type 0 where
  pub opened : (chip : Chip) → 0 < chip.window → OrderedNetworkHolds chip (opening_network chip)
  pub made : (chip : Chip) (old new : OrderedNetwork) (t : ℕ) (kind : Kind) (line : ℕ) → OrderedNetworkHolds chip old → after_inject chip old t kind line ≡ Some new → OrderedNetworkHolds chip new
  pub posted : (chip : Chip) (old new : OrderedNetwork) (t : ℕ) → OrderedNetworkHolds chip old → after_request_post old t ≡ Some new → OrderedNetworkHolds chip new
  pub ticked : (chip : Chip) (old new : OrderedNetwork) → OrderedNetworkHolds chip old → after_network_tick chip old ≡ Some new → OrderedNetworkHolds chip new
  pub taken : (chip : Chip) (old new : OrderedNetwork) (t : ℕ) → OrderedNetworkHolds chip old → after_vector_take old t ≡ Some new → OrderedNetworkHolds chip new
  pub hopped : (chip : Chip) (old new : OrderedNetwork) (r : ℕ) (port : Port) (slot : ℕ) (out : Port) → OrderedNetworkHolds chip old → after_copy_hop chip old r port slot out ≡ Some new
      → OrderedNetworkHolds chip new
  pub delivered : (chip : Chip) (old new : OrderedNetwork) (t : ℕ) (q : Request) → OrderedNetworkHolds chip old → after_delivery chip old t ≡ Some (q, new) → OrderedNetworkHolds chip new
  pub no_message : (chip : Chip) → MessagesHold chip (no_replies chip.grid chip.data_vcs)
  pub sent : (chip : Chip) (old new : Network Msg) (t : ℕ) (msg : Msg) → MessagesHold chip old → MessageFits chip msg → after_send old t msg ≡ Some new → MessagesHold chip new
  pub moved : (chip : Chip) (old new : Network Msg) (r : ℕ) (port : Port) (slot : ℕ) → MessagesHold chip old → after_data_hop chip.grid old r port slot ≡ Some new → MessagesHold chip new
  pub came : (chip : Chip) (old new : Network Msg) (t : ℕ) (port : Port) (slot : ℕ) (msg : Msg) → MessagesHold chip old → after_data_eject old t port slot ≡ Some (msg, new)
      → MessageCame chip msg new

-- the two networks, each by itself
joined : (d : Doc) (s : ChipState) → OrderedNetworkHolds (chip_of d) s.network → MessagesHold (chip_of d) s.replies → NetworkHolds d s
joined d s ordered replies = record { requests = ordered.fits; took = ordered.took; replies = replies.channels; routes = replies.routes; messages = replies.messages }

requests_of : (d : Doc) (s : ChipState) → NetworkHolds d s → OrderedNetworkHolds (chip_of d) s.network
requests_of d s holds = record { fits = holds.requests; took = holds.took }

pub network_opened : NetworkLaws → (d : Doc) → DocFits d → NetworkHolds d (opening d)
network_opened laws d fits = joined d (opening d) (laws.opened (chip_of d) fits.chip.window) (laws.no_message (chip_of d))

module _ (laws : NetworkLaws) (b : Behaviour) (d : Doc) (s new : ChipState) (holds : NetworkHolds d s) where
  -- only the ordered network changes, only the replies, or neither
  requests_change : OrderedNetworkHolds (chip_of d) new.network → new.replies ≡ s.replies → NetworkHolds d new
  requests_change ordered same = joined d new ordered (subst (MessagesHold (chip_of d)) (sym same) (replies_of d s holds))

  replies_change : MessagesHold (chip_of d) new.replies → new.network ≡ s.network → NetworkHolds d new
  replies_change replies same = joined d new (subst (OrderedNetworkHolds (chip_of d)) (sym same) (requests_of d s holds)) replies

  network_after : QueuesFit d s → (event : Event) → EventDoes b (chip_of d) s new event → NetworkHolds d new
  network_after queues Tick does = requests_change (laws.ticked (chip_of d) s.network new.network (requests_of d s holds) does.network) does.replies
  network_after queues (Core t) does = joined d new (subst (OrderedNetworkHolds (chip_of d)) (sym does.network) (requests_of d s holds)) (subst (MessagesHold (chip_of d)) (sym does.replies) (replies_of d s holds))
  network_after queues (Inject t) does = requests_change (laws.made (chip_of d) s.network new.network t does.kind does.line (requests_of d s holds) does.network) does.replies
  network_after queues (Post t) does = requests_change (laws.posted (chip_of d) s.network new.network t (requests_of d s holds) does.network) does.replies
  network_after queues (Take t) does = requests_change (laws.taken (chip_of d) s.network new.network t (requests_of d s holds) does.network) does.replies
  network_after queues (Eject t) does = requests_change (laws.delivered (chip_of d) s.network new.network t does.request (requests_of d s holds) does.network) does.replies
  network_after queues (Send t) does =
      replies_change (laws.sent (chip_of d) s.replies new.replies t does.msg (replies_of d s holds) (queues t 0 does.unit does.msg does.changes.at does.first) does.replies) does.network
  network_after queues (Hop r port slot out) does = requests_change (laws.hopped (chip_of d) s.network new.network r port slot out (requests_of d s holds) does.network) does.replies
  network_after queues (DataHop r port slot) does = replies_change (laws.moved (chip_of d) s.replies new.replies r port slot (replies_of d s holds) does.replies) does.network
  network_after queues (DataEject r port slot) does = replies_change (laws.came (chip_of d) s.replies new.replies r port slot does.msg (replies_of d s holds) does.replies).holds does.network

  pub network_kept : QueuesFit d s → (event : Event) → step b (chip_of d) s event ≡ Some new → NetworkHolds d new
  network_kept queues event is = network_after queues event (event_does b (chip_of d) s new event is)
