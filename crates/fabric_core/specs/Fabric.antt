-- The fabric of a chip: all that its tiles share. It is both networks, the journal in packed words, the accesses in the
-- order in which they were performed, and the number of hops; each event that touches it notes itself.
use Rattle.std.specs.Prelude.{ℕ, ◌+◌, ◌<◌, ◌≤◌, ◌==◌, Bool, ◌&&◌, List, [], ◌∷◌, ◌++◌, length, Option, Some}
use Rattle.std.specs.List.{list_all}
use Rattle.mesh_gen.specs.declared.kind.Kind.{Kind}
use Rattle.mesh_gen.specs.declared.msg.Msg.{Msg}
use Rattle.mesh_gen.specs.declared.port.Port.{Port}
use Rattle.mesh_gen.specs.declared.request.Request.{Request}
use Rattle.vc_bank.specs.Places.{Network}
use Rattle.report_text.specs.declared.access.Access.{Access}
use Rattle.report_text.specs.declared.event.Event.{Event}
use Rattle.report_text.specs.declared.event.Event.TheVariants.{Tick, Inject, Post, Take, Eject, Send, Hop, DataHop, DataEject}
use Rattle.report_text.specs.Entry.{packed}
use Rattle.report_text.specs.Journals.{events_of}
use Rattle.chip_model.specs.Partial.{◌>>=◌}
use Rattle.chip_model.specs.Chip.{Chip, tile_count}
use Rattle.chip_model.specs.OrderedNetwork.{OrderedNetwork, Interface, opening_network, after_inject, after_request_post, after_network_tick, after_vector_take, after_copy_hop, after_delivery}
use Rattle.chip_model.specs.Replies.{no_replies, after_send, after_data_hop, after_data_eject, is_empty}
use Rattle.fabric_core.specs.declared.made.Made.{Made}

-- the chip; the networks; the journal's words; the accesses; the hops; and how many events the journal has room for
pub record FabricState : Type 0 where
  pub chip : Chip
  pub network : OrderedNetwork
  pub replies : Network Msg
  pub entries : List ℕ
  pub accesses : List Access
  pub hops : ℕ
  pub room : ℕ

-- before any event
abbrev pub opening_fabric : Chip → ℕ → FabricState
opening_fabric chip room = record {
  chip = chip;
  network = opening_network chip;
  replies = no_replies chip.grid chip.data_vcs;
  entries = [];
  accesses = [];
  hops = 0;
  room = room;
}

-- how many events its entries record
abbrev pub event_count : FabricState → ℕ
event_count f = length (events_of f.entries)

-- the word of an event's entry, which records the private core events that came before it
abbrev pub entry_word : Made → Event → ℕ
entry_word who event = packed (record { by = who.by; cores = who.cores; event = event })

-- an event notes itself
abbrev pub noted : Made → Event → FabricState → FabricState
noted who event f = record f { entries = f.entries ++ entry_word who event ∷ [] }

-- who does an event is a tile, with at most 16 private core events before it, and the journal has room for all of them
pub record MayNote (who : Made) (f : FabricState) : Type 0 where
  pub by : who.by < tile_count f.chip
  pub cores : who.cores ≤ 16
  pub room : event_count f + who.cores + 1 ≤ f.room

-- the ordered network takes a step, and the event notes itself
abbrev pub with_network : Made → Event → OrderedNetwork → FabricState → FabricState
with_network who event network f = noted who event (record f { network = network })

-- the replies take a step, and the event notes itself
abbrev pub with_replies : Made → Event → Network Msg → FabricState → FabricState
with_replies who event replies f = noted who event (record f { replies = replies })

-- What each event does to the fabric.

-- a request of the tile enters its router
unfoldable pub fabric_after_inject : Made → Kind → ℕ → FabricState → Option FabricState
fabric_after_inject who kind line f =
    after_inject f.chip f.network who.by kind line >>= (λ network. Some (with_network who (Inject who.by) network f))

-- a tile posts
unfoldable pub fabric_after_post : Made → ℕ → FabricState → Option FabricState
fabric_after_post who t f = after_request_post f.network t >>= (λ network. Some (with_network who (Post t) network f))

-- the latches merge one step
unfoldable pub fabric_after_tick : Made → FabricState → Option FabricState
fabric_after_tick who f = after_network_tick f.chip f.network >>= (λ network. Some (with_network who Tick network f))

-- a tile takes the next closed vector
unfoldable pub fabric_after_take : Made → ℕ → FabricState → Option FabricState
fabric_after_take who t f = after_vector_take f.network t >>= (λ network. Some (with_network who (Take t) network f))

-- a copy of a request goes on to the next router
unfoldable pub fabric_after_hop : Made → ℕ → Port → ℕ → Port → FabricState → Option FabricState
fabric_after_hop who r port slot out f =
    after_copy_hop f.chip f.network r port slot out >>= (λ network.
    Some (with_network who (Hop r port slot out) network (record f { hops = f.hops + 1 })))

-- a message enters the router of its tile
unfoldable pub fabric_after_send : Made → ℕ → Msg → FabricState → Option FabricState
fabric_after_send who r msg f = after_send f.replies r msg >>= (λ replies. Some (with_replies who (Send r) replies f))

-- a message goes on to the next router of its route
unfoldable pub fabric_after_data_hop : Made → ℕ → Port → ℕ → FabricState → Option FabricState
fabric_after_data_hop who r port slot f =
    after_data_hop f.chip.grid f.replies r port slot >>= (λ replies. Some (with_replies who (DataHop r port slot) replies f))

-- a tile delivers the next request of the order
unfoldable pub fabric_after_eject : Made → ℕ → FabricState → Option (Request × FabricState)
fabric_after_eject who t f =
    after_delivery f.chip f.network t >>= (λ out. Some (out.0, with_network who (Eject t) out.1 f))

-- a message comes to its tile
unfoldable pub fabric_after_data_eject : Made → ℕ → Port → ℕ → FabricState → Option (Msg × FabricState)
fabric_after_data_eject who r port slot f =
    after_data_eject f.replies r port slot >>= (λ out. Some (out.0, with_replies who (DataEject r port slot) out.1 f))

-- a core event of a tile that touches nothing of the fabric
abbrev pub alone : ℕ → Made
alone t = record { by = t; cores = 0 }

-- a tile has delivered so many requests
abbrev pub has_delivered : ℕ → Interface → Bool
has_delivered count interface = interface.delivered == count

-- every ordered request was delivered everywhere, and no reply stands in a channel
abbrev pub is_idle : FabricState → Bool
is_idle f = list_all (has_delivered (length f.network.ordered)) f.network.interfaces && is_empty f.replies
