-- The broadcast of the requests of a document's posts over the ordered network alone, until nothing moves.
use Rattle.std.specs.Prelude.{◌≡◌, ℕ, suc, zero, List, [], ◌∷◌, ◌++◌, map, take, filter, Option, None, unwrap_or, Bool, true, false, option_map}
use Rattle.std.specs.List.{fold}
use Rattle.mesh_gen.specs.declared.kind.Kind.TheVariants.{GetS}
use Rattle.mesh_gen.specs.TileSet.{set_of}
use Rattle.order_tracker.specs.Order.{upwards, expansion}
use Rattle.report_text.specs.declared.event.Event.{Event}
use Rattle.report_text.specs.declared.event.Event.TheVariants.{Tick, Core, Inject, Post, Take, Eject, Send, Hop, DataHop, DataEject}
use Rattle.doc_text.specs.Doc.{Doc}
use Rattle.chip_model.specs.Chip.{Chip, chip_of, tile_count}
use Rattle.chip_model.specs.OrderedNetwork.{OrderedNetwork, Interface, opening_network, sources, after_inject, after_request_post, after_network_tick, after_vector_take, after_copy_hop, after_delivery}
use Rattle.chip_model.specs.Schedules.{slots}

-- what an event does to the network alone, where each request is a GetS of line 0; none where it is not possible, or is
-- no event of the network
unfoldable pub network_step : Chip → OrderedNetwork → Event → Option OrderedNetwork
network_step chip net (Inject t) = after_inject chip net t GetS 0
network_step chip net (Post t) = after_request_post net t
network_step chip net Tick = after_network_tick chip net
network_step chip net (Take t) = after_vector_take net t
network_step chip net (Hop router port slot out) = after_copy_hop chip net router port slot out
network_step chip net (Eject t) = option_map (λ out. out.1) (after_delivery chip net t)
network_step chip net (Core t) = None
network_step chip net (Send t) = None
network_step chip net (DataHop router port slot) = None
network_step chip net (DataEject router port slot) = None

-- an event of the network, where it is possible
abbrev pub network_tried : Chip → OrderedNetwork → Event → OrderedNetwork
network_tried chip net event = unwrap_or (network_step chip net event) net

-- these events, each where it is possible
abbrev pub network_swept : Chip → OrderedNetwork → List Event → OrderedNetwork
network_swept chip net events = fold (network_tried chip) net events

-- the events that move requests on
abbrev pub moves_requests : Event → Bool
moves_requests (Take t) = true
moves_requests (Hop router port slot out) = true
moves_requests (Eject t) = true
moves_requests Tick = false
moves_requests (Core t) = false
moves_requests (Inject t) = false
moves_requests (Post t) = false
moves_requests (Send t) = false
moves_requests (DataHop router port slot) = false
moves_requests (DataEject router port slot) = false

-- the slots of the events that move requests
abbrev pub request_slots : Chip → List Event
request_slots chip = filter moves_requests (slots chip)

-- so many passes through them
unfoldable pub passes : Chip → ℕ → OrderedNetwork → OrderedNetwork
passes chip zero net = net
passes chip (suc n) net = passes chip n (network_swept chip net (request_slots chip))

-- so many ticks
abbrev pub ticks : ℕ → List Event
ticks count = map (λ k. Tick) (upwards 0 count)

-- a window in which these tiles make a request each, and post it
abbrev pub window_events : Chip → List ℕ → List Event
window_events chip tiles = map Inject tiles ++ map Post tiles ++ ticks chip.window

-- a pass would do nothing
abbrev pub IsQuiet : Chip → OrderedNetwork → Type 0
IsQuiet chip net = network_swept chip net (request_slots chip) ≡ net

-- window after window, with passes after each until nothing moves: `tiles` are the tiles of a window in rising order
pub data Delivers (chip : Chip) : List (List ℕ) → OrderedNetwork → OrderedNetwork → Type 0 where
  done : {net : OrderedNetwork} → Delivers chip [] net net
  window : {tiles : List ℕ} {rest : List (List ℕ)} {net settled last : OrderedNetwork} (count : ℕ)
      → passes chip count (network_swept chip net (window_events chip tiles)) ≡ settled → IsQuiet chip settled
      → Delivers chip rest settled last → Delivers chip (tiles ∷ rest) net last

-- the tiles of a window in rising order
abbrev pub rising : Chip → List ℕ → List ℕ
rising chip tiles = expansion (tile_count chip) 0 (set_of tiles)

-- the network in which everything that a document posts has been broadcast
abbrev pub DeliversPosts : Doc → OrderedNetwork → Type 0
DeliversPosts d net = let chip = chip_of d in Delivers chip (map (rising chip) d.posts) (opening_network chip) net

-- the sources of the requests that a tile has delivered
abbrev pub sources_delivered : OrderedNetwork → Interface → List ℕ
sources_delivered net interface = sources (take interface.delivered net.ordered)

-- the lists of all tiles
abbrev pub delivered_lists : OrderedNetwork → List (List ℕ)
delivered_lists net = map (sources_delivered net) net.interfaces
