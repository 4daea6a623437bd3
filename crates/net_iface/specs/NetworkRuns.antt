-- Lists of calls of an ordered network, and what its tiles have delivered.
use Rattle.std.specs.Prelude.{◌≡◌, ℕ, ◌<◌, ◌==◌, List, [], ◌∷◌, ◌++◌, map, filter, Option, Some}
use Rattle.mesh_gen.specs.declared.request.Request.{Request}
use Rattle.mesh_gen.specs.declared.kind.Kind.{Kind}
use Rattle.mesh_gen.specs.declared.port.Port.{Port}
use Rattle.chip_model.specs.Partial.{◌>>=◌}
use Rattle.chip_model.specs.Chip.{Chip, tile_count}
use Rattle.chip_model.specs.OrderedNetwork.{OrderedNetwork, opening_network, after_inject, after_request_post, after_network_tick, after_vector_take, after_copy_hop, after_delivery}
use Rattle.net_iface.specs.OrderedNet.{delivered_by}

-- a call: a tile makes a request, or posts; a tick passes; a tile takes a vector; a copy leaves a channel by a side; or a
-- tile delivers a request
pub data NetworkCall : Type 0 where
  Inject : ℕ → Kind → ℕ → NetworkCall
  Post : ℕ → NetworkCall
  Tick : NetworkCall
  Take : ℕ → NetworkCall
  Hop : ℕ → Port → ℕ → Port → NetworkCall
  Eject : ℕ → NetworkCall

-- the network, and the requests that were delivered so far, each with the tile that delivered it, in their order
pub record History : Type 0 where
  pub network : OrderedNetwork
  pub deliveries : List (ℕ × Request)

-- the history before the first call
abbrev pub opening_history : Chip → History
opening_history chip = record { network = opening_network chip; deliveries = [] }

-- the history after a call, where it is not refused
unfoldable pub called : Chip → History → NetworkCall → Option History
called chip h (Inject t kind line) = after_inject chip h.network t kind line >>= (λ net. Some (record h { network = net }))
called chip h (Post t) = after_request_post h.network t >>= (λ net. Some (record h { network = net }))
called chip h Tick = after_network_tick chip h.network >>= (λ net. Some (record h { network = net }))
called chip h (Take t) = after_vector_take h.network t >>= (λ net. Some (record h { network = net }))
called chip h (Hop r port slot out) = after_copy_hop chip h.network r port slot out >>= (λ net. Some (record h { network = net }))
called chip h (Eject t) =
    after_delivery chip h.network t >>= (λ out. Some (record { network = out.1; deliveries = h.deliveries ++ (t, out.0) ∷ [] }))

-- the history after a list of calls, where none is refused
unfoldable pub history_of : Chip → History → List NetworkCall → Option History
history_of chip h [] = Some h
history_of chip h (call ∷ calls) = called chip h call >>= (λ next. history_of chip next calls)

-- the requests that a tile delivered, in their order
abbrev pub deliveries_at : ℕ → History → List Request
deliveries_at t h = map (λ (d : ℕ × Request). d.1) (filter (λ (d : ℕ × Request). d.0 == t) h.deliveries)

-- what each tile delivered is, request by request, the prefix of the order that it is said to have delivered
abbrev pub DeliverPrefixes : Chip → History → Type 0
DeliverPrefixes chip h = (t : ℕ) → t < tile_count chip → deliveries_at t h ≡ delivered_by h.network t
