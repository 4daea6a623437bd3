-- The ordered broadcast: requests spread over the mesh in any order, and each tile takes them in the one order that
-- follows from the windows' vectors.
use Rattle.std.specs.Prelude.{ℕ, ◌+◌, List, [], ◌∷◌, ◌++◌, length, map, take, replicate, Option, Some, slice_get, set, nat_lt, filter_map, if◌then◌else◌}
use Rattle.mesh_gen.specs.declared.request.Request.{Request}
use Rattle.mesh_gen.specs.declared.kind.Kind.{Kind}
use Rattle.mesh_gen.specs.declared.port.Port.{Port}
use Rattle.mesh_gen.specs.Grid.{neighbour}
use Rattle.mesh_gen.specs.Partial.{when, ◌>>=◌}
use Rattle.vc_bank.specs.Places.{Network}
use Rattle.order_tracker.specs.Order.{expansion, times, order, entry_at}
use Rattle.chip_model.specs.declared.net_copy.NetCopy.{NetCopy}
use Rattle.chip_model.specs.Chip.{Chip, tile_count}
use Rattle.chip_model.specs.Windows.{Windows, opening_windows, after_post, after_tick, is_last_tick, after_take}
use Rattle.chip_model.specs.Copies.{Name, no_copies, after_entry, after_hop, after_serve}

-- of a tile's interface: the requests that it made, in their order; how many of them it has posted; and how many
-- requests of the global order it has delivered
pub record Interface : Type 0 where
  pub made : List Request
  pub posted : ℕ
  pub delivered : ℕ

-- the copies, the windows, the requests that closed windows have ordered, and the interface of each tile
pub record OrderedNetwork : Type 0 where
  pub copies : Network NetCopy
  pub windows : Windows
  pub ordered : List Request
  pub interfaces : List Interface

-- the network before any event
abbrev pub opening_network : Chip → OrderedNetwork
opening_network chip = record {
  copies = no_copies chip.grid chip.vcs;
  windows = opening_windows (tile_count chip);
  ordered = [];
  interfaces = replicate (tile_count chip) (record { made = []; posted = 0; delivered = 0 });
}

-- the tiles of requests
abbrev pub sources : List Request → List ℕ
sources requests = map (λ (q : Request). q.source) requests

-- the network with the interface of a tile
abbrev pub with_interface : OrderedNetwork → ℕ → Interface → OrderedNetwork
with_interface net t interface = record net { interfaces = set net.interfaces t interface }

-- a tile's next request for a line
abbrev pub next_request : ℕ → Interface → Kind → ℕ → Request
next_request t interface kind line = record { source = t; number = length interface.made; kind = kind; line = line }

-- a tile makes a request, which enters its router
unfoldable pub after_inject : Chip → OrderedNetwork → ℕ → Kind → ℕ → Option OrderedNetwork
after_inject chip net t kind line =
    slice_get net.interfaces t >>= (λ interface. let q = next_request t interface kind line in
    after_entry chip.grid net.copies q >>= (λ copies.
    Some (with_interface (record net { copies = copies }) t (record interface { made = interface.made ++ q ∷ [] }))))

-- a tile posts for the first request that it has not posted
unfoldable pub after_request_post : OrderedNetwork → ℕ → Option OrderedNetwork
after_request_post net t =
    slice_get net.interfaces t >>= (λ interface. when (nat_lt interface.posted (length interface.made)) (
    after_post net.windows t >>= (λ windows.
    Some (with_interface (record net { windows = windows }) t (record interface { posted = interface.posted + 1 })))))

-- the lowest request of a tile that is not ordered yet
abbrev pub lowest_unordered : OrderedNetwork → ℕ → Option Request
lowest_unordered net t = slice_get net.interfaces t >>= (λ interface. slice_get interface.made (times t (sources net.ordered)))

-- the requests of the tiles that posted in the open window, by the rotating priority
abbrev pub ordered_by_window : Chip → OrderedNetwork → List Request
ordered_by_window chip net =
    filter_map (lowest_unordered net) (expansion (tile_count chip) (length net.windows.closed) net.windows.posts)

-- the latches merge one more step; the last step of a window orders the requests of all that posted in it
unfoldable pub after_network_tick : Chip → OrderedNetwork → Option OrderedNetwork
after_network_tick chip net =
    after_tick chip.window net.windows >>= (λ windows.
    Some (record net {
      windows = windows;
      ordered = if is_last_tick chip.window net.windows then net.ordered ++ ordered_by_window chip net else net.ordered;
    }))

-- a tile takes the next vector
unfoldable pub after_vector_take : OrderedNetwork → ℕ → Option OrderedNetwork
after_vector_take net t = after_take net.windows t >>= (λ windows. Some (record net { windows = windows }))

-- the request that a tile expects next: of the windows that it has taken, the one after those that it has delivered
unfoldable pub expected_at : Chip → OrderedNetwork → ℕ → Option Name
expected_at chip net t =
    slice_get net.interfaces t >>= (λ interface. slice_get net.windows.taken t >>= (λ taken.
    entry_at (order (tile_count chip) (take taken net.windows.closed)) interface.delivered))

-- what the tile on a side of a router expects
abbrev pub expected_at_next_hop : Chip → OrderedNetwork → ℕ → Port → Option Name
expected_at_next_hop chip net r out = neighbour chip.grid r out >>= expected_at chip net

-- a copy leaves by a side and comes to the neighbour there
unfoldable pub after_copy_hop : Chip → OrderedNetwork → ℕ → Port → ℕ → Port → Option OrderedNetwork
after_copy_hop chip net r port slot out =
    after_hop chip.grid net.copies r port slot out (expected_at_next_hop chip net r out) >>= (λ copies.
    Some (record net { copies = copies }))

-- a tile delivers the request that it expects, where a copy of it is there
unfoldable pub after_delivery : Chip → OrderedNetwork → ℕ → Option (Request × OrderedNetwork)
after_delivery chip net t =
    slice_get net.interfaces t >>= (λ interface.
    expected_at chip net t >>= (λ name.
    after_serve net.copies t name >>= (λ out.
    Some (out.0, with_interface (record net { copies = out.1 }) t (record interface { delivered = interface.delivered + 1 })))))
