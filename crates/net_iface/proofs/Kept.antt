-- What is kept of the parts, call by call.
use Rattle.std.proofs.Common.{refl, ◌≡◌, ℕ, false, ◌+◌, ◌<◌, ◌≤◌, List, [], ◌∷◌, ◌++◌, length, take, Some, sym, ◌∙◌, ap, subst, inl, inr, arith, length-append}
use Rattle.std.specs.Prelude.{slice_index}
use Rattle.std.specs.List.{filter_map}
use Rattle.std.proofs.lemmas.Bool.{cases_Bool}
use Rattle.std.proofs.lemmas.List.{take-append-le}
use Rattle.std.proofs.lemmas.Option.{slice_get-get_or, slice_get_within}
use Rattle.circular_buffer.specs.Buffer.{Buffer}
use Rattle.mesh_gen.specs.declared.request.Request.{Request}
use Rattle.mesh_gen.specs.TileSet.{has_tile}
use Rattle.order_tracker.specs.Order.{expansion}
use Rattle.order_tracker.specs.Tracker.{TrackerState}
use Rattle.chip_model.specs.Chip.{Chip, tile_count}
use Rattle.chip_model.specs.Windows.{Windows, after_post, after_tick, is_last_tick, window_closed}
use Rattle.router_xy.specs.RequestNetwork.{RequestNetwork}
use Rattle.window_core.specs.Windows.{WindowsState, SameSizes}
use Rattle.net_iface.specs.Unordered.{lowest_of, LoseLowest}
use Rattle.net_iface.specs.NetworkHolds.{OrderedNetworkHolds}
use Rattle.net_iface.specs.Parts.{Parts, network_of, interface_of, AreSized, IsFollowing, AreKept, requests_of_tile}
use Rattle.window_core.proofs.Holds.{post_is}
use Rattle.net_iface.proofs.Steps.{merge_is}
use Rattle.net_iface.proofs.Closings.{made_same}
use Rattle.net_iface.proofs.Priorities.{expansion_le}
use Rattle.net_iface.proofs.Accounts.{accounted}
use Rattle.net_iface.proofs.Expected.{interface_at}

-- other routers of the same sizes
pub sized_routers : (p : Parts) (routers : RequestNetwork) → routers.grid ≡ p.routers.grid → routers.vcs ≡ p.routers.vcs → AreSized p → AreSized (record p { routers = routers })
sized_routers p routers grid vcs sizes = record {
  some = sizes.some;
  few = sizes.few;
  grid = grid ∙ sizes.grid;
  vcs = vcs ∙ sizes.vcs;
  windows_grid = sizes.windows_grid;
  ticks = sizes.ticks;
  windows_room = sizes.windows_room;
  small = sizes.small;
  within = sizes.within;
  taken = sizes.taken;
  trackers = sizes.trackers;
  unordered = sizes.unordered;
  made = sizes.made;
  delivered = sizes.delivered;
}

-- other windows of the same sizes
pub sized_windows : (p : Parts) (windows : WindowsState) → SameSizes p.windows windows → length windows.windows.taken ≡ length p.windows.windows.taken → AreSized p → AreSized (record p { windows = windows })
sized_windows p windows same taken sizes = record {
  some = sizes.some;
  few = sizes.few;
  grid = sizes.grid;
  vcs = sizes.vcs;
  windows_grid = same.grid_is ∙ sizes.windows_grid;
  ticks = same.ticks_is ∙ sizes.ticks;
  windows_room = same.room_is ∙ sizes.windows_room;
  small = sizes.small;
  within = sizes.within;
  taken = taken ∙ sizes.taken;
  trackers = sizes.trackers;
  unordered = sizes.unordered;
  made = sizes.made;
  delivered = sizes.delivered;
}

-- other lists with a place for each tile, and an order within the room
pub sized_lists : (p : Parts) (trackers : List TrackerState) (ordered : List Request) (unordered : List (Buffer Request)) (made delivered : List ℕ) → AreSized p
    → length ordered ≤ p.room → length trackers ≡ length p.trackers → length unordered ≡ length p.unordered
    → length made ≡ length p.made → length delivered ≡ length p.delivered
    → AreSized (record p { trackers = trackers; ordered = ordered; unordered = unordered; made = made; delivered = delivered })
sized_lists p trackers ordered unordered made delivered sizes room tracked unordered_is made_is delivered_is = record {
  some = sizes.some;
  few = sizes.few;
  grid = sizes.grid;
  vcs = sizes.vcs;
  windows_grid = sizes.windows_grid;
  ticks = sizes.ticks;
  windows_room = sizes.windows_room;
  small = sizes.small;
  within = room;
  taken = sizes.taken;
  trackers = tracked ∙ sizes.trackers;
  unordered = unordered_is ∙ sizes.unordered;
  made = made_is ∙ sizes.made;
  delivered = delivered_is ∙ sizes.delivered;
}

-- a tracker follows windows in which as much is closed and taken
pub following_windows : (chip : Chip) (w new : Windows) (delivered : List ℕ) (t : ℕ) (tracker : TrackerState) → new.taken ≡ w.taken → new.closed ≡ w.closed → IsFollowing chip w delivered t tracker → IsFollowing chip new delivered t tracker
following_windows chip w new delivered t tracker taken closed following = record {
  tiles = following.tiles;
  room = following.room;
  sets = following.sets;
  follows = rw (taken, closed) following.follows;
}

-- windows in which as much is closed and taken
other_windows : (p : Parts) (windows : WindowsState) → SameSizes p.windows windows → windows.windows.taken ≡ p.windows.windows.taken → windows.windows.closed ≡ p.windows.windows.closed
    → OrderedNetworkHolds p.chip (network_of (record p { windows = windows })) → AreKept p → AreKept (record p { windows = windows })
other_windows p windows same taken closed holds kept = record {
  sizes = sized_windows p windows same (ap length taken) kept.sizes;
  holds = holds;
  trackers = λ u tracker there. following_windows p.chip p.windows.windows windows.windows p.delivered u tracker taken closed (kept.trackers u tracker there);
  capacities = kept.capacities;
  counts = kept.counts;
}

-- a tile posts
pub AreKept-post : (p : Parts) (windows : WindowsState) (t : ℕ) → SameSizes p.windows windows → after_post p.windows.windows t ≡ Some windows.windows → OrderedNetworkHolds p.chip (network_of (record p { windows = windows })) → AreKept p
    → AreKept (record p { windows = windows })
AreKept-post p windows t same posts holds kept =
    let post = post_is t p.windows.windows windows.windows posts in
    other_windows p windows same (ap (λ (w : Windows). w.taken) post.is) (ap (λ (w : Windows). w.closed) post.is) holds kept

pub AreKept-hop : (p : Parts) (routers : RequestNetwork) → routers.grid ≡ p.routers.grid → routers.vcs ≡ p.routers.vcs → OrderedNetworkHolds p.chip (network_of (record p { routers = routers })) → AreKept p
    → AreKept (record p { routers = routers })
AreKept-hop p routers grid vcs holds kept = record { sizes = sized_routers p routers grid vcs kept.sizes; holds = holds; trackers = kept.trackers; capacities = kept.capacities; counts = kept.counts }

-- a tick that does not end the window
pub AreKept-merge : (p : Parts) (windows : WindowsState) → SameSizes p.windows windows → after_tick p.windows.ticks p.windows.windows ≡ Some windows.windows → is_last_tick p.windows.ticks p.windows.windows ≡ false
    → OrderedNetworkHolds p.chip (network_of (record p { windows = windows })) → AreKept p → AreKept (record p { windows = windows })
AreKept-merge p windows same ticks other holds kept =
    let merged = merge_is p.windows.ticks p.windows.windows windows.windows ticks other in
    other_windows p windows same (ap (λ (w : Windows). w.taken) (sym merged)) (ap (λ (w : Windows). w.closed) (sym merged)) holds kept

-- no tile has delivered more than there is
pub delivered_within : (p : Parts) (t : ℕ) → AreKept p → t < tile_count p.chip → slice_index p.delivered t ≤ length p.ordered
delivered_within p t kept inside = (kept.holds.fits.agree t (interface_of p.windows.windows.posts p.ordered p.unordered p.delivered t) (interface_at p t inside)).within

-- the last tick of a window
pub AreKept-close : (p : Parts) (windows : WindowsState) (ordered : List Request) (unordered : List (Buffer Request)) → SameSizes p.windows windows → windows.windows ≡ window_closed p.windows.windows
    → length p.ordered + tile_count p.chip ≤ p.room → LoseLowest 0 (tile_count p.chip) p.windows.windows.posts p.unordered unordered
    → ordered ≡ p.ordered ++ filter_map (lowest_of p.unordered) (expansion (tile_count p.chip) (length p.windows.windows.closed) p.windows.windows.posts)
    → OrderedNetworkHolds p.chip (network_of (record p { windows = windows; ordered = ordered; unordered = unordered })) → AreKept p
    → AreKept (record p { windows = windows; ordered = ordered; unordered = unordered })
AreKept-close p windows ordered unordered same closes room lose is holds kept =
    let w = p.windows.windows in
    let sized = sized_windows p windows same (ap (λ (v : Windows). length v.taken) closes) kept.sizes in
    let more = filter_map (lowest_of p.unordered) (expansion (tile_count p.chip) (length w.closed) w.posts) in
    record {
      sizes = sized_lists (record p { windows = windows }) p.trackers ordered unordered p.made p.delivered sized
          (omega (arith, room, ap length is, length-append p.ordered more, expansion_le (tile_count p.chip) (length w.closed) w.posts (lowest_of p.unordered) kept.sizes.some))
          refl lose.count refl refl;
      holds = holds;
      trackers = λ u tracker there.
          let inside : u < tile_count p.chip = omega (arith, slice_get_within p.trackers u tracker there, kept.sizes.trackers) in
          let following = kept.trackers u tracker there in
          let counted = slice_get-get_or w.taken u 0 (omega (arith, kept.sizes.taken)) in
          let low : slice_index w.taken u ≤ length w.closed = kept.holds.fits.windows.taken u (slice_index w.taken u) counted in
          let front : take (slice_index w.taken u) (w.closed ++ w.posts ∷ []) ≡ take (slice_index w.taken u) w.closed = take-append-le (slice_index w.taken u) w.closed (w.posts ∷ []) low in
          subst (λ (v : Windows). IsFollowing p.chip v p.delivered u tracker) (sym closes)
          (record { tiles = following.tiles; room = following.room; sets = following.sets; follows = rw front following.follows });
      capacities = λ t inside. elim (cases_Bool (has_tile w.posts t)) [
        | inl posts ↦ ap (λ (list : Buffer Request). list.capacity) (lose.lost t (omega arith) inside posts) ∙ kept.capacities t inside
        | inr not_there ↦ ap (λ (list : Buffer Request). list.capacity) (lose.left_out t not_there) ∙ kept.capacities t inside
      ];
      counts = λ t inside.
          kept.counts t inside
          ∙ ap length (sym (made_same p.chip p.routers.copies w p.ordered p.unordered unordered p.delivered lose (accounted p kept) kept.sizes.some kept.sizes.unordered t inside))
          ∙ ap (λ (rs : List Request). length (requests_of_tile rs unordered t)) (sym is);
    }
