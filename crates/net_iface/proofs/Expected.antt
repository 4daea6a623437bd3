-- What a tracker says comes next is what the tile expects.
use Rattle.std.proofs.Common.{◌≡◌, ℕ, ◌<◌, ◌≤◌, take, Option, Some, None, refl, sym, ◌∙◌, inl, inr, arith}
use Rattle.std.specs.Prelude.{slice_get, slice_index, option_and_then}
use Rattle.std.proofs.lemmas.Bool.{cases_lt}
use Rattle.std.proofs.lemmas.Option.{slice_get-get_or, slice_get_within}
use Rattle.order_tracker.specs.Order.{order, entry_at}
use Rattle.order_tracker.specs.Tracker.{TrackerState, next_request_of}
use Rattle.order_tracker.proofs.Sequence.{entry_follows}
use Rattle.chip_model.specs.Chip.{tile_count}
use Rattle.chip_model.specs.Copies.{Name}
use Rattle.chip_model.specs.OrderedNetwork.{expected_at}
use Rattle.net_iface.specs.Parts.{Parts, interface_of, network_of, AreSized, AreKept}
use Rattle.net_iface.proofs.Interfaces.{tile_at, no_tile}
use Rattle.net_iface.proofs.Places.{past_end}

-- the interface of a tile, and of none
pub interface_at : (p : Parts) (t : ℕ) → t < tile_count p.chip → slice_get (network_of p).interfaces t ≡ Some (interface_of p.windows.windows.posts p.ordered p.unordered p.delivered t)
interface_at p t inside = tile_at (interface_of p.windows.windows.posts p.ordered p.unordered p.delivered) (tile_count p.chip) t inside

pub no_interface : (p : Parts) (t : ℕ) → tile_count p.chip ≤ t → slice_get (network_of p).interfaces t ≡ None
no_interface p t past = no_tile (interface_of p.windows.windows.posts p.ordered p.unordered p.delivered) (tile_count p.chip) t past

-- what a tile expects of the windows that it has taken
pub expected_at-some : (p : Parts) (t : ℕ) → AreSized p → t < tile_count p.chip
    → expected_at p.chip (network_of p) t ≡ entry_at (order (tile_count p.chip) (take (slice_index p.windows.windows.taken t) p.windows.windows.closed)) (slice_index p.delivered t)
unfolding expected_at
expected_at-some p t sizes inside =
    let counted : slice_get p.windows.windows.taken t ≡ Some (slice_index p.windows.windows.taken t) = slice_get-get_or p.windows.windows.taken t 0 (omega (arith, sizes.taken)) in
    rw (interface_at p t inside, counted) refl

pub expected_at-none : (p : Parts) (t : ℕ) → tile_count p.chip ≤ t → expected_at p.chip (network_of p) t ≡ None
unfolding expected_at
expected_at-none p t past = rw (no_interface p t past) refl

next_by : (p : Parts) (t : ℕ) (tracker : Option TrackerState) → slice_get p.trackers t ≡ tracker → AreKept p → option_and_then next_request_of tracker ≡ expected_at p.chip (network_of p) t
next_by p t None is kept = sym (expected_at-none p t (omega (arith, past_end p.trackers t is, kept.sizes.trackers)))
next_by p t (Some tracker) is kept =
    let inside : t < tile_count p.chip = omega (arith, slice_get_within p.trackers t tracker is, kept.sizes.trackers) in
    let following = kept.trackers t tracker is in
    let some : 0 < tracker.tiles = omega (arith, following.tiles, kept.sizes.some) in
    entry_follows (take (slice_index p.windows.windows.taken t) p.windows.windows.closed) (slice_index p.delivered t) tracker some following.follows
    ∙ rw following.tiles (sym (expected_at-some p t kept.sizes inside))

pub next_expected : (p : Parts) (t : ℕ) → AreKept p → option_and_then next_request_of (slice_get p.trackers t) ≡ expected_at p.chip (network_of p) t
next_expected p t kept = next_by p t (slice_get p.trackers t) refl kept

-- only a tile expects a request
pub expects_tile : (p : Parts) (t : ℕ) (name : Name) → expected_at p.chip (network_of p) t ≡ Some name → t < tile_count p.chip
expects_tile p t name is = elim (cases_lt t (tile_count p.chip)) [
  | inl inside ↦ inside
  | inr past ↦ let none = expected_at-none p t past in cc
]
