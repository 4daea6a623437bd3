-- The ordered network of a chip, and what is true of it at every moment.
use Rattle.std.specs.Prelude.{◌≡◌, ℕ, ◌+◌, ◌<◌, ◌≤◌, List, length, map, take, Some, slice_get, slice_index}
use Rattle.mesh_gen.specs.declared.request.Request.{Request}
use Rattle.order_tracker.specs.Order.{order}
use Rattle.chip_model.specs.Chip.{Chip, tile_count}
use Rattle.chip_model.specs.OrderedNetwork.{OrderedNetwork, Interface, opening_network}
use Rattle.chip_model.specs.CopiesOwed.{channel_count}

-- the chip, its ordered network, and how many requests may be ordered in all
pub record NetworkState : Type 0 where
  pub chip : Chip
  pub network : OrderedNetwork
  pub room : ℕ

-- before any step
abbrev pub opening_state : Chip → ℕ → NetworkState
opening_state chip room = record { chip = chip; network = opening_network chip; room = room }

-- what no call changes
pub record SameSizes (old new : NetworkState) : Type 0 where
  pub chip_is : new.chip ≡ old.chip
  pub room_is : new.room ≡ old.room

-- of each tile, how many requests of the order it has delivered
abbrev pub delivered_counts : OrderedNetwork → List ℕ
delivered_counts net = map (λ (interface : Interface). interface.delivered) net.interfaces

-- the requests that a tile has delivered: a prefix of the order
abbrev pub delivered_by : OrderedNetwork → ℕ → List Request
delivered_by net t = take (slice_index (delivered_counts net) t) net.ordered

-- of the vectors that a tile has taken and not used up there are never more than there are request channels
abbrev pub FewAreLeft : Chip → OrderedNetwork → Type 0
FewAreLeft chip net = (t taken used : ℕ) (interface : Interface) →
    slice_get net.interfaces t ≡ Some interface → slice_get net.windows.taken t ≡ Some taken → used < taken →
    interface.delivered < length (order (tile_count chip) (take (used + 1) net.windows.closed)) → taken ≤ used + channel_count chip
