-- What a window of a broadcast makes of an ordered network.
use Rattle.std.specs.Prelude.{◌≡◌, ◌⊎◌, ℕ, ◌+◌, ◌<◌, ◌≤◌, List, length}
use Rattle.report_text.specs.declared.event.Event.{Event}
use Rattle.chip_model.specs.Chip.{tile_count}
use Rattle.chip_model.specs.Delivery.{network_swept, ticks}
use Rattle.net_iface.specs.OrderedNet.{NetworkState, SameSizes}

-- events were swept through that order no request, and no tick was among them
pub record BeginsWindow (events : List Event) (old new : NetworkState) : Type 0 where
  pub swept : new.network ≡ network_swept old.chip old.network events
  pub sizes : SameSizes old new
  pub ordered : new.network.ordered ≡ old.network.ordered
  pub phase : new.network.windows.phase ≡ old.network.windows.phase

-- a window began with these events, and so many of its ticks passed: the window is open where a tile posted, and over
-- after its last tick
pub record TicksFor (count : ℕ) (old new : NetworkState) : Type 0 where
  pub swept : new.network ≡ network_swept old.chip old.network (ticks count)
  pub sizes : SameSizes old new
  pub ordered : count < old.chip.window → new.network.ordered ≡ old.network.ordered
  pub runs : count < old.chip.window →
      ((new.network.windows.phase ≡ 0) × (new.network.windows.posts ≡ 0)) ⊎ ((new.network.windows.phase ≡ count) × (0 < new.network.windows.posts))
  pub over : count ≡ old.chip.window → new.network.windows.phase ≡ 0
  pub few : length new.network.ordered ≤ length old.network.ordered + tile_count old.chip

-- all events of a window were swept through, and it is over
pub record WindowPasses (events : List Event) (old new : NetworkState) : Type 0 where
  pub swept : new.network ≡ network_swept old.chip old.network events
  pub sizes : SameSizes old new
  pub over : new.network.windows.phase ≡ 0
  pub few : length new.network.ordered ≤ length old.network.ordered + tile_count old.chip
