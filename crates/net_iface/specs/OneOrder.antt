-- The one order of requests, of which each tile delivers a prefix.
use Rattle.std.specs.Prelude.{◌≡◌, ℕ, ◌<◌, ◌≤◌, length, Some, slice_get}
use Rattle.chip_model.specs.Chip.{Chip, tile_count}
use Rattle.chip_model.specs.OrderedNetwork.{OrderedNetwork, Interface}
use Rattle.chip_model.specs.Bookkeeping.{AreMadeBy, IsInOrder}
use Rattle.chip_model.specs.NetworkFits.{requests_of}

-- its sources are the tiles of the closed windows by the rotating priority, the requests of each tile stand in it by
-- their numbers from 0 on, and so each once, and no tile has delivered more than there are
pub record IsOneOrder (chip : Chip) (net : OrderedNetwork) : Type 0 where
  pub in_order : IsInOrder chip net
  pub numbered : (t : ℕ) → t < tile_count chip → AreMadeBy t (requests_of t net.ordered)
  pub tiles : length net.interfaces ≡ tile_count chip
  pub within : (t : ℕ) (interface : Interface) → slice_get net.interfaces t ≡ Some interface → interface.delivered ≤ length net.ordered
