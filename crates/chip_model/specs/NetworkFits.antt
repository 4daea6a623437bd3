-- What holds of the ordered network at every moment: each tile's requests and the order agree, and each request is owed a
-- tile by exactly one copy until the tile has delivered it.
use Rattle.std.specs.Prelude.{◌≡◌, ℕ, ◌+◌, ◌≤◌, ◌==◌, true, List, length, take, filter, Some, slice_get, if◌then◌else◌}
use Rattle.mesh_gen.specs.declared.request.Request.{Request}
use Rattle.mesh_gen.specs.TileSet.{has_tile}
use Rattle.order_tracker.specs.Order.{order}
use Rattle.chip_model.specs.Chip.{Chip, tile_count}
use Rattle.chip_model.specs.OrderedNetwork.{OrderedNetwork, Interface}
use Rattle.chip_model.specs.NetworkShape.{HasChannels, WindowsFit, CopiesAreMade}
use Rattle.chip_model.specs.Bookkeeping.{AreMadeBy, IsInOrder, count_by_tile}
use Rattle.chip_model.specs.CopiesOwed.{CopiesFit, IsOwedUntilDelivered, ReservedIsOrdered, NoneAhead}

-- the requests of a tile among some, in their order
abbrev pub requests_of : ℕ → List Request → List Request
requests_of t requests = filter (λ (q : Request). q.source == t) requests

-- a tile's requests are numbered from 0 and stand in the order in their own order, each once; it has posted for those, and
-- for one more in the open window where it posted there; and it has delivered no more than there is
pub record InterfaceAgrees (net : OrderedNetwork) (t : ℕ) (interface : Interface) : Type 0 where
  pub within : interface.delivered ≤ length net.ordered
  pub made : AreMadeBy t interface.made
  pub ordered : requests_of t net.ordered ≡ take (count_by_tile t net.ordered) interface.made
  pub posted_made : interface.posted ≤ length interface.made
  pub posted : interface.posted ≡ count_by_tile t net.ordered + (if has_tile net.windows.posts t then 1 else 0)

-- the sources of the order are the tiles of the closed windows by the rotating priority, and each request is owed a tile
-- by exactly one copy until the tile has delivered it
pub record NetworkFits (chip : Chip) (net : OrderedNetwork) : Type 0 where
  pub channels : HasChannels chip.grid chip.vcs true net.copies
  pub windows : WindowsFit chip net.windows
  pub interfaces : length net.interfaces ≡ tile_count chip
  pub agree : (t : ℕ) (interface : Interface) → slice_get net.interfaces t ≡ Some interface → InterfaceAgrees net t interface
  pub made : CopiesAreMade net
  pub ordered : IsInOrder chip net
  pub copies : CopiesFit chip.grid net.copies
  pub owed : IsOwedUntilDelivered chip net
  pub ahead : NoneAhead chip.grid net.copies
  pub reserved : ReservedIsOrdered chip net

-- what a tile has delivered is of windows that it took
abbrev pub DeliversWhatItTook : Chip → OrderedNetwork → Type 0
DeliversWhatItTook chip net = (t count : ℕ) (interface : Interface) →
    slice_get net.interfaces t ≡ Some interface → slice_get net.windows.taken t ≡ Some count →
    interface.delivered ≤ length (order (tile_count chip) (take count net.windows.closed))
