-- Each closed window has ordered a request.
use Rattle.std.proofs.Common.{◌<◌, ◌≤◌, length, arith}
use Rattle.order_tracker.specs.Tracker.{IsWindow}
use Rattle.chip_model.specs.Chip.{Chip, tile_count}
use Rattle.chip_model.specs.OrderedNetwork.{OrderedNetwork}
use Rattle.chip_model.specs.NetworkFits.{NetworkFits}
use Rattle.net_iface.proofs.Orders.{length-order_from-ge, each_window}
use Rattle.net_iface.proofs.Room.{length-ordered}

pub closed_few : (chip : Chip) (net : OrderedNetwork) → 0 < tile_count chip → NetworkFits chip net → length net.windows.closed ≤ length net.ordered
closed_few chip net some fits =
    omega (
      arith,
      length-ordered (tile_count chip) net.ordered net.windows.closed fits.ordered,
      length-order_from-ge (tile_count chip) 0 net.windows.closed some (each_window (IsWindow (tile_count chip)) net.windows.closed fits.windows.closed),
    )
