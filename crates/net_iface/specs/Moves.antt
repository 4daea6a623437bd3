-- How far the requests of an ordered network have come.
use Rattle.std.specs.Prelude.{ℕ, ◌+◌, ◌*◌, length}
use Rattle.std.specs.List.{sum_by}
use Rattle.chip_model.specs.Chip.{Chip, tile_count}
use Rattle.chip_model.specs.OrderedNetwork.{OrderedNetwork, Interface}
use Rattle.chip_model.specs.CopiesOwed.{channel_count}
use Rattle.router_xy.specs.RequestNetwork.{arrived}

-- how many vectors were taken and copies moved on: one more with each take and each hop, and with each delivery, which
-- takes away a copy that has arrived
unfoldable pub moves_done : OrderedNetwork → ℕ
moves_done net =
    sum_by (λ taken. taken) net.windows.taken + arrived net.copies + 2 * sum_by (λ (interface : Interface). interface.delivered) net.interfaces

-- there are never more, as long as no window closes
abbrev pub most_moves : Chip → OrderedNetwork → ℕ
most_moves chip net =
    tile_count chip * length net.windows.closed + channel_count chip + 2 * (tile_count chip * length net.ordered)
