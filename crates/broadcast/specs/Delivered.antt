-- How far a broadcast has come.
use Rattle.std.specs.Prelude.{◌≡◌, ℕ, ◌*◌, ◌≤◌, List, length, map, take}
use Rattle.chip_model.specs.Chip.{Chip, tile_count}
use Rattle.chip_model.specs.OrderedNetwork.{opening_network}
use Rattle.chip_model.specs.Delivery.{Delivers, rising}
use Rattle.net_iface.specs.OrderedNet.{NetworkState}
use Rattle.broadcast.specs.Settled.{windows_settled}

-- so many windows of these posts have been broadcast, and none is open
pub record HasBroadcast (chip : Chip) (posts : List (List ℕ)) (room count : ℕ) (s : NetworkState) : Type 0 where
  pub chip_is : s.chip ≡ chip
  pub room_is : s.room ≡ room
  pub delivers : Delivers chip (map (rising chip) (take count posts)) (opening_network chip) s.network
  pub network : s.network ≡ windows_settled chip (map (rising chip) (take count posts))
  pub over : s.network.windows.phase ≡ 0
  pub few : length s.network.ordered ≤ count * tile_count chip
