-- Which steps of the ordered network are possible, and when there is nothing left for it to do.
use Rattle.std.specs.Prelude.{◌≡◌, ◌<◌, ℕ, true, length, Some, None, is_some, slice_get}
use Rattle.mesh_gen.specs.declared.port.Port.{Port}
use Rattle.vc_bank.specs.Places.{at}
use Rattle.chip_model.specs.Chip.{Chip, tile_count}
use Rattle.chip_model.specs.OrderedNetwork.{OrderedNetwork, Interface, after_request_post, after_network_tick, after_vector_take, after_copy_hop, after_delivery}
use Rattle.chip_model.specs.Bookkeeping.{count_by_tile}

-- a tile can take a vector, a copy can hop, or a tile can deliver a request
pub data DeliveryMoves (chip : Chip) (net : OrderedNetwork) : Type 0 where
  takes : (t : ℕ) → is_some (after_vector_take net t) ≡ true → DeliveryMoves chip net
  hops : (r : ℕ) (port : Port) (slot : ℕ) (out : Port) → is_some (after_copy_hop chip net r port slot out) ≡ true → DeliveryMoves chip net
  ejects : (t : ℕ) → t < tile_count chip → is_some (after_delivery chip net t) ≡ true → DeliveryMoves chip net

-- one of these, or a tick or a post
pub data NetworkMoves (chip : Chip) (net : OrderedNetwork) : Type 0 where
  delivers : DeliveryMoves chip net → NetworkMoves chip net
  ticks : is_some (after_network_tick chip net) ≡ true → NetworkMoves chip net
  posts : (t : ℕ) → is_some (after_request_post net t) ≡ true → NetworkMoves chip net

-- every tile has taken every vector and delivered every ordered request
pub record AllDelivered (net : OrderedNetwork) : Type 0 where
  pub taken : (t count : ℕ) → slice_get net.windows.taken t ≡ Some count → count ≡ length net.windows.closed
  pub delivered : (t : ℕ) (interface : Interface) → slice_get net.interfaces t ≡ Some interface → interface.delivered ≡ length net.ordered

-- nothing is left to do: every request that was made is ordered, too, and no copy stands anywhere
pub record NetworkRests (net : OrderedNetwork) : Type 0 where
  pub all : AllDelivered net
  pub ordered : (t : ℕ) (interface : Interface) → slice_get net.interfaces t ≡ Some interface → length interface.made ≡ count_by_tile t net.ordered
  pub copies : (router port slot : ℕ) → at net.copies router port slot ≡ None
