-- What some events make of an ordered network, each where it is possible.
use Rattle.std.specs.Prelude.{◌≡◌, ℕ, ◌+◌, ◌<◌, ◌≤◌, Bool, true, false, List, ◌∷◌, None}
use Rattle.mesh_gen.specs.declared.port.Port.{Port}
use Rattle.mesh_gen.specs.declared.ports.Ports.{Ports}
use Rattle.mesh_gen.specs.Ports.{has}
use Rattle.mesh_gen.specs.PortSets.{bits_of}
use Rattle.report_text.specs.declared.event.Event.{Event}
use Rattle.report_text.specs.declared.event.Event.TheVariants.{Take, Eject}
use Rattle.chip_model.specs.Chip.{Chip}
use Rattle.chip_model.specs.OrderedNetwork.{after_copy_hop}
use Rattle.chip_model.specs.Delivery.{network_swept, passes, IsQuiet}
use Rattle.chip_model.specs.Schedules.{router_hops}
use Rattle.net_iface.specs.OrderedNet.{NetworkState, SameSizes}
use Rattle.net_iface.specs.Moves.{moves_done, most_moves}

-- the copy in a channel, where one stands, cannot leave by any port but these
abbrev pub LeavesByThese : NetworkState → ℕ → Port → ℕ → Ports → Type 0
LeavesByThese s router port slot ports = (out : Port) → has (bits_of ports) out ≡ false → after_copy_hop s.chip s.network router port slot out ≡ None

-- requests move on, and no tick passes: nothing changes where nothing `moved`, and else the network comes further
pub record MovesOn (old new : NetworkState) (moved : Bool) : Type 0 where
  pub sizes : SameSizes old new
  pub closed : new.network.windows.closed ≡ old.network.windows.closed
  pub phase : new.network.windows.phase ≡ old.network.windows.phase
  pub ordered : new.network.ordered ≡ old.network.ordered
  pub still : moved ≡ false → new.network ≡ old.network
  pub further : moved ≡ true → moves_done old.network < moves_done new.network

-- the events were swept through
pub record Sweeps (events : List Event) (old new : NetworkState) (moved : Bool) : Type 0 where
  pub swept : new.network ≡ network_swept old.chip old.network events
  pub moves : MovesOn old new moved

-- the events of a tile and its router that move requests on
abbrev pub tile_moves : Chip → ℕ → List Event
tile_moves chip t = Take t ∷ Eject t ∷ router_hops chip t

-- so many passes went by, and in each of them something moved
pub record Passes (old new : NetworkState) : Type 0 where
  pub count : ℕ
  pub passed : passes old.chip count old.network ≡ new.network
  pub moved : moves_done old.network + count ≤ moves_done new.network
  pub sizes : SameSizes old new
  pub closed : new.network.windows.closed ≡ old.network.windows.closed
  pub phase : new.network.windows.phase ≡ old.network.windows.phase
  pub ordered : new.network.ordered ≡ old.network.ordered

-- passes went by until one did nothing, and no more of them than there can be moves
pub record Settles (old new : NetworkState) : Type 0 where
  pub passes : Passes old new
  pub few : passes.count ≤ most_moves old.chip old.network
  pub settled : IsQuiet new.chip new.network
