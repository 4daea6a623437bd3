-- The events of the chip: each is possible where its guard holds, and does one step.
use Rattle.std.specs.Prelude.{ℕ, ◌+◌, List, [], ◌∷◌, ◌++◌, Option, Some, None, slice_get, set}
use Rattle.mesh_gen.specs.declared.port.Port.{Port}
use Rattle.mesh_gen.specs.Partial.{when, ◌>>=◌}
use Rattle.report_text.specs.declared.access.Access.{Access}
use Rattle.report_text.specs.declared.event.Event.{Event}
use Rattle.report_text.specs.declared.event.Event.TheVariants.{Tick, Core, Inject, Post, Take, Eject, Send, Hop, DataHop, DataEject}
use Rattle.chip_model.specs.Chip.{Chip}
use Rattle.chip_model.specs.OrderedNetwork.{OrderedNetwork, after_inject, after_request_post, after_network_tick, after_vector_take, after_copy_hop, after_delivery}
use Rattle.chip_model.specs.Replies.{after_send, after_data_hop, after_data_eject}
use Rattle.chip_model.specs.Misses.{wanted}
use Rattle.chip_model.specs.Node.{Node, after_request_sent, after_message_sent}
use Rattle.chip_model.specs.Units.{UnitState, Acted, Behaviour}
use Rattle.chip_model.specs.ChipState.{ChipState}

-- the state with a tile's unit replaced
abbrev pub with_unit : ℕ → UnitState → ChipState → ChipState
with_unit tile unit s = record s { units = set s.units tile unit }

-- the state with the node of a tile's unit replaced
abbrev pub with_node : ℕ → UnitState → Node → ChipState → ChipState
with_node tile unit node s = with_unit tile (record unit { node = node }) s

-- the accesses with one more, where one was performed
abbrev pub with_access : Option Access → List Access → List Access
with_access None accesses = accesses
with_access (Some access) accesses = accesses ++ access ∷ []

-- the state with what a unit became and the access that it performed
abbrev pub with_acted : ℕ → Acted → ChipState → ChipState
with_acted tile acted s = record s { units = set s.units tile acted.0; accesses = with_access acted.1 s.accesses }

-- the state with another network
abbrev pub with_network : OrderedNetwork → ChipState → ChipState
with_network network s = record s { network = network }

-- the unit of a tile
unfoldable pub unit_at : ChipState → ℕ → Option UnitState
unit_at s tile = slice_get s.units tile

-- the latches merge one step
abbrev pub tick : Chip → ChipState → Option ChipState
tick chip s = after_network_tick chip s.network >>= (λ network. Some (with_network network s))

-- the core of a tile works
abbrev pub core : Behaviour → ChipState → ℕ → Option ChipState
core behaviour s tile = unit_at s tile >>= (λ unit. when (behaviour.ready unit) (Some (with_acted tile (behaviour.stepped unit) s)))

-- the request that a tile's node wants enters the network
abbrev pub inject : Chip → ChipState → ℕ → Option ChipState
inject chip s tile =
    unit_at s tile >>= (λ unit.
    wanted unit.node.side.misses >>= (λ asked.
    after_inject chip s.network tile asked.0 asked.1 >>= (λ network.
    Some (with_node tile unit (after_request_sent unit.node) (with_network network s)))))

-- a tile posts, and takes the next closed vector
abbrev pub post : ChipState → ℕ → Option ChipState
post s tile = after_request_post s.network tile >>= (λ network. Some (with_network network s))

-- a tile takes the next closed vector
abbrev pub take_vector : ChipState → ℕ → Option ChipState
take_vector s tile = after_vector_take s.network tile >>= (λ network. Some (with_network network s))

-- the request that a tile expects is delivered to its unit
abbrev pub eject : Behaviour → Chip → ChipState → ℕ → Option ChipState
eject behaviour chip s tile =
    unit_at s tile >>= (λ unit.
    after_delivery chip s.network tile >>= (λ out.
    Some (with_acted tile (behaviour.delivered out.0 unit) (with_network out.1 s))))

-- the first message of a tile's queue enters the reply network
abbrev pub send : ChipState → ℕ → Option ChipState
send s tile =
    unit_at s tile >>= (λ unit.
    slice_get unit.node.out 0 >>= (λ msg.
    after_send s.replies tile msg >>= (λ replies.
    Some (with_node tile unit (after_message_sent unit.node) (record s { replies = replies })))))

-- a copy of a request goes on to the router on a side
abbrev pub hop : Chip → ChipState → ℕ → Port → ℕ → Port → Option ChipState
hop chip s router port slot out =
    after_copy_hop chip s.network router port slot out >>= (λ network.
    Some (record s { network = network; hops = s.hops + 1 }))

-- a message goes on to the next router of its route
abbrev pub data_hop : Chip → ChipState → ℕ → Port → ℕ → Option ChipState
data_hop chip s router port slot =
    after_data_hop chip.grid s.replies router port slot >>= (λ replies. Some (record s { replies = replies }))

-- a message comes to the unit of its tile
abbrev pub data_eject : Behaviour → ChipState → ℕ → Port → ℕ → Option ChipState
data_eject behaviour s router port slot =
    after_data_eject s.replies router port slot >>= (λ out.
    unit_at s router >>= (λ unit.
    Some (with_acted router (behaviour.received out.0 unit) (record s { replies = out.1 }))))

-- what an event does, apart from being noted
unfoldable pub step : Behaviour → Chip → ChipState → Event → Option ChipState
step behaviour chip s Tick = tick chip s
step behaviour chip s (Core tile) = core behaviour s tile
step behaviour chip s (Inject tile) = inject chip s tile
step behaviour chip s (Post tile) = post s tile
step behaviour chip s (Take tile) = take_vector s tile
step behaviour chip s (Eject tile) = eject behaviour chip s tile
step behaviour chip s (Send tile) = send s tile
step behaviour chip s (Hop router port slot out) = hop chip s router port slot out
step behaviour chip s (DataHop router port slot) = data_hop chip s router port slot
step behaviour chip s (DataEject router port slot) = data_eject behaviour s router port slot
