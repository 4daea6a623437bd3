-- How many events a chip has still to go, at most: a measure that each event lowers where all branches go on. It is the
-- price of what has still to happen to each request, message and instruction, by the stage at which it stands.
use Rattle.std.specs.Prelude.{◌<◌, ℕ, ◌+◌, ◌-◌, ◌*◌, Bool, false, List, length, take, Option, Some, None, is_some, slice_get, count_by, nat_lt, nat_le, if◌then◌else◌}
use Rattle.std.specs.List.{sum_by}
use Rattle.mesh_gen.specs.declared.request.Request.{Request}
use Rattle.mesh_gen.specs.declared.msg.Msg.{Msg}
use Rattle.mesh_gen.specs.declared.port.Port.{Port}
use Rattle.mesh_gen.specs.declared.port.Port.TheVariants.{E, W, N, S}
use Rattle.mesh_gen.specs.Grid.{Grid, tiles, distance, diameter}
use Rattle.mesh_gen.specs.TileSet.{has_tile}
use Rattle.mesh_gen.specs.Tree.{covers}
use Rattle.vc_bank.specs.Places.{Network, weigh}
use Rattle.order_tracker.specs.Order.{upwards}
use Rattle.core_isa.specs.Core.{Effect, Becomes, Loads, Stores, Swaps, Adds, Halts, effect_of, instr_at}
use Rattle.chip_model.specs.declared.net_copy.NetCopy.{NetCopy}
use Rattle.chip_model.specs.declared.owner.Owner.{Owner}
use Rattle.chip_model.specs.declared.waiting.Waiting.{Waiting}
use Rattle.chip_model.specs.Chip.{Chip, tile_count, address_in, line_of}
use Rattle.chip_model.specs.Windows.{Windows}
use Rattle.chip_model.specs.Copies.{owes}
use Rattle.chip_model.specs.OrderedNetwork.{OrderedNetwork, Interface}
use Rattle.chip_model.specs.Cache.{Cache, fits}
use Rattle.chip_model.specs.Misses.{Misses, Demand, WriteBack}
use Rattle.chip_model.specs.Records.{LineRecord}
use Rattle.chip_model.specs.Node.{Node}
use Rattle.chip_model.specs.Units.{UnitState}
use Rattle.chip_model.specs.ChipState.{ChipState}
use Rattle.chip_model.specs.Ownership.{owner, is_tile}
use Rattle.chip_model.specs.Bookkeeping.{is_get}
use Rattle.chip_model.specs.Suppliers.{supplier, delivered_at}

-- The prices of a request, stage by stage, from the last one on.

-- words that are still to be sent: they are sent, go on and come
abbrev pub per_answer : Chip → ℕ
per_answer chip = 2 + diameter chip.grid

-- a request for which its tile has posted: each tile delivers it, and it is answered
abbrev pub per_posted : Chip → ℕ
per_posted chip = tile_count chip + per_answer chip

-- one for which it has not: it posts, and it may be alone in its window, whose vector each tile takes
abbrev pub per_made : Chip → ℕ
per_made chip = 1 + chip.window + tile_count chip + per_posted chip

-- one that is still to be made: it is, and its copies hop to all tiles but its own
abbrev pub per_request : Chip → ℕ
per_request chip = per_made chip + tile_count chip

-- an instruction: a request to write a line back, a request for the one that it needs, and two events of the core
abbrev pub per_instruction : Chip → ℕ
per_instruction chip = 2 * per_request chip + 2

-- Of the ordered network.

-- the requests that were made and not posted
abbrev pub posts_to_go : Chip → OrderedNetwork → ℕ
posts_to_go chip net = sum_by (λ (interface : Interface). per_made chip * (length interface.made - interface.posted)) net.interfaces

-- the tiles that posted in the open window: each has a request that it will order
abbrev pub posted_count : Chip → Windows → ℕ
posted_count chip w = count_by (has_tile w.posts) (upwards 0 (tile_count chip))

-- the ticks of the open window, and the takes of its vector, where somebody posted in it
abbrev pub window_to_go : Chip → Windows → ℕ
window_to_go chip w = if nat_lt 0 w.posts then chip.window - w.phase + tile_count chip else 0

-- the vectors of closed windows that tiles have not taken
abbrev pub vectors_to_go : Windows → ℕ
vectors_to_go w = sum_by (λ count. length w.closed - count) w.taken

-- the ordered requests that tiles have not delivered
abbrev pub deliveries_to_go : OrderedNetwork → ℕ
deliveries_to_go net = sum_by (λ (interface : Interface). length net.ordered - interface.delivered) net.interfaces

-- how many tiles the tree of s reaches from r by a port
abbrev pub tiles_by : Grid → ℕ → ℕ → Port → ℕ
tiles_by g s r out = count_by (λ tile. covers g s r tile out) (upwards 0 (tiles g))

-- those that a copy has to reach by a port
abbrev pub hops_by : Grid → ℕ → NetCopy → Port → ℕ
hops_by g r copy out = if owes copy out then tiles_by g copy.request.source r out else 0

-- those that it has to reach by its sides
abbrev pub hops_of : Grid → ℕ → NetCopy → ℕ
hops_of g r copy = hops_by g r copy E + hops_by g r copy W + hops_by g r copy N + hops_by g r copy S

-- the hops of the copy in a channel
abbrev pub hop_weight : Grid → ℕ → ℕ → ℕ → NetCopy → ℕ
hop_weight g router port slot copy = hops_of g router copy

-- the hops of all copies
abbrev pub hops_to_go : Grid → Network NetCopy → ℕ
hops_to_go g copies = weigh (hop_weight g) copies

-- the requests of the open window, its ticks, and the vectors that are to be taken
abbrev pub windows_to_go : Chip → Windows → ℕ
windows_to_go chip w = per_posted chip * posted_count chip w + window_to_go chip w + vectors_to_go w

-- the posts, the windows, the deliveries and the hops that are still to come
unfoldable pub requests_to_go : Chip → OrderedNetwork → ℕ
requests_to_go chip net = posts_to_go chip net + windows_to_go chip net.windows + deliveries_to_go net + hops_to_go chip.grid net.copies

-- Of answers.

-- the tile whose delivery of a request sends words or promises them: of a get its supplier, of a write-back the owner
abbrev pub answerer : Chip → Request → Owner → Option ℕ
answerer chip q owner =
    if is_get q.kind then Some (supplier chip q.line owner)
    else (if is_tile q.source owner then Some q.source else None)

-- a tile has not delivered the request at a place
abbrev pub has_to_come : ChipState → ℕ → Option ℕ → Bool
has_to_come s place None = false
has_to_come s place (Some t) = nat_le (delivered_at s t) place

-- the tile that answers a request at a place has not delivered it
abbrev pub is_to_answer_at : Chip → ChipState → ℕ → Option Request → Bool
is_to_answer_at chip s place None = false
is_to_answer_at chip s place (Some q) = has_to_come s place (answerer chip q (owner q.line (take place s.network.ordered)))

-- the request at a place is still to come to the tile that answers it
abbrev pub is_to_answer : Chip → ChipState → ℕ → Bool
is_to_answer chip s place = is_to_answer_at chip s place (slice_get s.network.ordered place)

-- the words of all these requests
unfoldable pub answers_to_go : Chip → ChipState → ℕ
answers_to_go chip s = per_answer chip * count_by (is_to_answer chip s) (upwards 0 (length s.network.ordered))

-- Of messages.

-- a message hops on to its tile, and is taken there
abbrev pub reply_weight : Grid → ℕ → ℕ → ℕ → Msg → ℕ
reply_weight g router port slot msg = 1 + distance g router msg.to

-- the hops of all messages, and their arrivals
unfoldable pub replies_to_go : Grid → Network Msg → ℕ
replies_to_go g replies = weigh (reply_weight g) replies

-- Of a unit.

-- the messages of a queue: each is sent, hops on and is taken
abbrev pub sends_to_go : Grid → ℕ → List Msg → ℕ
sends_to_go g t out = sum_by (λ (msg : Msg). 2 + distance g t msg.to) out

-- the words that tiles wait for cost the same
abbrev pub promises_to_go : Grid → ℕ → List Waiting → ℕ
promises_to_go g t list = sum_by (λ (waiting : Waiting). 2 + distance g t waiting.tile) list

-- those that wait for a demand
abbrev pub demand_promises : Grid → ℕ → Option Demand → ℕ
demand_promises g t None = 0
demand_promises g t (Some demand) = promises_to_go g t demand.list

-- those that wait at a record
abbrev pub record_promises : Grid → ℕ → Option LineRecord → ℕ
record_promises g t None = 0
record_promises g t (Some r) = promises_to_go g t r.waiters

-- the request of a demand, as long as it is not sent
abbrev pub unsent_demand : Chip → Option Demand → ℕ
unsent_demand chip None = 0
unsent_demand chip (Some demand) = if demand.sent then 0 else per_request chip

-- the request of a write-back, as long as it is not sent
abbrev pub unsent_back : Chip → Option WriteBack → ℕ
unsent_back chip None = 0
unsent_back chip (Some back) = if back.sent then 0 else per_request chip

-- both of them
abbrev pub unsent_to_go : Chip → Misses → ℕ
unsent_to_go chip misses = unsent_demand chip misses.demand + unsent_back chip misses.back

-- the requests that are not sent, the messages of the queue, and the words that are promised
unfoldable pub node_to_go : Chip → Node → ℕ
node_to_go chip node =
    unsent_to_go chip node.side.misses
    + sends_to_go chip.grid node.tile node.out
    + demand_promises chip.grid node.tile node.side.misses.demand
    + sum_by (record_promises chip.grid node.tile) node.records

-- an access needs one request where its line is here or may come in, and else two
abbrev pub access_to_go : Chip → Cache → ℕ → ℕ
access_to_go chip cache line = if fits chip cache line then 1 + per_request chip else per_instruction chip

-- what an instruction costs: an access its requests, any other one event
abbrev pub effect_to_go : Chip → Cache → Effect → ℕ
effect_to_go chip cache (Becomes core) = 1
effect_to_go chip cache (Loads register sum) = access_to_go chip cache (line_of (address_in chip sum))
effect_to_go chip cache (Stores sum value) = access_to_go chip cache (line_of (address_in chip sum))
effect_to_go chip cache (Swaps register sum value) = access_to_go chip cache (line_of (address_in chip sum))
effect_to_go chip cache (Adds register sum value) = access_to_go chip cache (line_of (address_in chip sum))
effect_to_go chip cache Halts = 1

-- the next instruction costs nothing where a demand stands for it: its request is counted there
abbrev pub next_to_go : Chip → UnitState → ℕ
next_to_go chip unit =
    if is_some unit.node.side.misses.demand then 0
    else effect_to_go chip unit.node.side.cache (effect_of (instr_at unit.program unit.core.place) unit.core)

-- the next instruction, and the price of each after it
abbrev pub instructions_to_go : Chip → UnitState → ℕ
instructions_to_go chip unit =
    if nat_lt unit.core.place (length unit.program)
    then per_instruction chip * (length unit.program - unit.core.place - 1) + next_to_go chip unit
    else 0

-- the instructions of a core that has not halted, and its halt
unfoldable pub core_to_go : Chip → UnitState → ℕ
core_to_go chip unit = if unit.halted then 0 else 1 + instructions_to_go chip unit

-- what a node and its core have still to do
abbrev pub unit_to_go : Chip → UnitState → ℕ
unit_to_go chip unit = node_to_go chip unit.node + core_to_go chip unit

-- what all units have
abbrev pub units_to_go : Chip → List UnitState → ℕ
units_to_go chip units = sum_by (unit_to_go chip) units

-- the measure of the whole chip: its requests, their answers, its messages and its units
abbrev pub measure : Chip → ChipState → ℕ
measure chip s = requests_to_go chip s.network + answers_to_go chip s + replies_to_go chip.grid s.replies + units_to_go chip s.units

-- a state after which fewer events are to come
abbrev pub Falls : Chip → ChipState → ChipState → Type 0
Falls chip s new = measure chip new < measure chip s
