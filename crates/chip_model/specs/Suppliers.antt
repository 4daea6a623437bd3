-- Who supplies the words of each get: each get that is ordered and not complete is answered from exactly one place, and
-- the words of each write-back reach memory once.
use Rattle.std.specs.Prelude.{◌≡◌, ℕ, ◌+◌, ◌<◌, ◌≤◌, ◌==◌, Bool, true, false, not, ◌&&◌, ◌||◌, List, [], ◌∷◌, length, take, drop, filter, sum_by, count_by, Option, Some, None, is_some, slice_get, slice_index_or, nat_le, if◌then◌else◌, position, option_map}
use Rattle.std.specs.Option.{option_or}
use Rattle.mesh_gen.specs.declared.kind.Kind.TheVariants.{GetM}
use Rattle.mesh_gen.specs.declared.request.Request.{Request}
use Rattle.mesh_gen.specs.declared.msg.Msg.{Msg}
use Rattle.mesh_gen.specs.Ports.{count_if}
use Rattle.order_tracker.specs.Order.{upwards}
use Rattle.vc_bank.specs.Places.{weigh}
use Rattle.chip_model.specs.declared.owner.Owner.{Owner}
use Rattle.chip_model.specs.declared.owner.Owner.TheVariants.{Memory, Tile}
use Rattle.chip_model.specs.declared.waiting.Waiting.{Waiting}
use Rattle.chip_model.specs.Chip.{Chip, home}
use Rattle.chip_model.specs.Misses.{Demand}
use Rattle.chip_model.specs.Records.{LineRecord}
use Rattle.chip_model.specs.Node.{Node, is_back}
use Rattle.chip_model.specs.Units.{UnitState}
use Rattle.chip_model.specs.ChipState.{ChipState}
use Rattle.chip_model.specs.Ownership.{owner, is_tile, delivered_to}
use Rattle.chip_model.specs.Bookkeeping.{is_get, is_get_of, up_to_getm, waiting_for, between}

-- how many requests were delivered to a unit, where there is one
abbrev pub count_of : Option UnitState → ℕ
count_of None = 0
count_of (Some unit) = unit.node.delivered

-- how many requests were delivered to a tile
abbrev pub delivered_at : ChipState → ℕ → ℕ
delivered_at s t = count_of (slice_get s.units t)

-- who supplies a get for a line: the owner of the line, and else the memory at the line's home
abbrev pub supplier : Chip → ℕ → Owner → ℕ
supplier chip line Memory = home chip line
supplier chip line (Tile owner) = owner

-- whether a request is a get of a tile that its supplier has not delivered
abbrev pub is_to_come_at : Chip → ChipState → ℕ → ℕ → Option Request → Bool
is_to_come_at chip s t place None = false
is_to_come_at chip s t place (Some q) =
    is_get_of t q && nat_le (delivered_at s (supplier chip q.line (owner q.line (take place s.network.ordered)))) place

-- the get of a tile at a place is still to come to its supplier
abbrev pub is_to_come : Chip → ChipState → ℕ → ℕ → Bool
is_to_come chip s t place = is_to_come_at chip s t place (slice_get s.network.ordered place)

-- words on their way to a tile: in queues and in channels
abbrev pub is_data_for : ℕ → Msg → Bool
is_data_for t msg = not (is_back msg.kind) && (msg.to == t)

-- the messages of words for a tile in channels
abbrev pub data_in_channels : ChipState → ℕ → ℕ
data_in_channels s t = weigh (λ router port slot msg. count_if (is_data_for t msg)) s.replies

-- places of a tile in lists of tiles that wait
abbrev pub places_in : ℕ → List Waiting → ℕ
places_in t list = count_by (λ (waiting : Waiting). waiting.tile == t) list

-- a tile's places in the list of a demand
abbrev pub places_after : ℕ → Option Demand → ℕ
places_after t None = 0
places_after t (Some demand) = places_in t demand.list

-- a tile's places among the waiters of a record
abbrev pub places_at : ℕ → Option LineRecord → ℕ
places_at t None = 0
places_at t (Some r) = places_in t r.waiters

-- what a node has promised a tile
abbrev pub promised_by : ℕ → UnitState → ℕ
promised_by t unit =
    count_by (is_data_for t) unit.node.out + places_after t unit.node.side.misses.demand + sum_by (places_at t) unit.node.records

-- everything from which a tile's gets are still to be answered
abbrev pub answers_to_come : Chip → ChipState → ℕ → ℕ
answers_to_come chip s t =
    sum_by (promised_by t) s.units + data_in_channels s t + count_by (is_to_come chip s t) (upwards 0 (length s.network.ordered))

-- a demand has early data
abbrev pub has_early : Option Demand → Bool
has_early None = false
has_early (Some demand) = is_some demand.early

-- a demand is ordered
abbrev pub is_ordered : Option Demand → Bool
is_ordered None = false
is_ordered (Some demand) = is_some demand.ordered

-- a tile's gets that it has not delivered, and its ordered demand, are each answered once
abbrev pub IsSupplied : Chip → ChipState → ℕ → Node → Type 0
IsSupplied chip s t node =
    count_if (has_early node.side.misses.demand) + answers_to_come chip s t
    ≡ count_by (is_get_of t) (drop node.delivered s.network.ordered) + count_if (is_ordered node.side.misses.demand)

-- the place of the one get of a tile that is ordered and not complete: its ordered demand's, and else the first that the
-- tile has not delivered
abbrev pub place_to_come : ChipState → Node → Option ℕ
place_to_come s node = option_map (λ place. node.delivered + place) (position (is_get_of node.tile) (drop node.delivered s.network.ordered))

-- the place of an ordered demand
abbrev pub place_of_ordered : Option Demand → Option ℕ
place_of_ordered None = None
place_of_ordered (Some demand) = demand.ordered

-- the place of the get for which a tile waits
abbrev pub place_of_get : ChipState → Node → Option ℕ
place_of_get s node = option_or (place_of_ordered node.side.misses.demand) (place_to_come s node)

-- no other get of the tile is still to come to its supplier
abbrev pub OneToCome : Chip → ChipState → ℕ → Node → Type 0
OneToCome chip s t node = (place : ℕ) → is_to_come chip s t place ≡ true → place_of_get s node ≡ Some place

-- Write-backs.

-- a request writes a line back from this owner
abbrev pub writes_back_as : ℕ → Owner → Option Request → Bool
writes_back_as line owner None = false
writes_back_as line owner (Some q) = not (is_get q.kind) && (q.line == line) && is_tile q.source owner

-- the request at a place writes a line back to the memory, from its owner
abbrev pub writes_back : ℕ → List Request → ℕ → Bool
writes_back line ordered place = writes_back_as line (owner line (take place ordered)) (slice_get ordered place)

-- the places of these requests, and the last of them
abbrev pub places_written_back : ℕ → List Request → List ℕ
places_written_back line ordered = filter (writes_back line ordered) (upwards 0 (length ordered))

-- the last of these
abbrev pub last : List ℕ → Option ℕ
last [] = None
last (place ∷ []) = Some place
last (first ∷ next ∷ rest) = last (next ∷ rest)

-- the place of the last request that wrote a line back
abbrev pub last_written_back : ℕ → List Request → Option ℕ
last_written_back line ordered = last (places_written_back line ordered)

-- the words of a line that are on their way home, in queues and in channels
abbrev pub is_back_for : ℕ → Msg → Bool
is_back_for line msg = is_back msg.kind && (msg.line == line)

-- how many messages are writing a line back
abbrev pub write_backs_in_flight : ChipState → ℕ → ℕ
write_backs_in_flight s line =
    sum_by (λ (unit : UnitState). count_by (is_back_for line) unit.node.out) s.units
    + weigh (λ router port slot msg. count_if (is_back_for line msg)) s.replies

-- the tile of a request has not delivered it at its place
abbrev pub is_undelivered_at : ChipState → ℕ → Option Request → Bool
is_undelivered_at s place None = false
is_undelivered_at s place (Some q) = nat_le (delivered_at s q.source) place

-- the tile of the request at a place has not delivered it
abbrev pub is_undelivered : ChipState → ℕ → Bool
is_undelivered s place = is_undelivered_at s place (slice_get s.network.ordered place)

-- how many requests are still to write a line back
abbrev pub write_backs_to_come : ChipState → ℕ → ℕ
write_backs_to_come s line = count_by (is_undelivered s) (places_written_back line s.network.ordered)

-- the words of all but the last request that wrote a line back have reach memory: each by one message
pub record ReachesMemory (s : ChipState) (line : ℕ) : Type 0 where
  pub once : write_backs_in_flight s line + write_backs_to_come s line ≤ 1
  pub last : 0 < write_backs_in_flight s line + write_backs_to_come s line → is_some (last_written_back line s.network.ordered) ≡ true
  pub undelivered : (place : ℕ) → writes_back line s.network.ordered place ≡ true → is_undelivered s place ≡ true → last_written_back line s.network.ordered ≡ Some place

-- a place is that one
abbrev pub is_last : Option ℕ → ℕ → Bool
is_last None place = false
is_last (Some last) place = last == place

-- whether the words of the request at a place, which wrote the line back, have reach memory
abbrev pub has_reached_memory : ChipState → ℕ → ℕ → Bool
has_reached_memory s line place =
    not (is_last (last_written_back line s.network.ordered) place) || (write_backs_in_flight s line + write_backs_to_come s line == 0)

-- the place of the next request that writes a line back, from a place on
abbrev pub next_from : ℕ → List ℕ → Option ℕ
next_from place [] = None
next_from place (first ∷ rest) = if nat_le place first then Some first else next_from place rest

-- the place of the next request that writes a line back
abbrev pub next_written_back : ChipState → ℕ → ℕ → Option ℕ
next_written_back s line place = next_from place (places_written_back line s.network.ordered)

-- a record is fresh where the memory owns the line and the words of the last request that wrote it back, if there is one,
-- have come; where a tile owns it, where the words of the next one have come before it
abbrev pub has_come : ChipState → ℕ → Bool → Option ℕ → Bool
has_come s line none None = none
has_come s line none (Some place) = has_reached_memory s line place

-- whether a record is fresh, by its owner
abbrev pub is_fresh_by : ChipState → Node → ℕ → Owner → Bool
is_fresh_by s node line Memory = has_come s line true (last_written_back line (delivered_to s.network.ordered node))
is_fresh_by s node line (Tile t) = has_come s line false (next_written_back s line node.delivered)

-- the records of a node are fresh by that rule
abbrev pub RecordsAreFresh : ChipState → Node → Type 0
RecordsAreFresh s node = (line : ℕ) (r : LineRecord) → slice_index_or node.records line None ≡ Some r → r.fresh ≡ is_fresh_by s node line r.owner

-- the gets that wait at a home: those after the last request that wrote the line back, as long as its words have not come
abbrev pub waiters_after : ChipState → Node → ℕ → Option ℕ → List Waiting
waiters_after s node line None = []
waiters_after s node line (Some place) =
    if has_reached_memory s line place then []
    else waiting_for (up_to_getm (filter (λ (q : Request). is_get q.kind && (q.line == line)) (between place node.delivered s.network.ordered)))

-- who waits at the records of a node is told by the order
abbrev pub WaitersAreGets : ChipState → Node → Type 0
WaitersAreGets s node = (line : ℕ) (r : LineRecord) → slice_index_or node.records line None ≡ Some r →
    r.waiters ≡ (if r.fresh then [] else waiters_after s node line (last_written_back line (delivered_to s.network.ordered node)))

-- the get at a place is the one for which its tile waits
abbrev pub IsOpen : ChipState → ℕ → Request → Type 0
IsOpen s place q = (unit : UnitState) → slice_get s.units q.source ≡ Some unit → place_of_get s unit.node ≡ Some place

-- No get for a line is complete after a GetM for it that is not, or after the last request that wrote the line back as
-- long as its words have not come.
pub record GetsWait (s : ChipState) (line : ℕ) : Type 0 where
  pub after_write : (g place : ℕ) (first q : Request) (unit : UnitState) → g < place →
      slice_get s.network.ordered g ≡ Some first → first.kind ≡ GetM → first.line ≡ line →
      slice_get s.units first.source ≡ Some unit → place_of_get s unit.node ≡ Some g →
      slice_get s.network.ordered place ≡ Some q → is_get q.kind ≡ true → q.line ≡ line → IsOpen s place q
  pub after_back : (g place : ℕ) (q : Request) → 0 < write_backs_in_flight s line + write_backs_to_come s line →
      last_written_back line s.network.ordered ≡ Some g → g < place →
      slice_get s.network.ordered place ≡ Some q → is_get q.kind ≡ true → q.line ≡ line → IsOpen s place q
