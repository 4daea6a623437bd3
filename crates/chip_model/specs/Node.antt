-- A node: the cache side of a tile, its memory controller, and the queue of messages that it sends.
use Rattle.std.specs.Prelude.{ℕ, ◌+◌, ◌*◌, ◌==◌, Bool, true, false, not, ◌||◌, List, [], ◌++◌, map, take, drop, Option, Some, None, is_some, if◌then◌else◌}
use Rattle.std.specs.List.{list_any}
use Rattle.mesh_gen.specs.declared.request.Request.{Request}
use Rattle.mesh_gen.specs.declared.msg.Msg.{Msg}
use Rattle.mesh_gen.specs.declared.msg_kind.MsgKind.{MsgKind}
use Rattle.mesh_gen.specs.declared.msg_kind.MsgKind.TheVariants.{Data, Back}
use Rattle.mesh_gen.specs.Partial.{when}
use Rattle.order_tracker.specs.Order.{upwards}
use Rattle.report_text.specs.Accesses.{writes}
use Rattle.chip_model.specs.declared.done.Done.{Done}
use Rattle.chip_model.specs.declared.pending.Pending.{Pending}
use Rattle.chip_model.specs.declared.line_state.State.{State}
use Rattle.chip_model.specs.declared.line_state.State.TheVariants.{M, O, S}
use Rattle.chip_model.specs.Chip.{Chip, home, line_of}
use Rattle.chip_model.specs.Cache.{Cache, Held, empty_cache, lookup, has_room, installed, without_line, without_shared, lowest_for}
use Rattle.chip_model.specs.Misses.{no_misses, is_written_back, request_for, new_demand, new_back, marked_sent}
use Rattle.chip_model.specs.Snoop.{CacheSide, with_cache, with_demand, with_back, written_by, done_by, after_snoop, after_data}
use Rattle.chip_model.specs.Records.{LineRecord, Records, opening_record, answered, back_arrived}

-- the chip and the tile; the cache with its misses; the controller's records; the messages to send, the next one first;
-- and how many requests were delivered to it
pub record Node : Type 0 where
  pub chip : Chip
  pub tile : ℕ
  pub side : CacheSide
  pub records : Records
  pub out : List Msg
  pub delivered : ℕ

-- the words of a line in a memory
abbrev pub words_at : List ℕ → ℕ → List ℕ
words_at memory line = take 4 (drop (4 * line) memory)

-- the record of a line at a tile, where the tile is its home
abbrev pub record_at : Chip → ℕ → List ℕ → ℕ → Option LineRecord
record_at chip tile memory line = if home chip line == tile then Some (opening_record (words_at memory line)) else None

-- the records of a tile's controller, on such a memory
abbrev pub opening_records : Chip → ℕ → List ℕ → Records
opening_records chip tile memory = map (record_at chip tile memory) (upwards 0 chip.lines)

-- a node before any event
abbrev pub opening_node : Chip → ℕ → List ℕ → Node
opening_node chip tile memory = record {
  chip = chip;
  tile = tile;
  side = record { cache = empty_cache chip; misses = no_misses };
  records = opening_records chip tile memory;
  out = [];
  delivered = 0;
}

-- what a node becomes, and the access that it performs
abbrev pub Performed : Type 0
Performed = Node × Option Done

-- a request is delivered: first the cache acts, then the controller
unfoldable pub node_after_request : Request → Node → Performed
node_after_request q node =
    let outcome = after_snoop node.chip node.tile node.side node.delivered q in
    let answers = answered q node.records in
    (record node { side = outcome.side; records = answers.records; out = node.out ++ outcome.sends ++ answers.sends; delivered = node.delivered + 1 }, outcome.done)

-- words for the demand come
abbrev pub words_arrived : Node → List ℕ → Performed
words_arrived node words =
    let outcome = after_data node.chip node.side words in
    (record node { side = outcome.side; out = node.out ++ outcome.sends }, outcome.done)

-- words that are written back come to the controller
abbrev pub back_came : Node → ℕ → List ℕ → Node
back_came node line words =
    let answers = back_arrived line words node.records in
    record node { records = answers.records; out = node.out ++ answers.sends }

-- a message comes, by its kind
abbrev pub arrived_as : Msg → Node → MsgKind → Performed
arrived_as msg node Data = words_arrived node msg.words
arrived_as msg node Back = (back_came node msg.line msg.words, None)

-- a message comes: data for the demand, or words that come back to the controller
unfoldable pub node_after_message : Msg → Node → Performed
node_after_message msg node = arrived_as msg node msg.kind

-- the node's request is sent; its next message is
unfoldable pub after_request_sent : Node → Node
after_request_sent node = record node { side = record node.side { misses = marked_sent node.side.misses } }

-- the first message of the queue is sent
unfoldable pub after_message_sent : Node → Node
after_message_sent node = record node { out = drop 1 node.out }

-- The core's accesses.

-- whether an access waits for its words
abbrev pub has_entry : Node → Bool
has_entry node = is_some node.side.misses.demand

-- whether the node waits for something: for words, or to write a line back
abbrev pub waits_for_any : Node → Bool
waits_for_any node = is_some node.side.misses.demand || is_some node.side.misses.back

-- a message of words that are written back
abbrev pub is_back : MsgKind → Bool
is_back Back = true
is_back Data = false

-- whether words that are written back stand in the queue
abbrev pub holds_back : List Msg → Bool
holds_back out = list_any (λ (msg : Msg). is_back msg.kind) out

-- the node with another cache side
abbrev pub with_side : CacheSide → Node → Node
with_side side node = record node { side = side }

-- an access that hits is performed at once, at the time of the delivered count
abbrev pub hit_by : Pending → Held → Node → Option Done
hit_by access held node = Some (done_by access node.delivered held.words)

-- a read of a copy leaves it as it is
abbrev pub load_hit : Pending → Held → Node → Performed
load_hit access held node = (node, hit_by access held node)

-- a write changes the only copy
abbrev pub store_hit : Pending → Held → Node → Performed
store_hit access held node =
    let new : Held = record held { words = written_by access held.words } in
    (with_side (with_cache (installed node.chip new node.side.cache) node.side) node, hit_by access held node)

-- a miss starts a demand
abbrev pub demand_started : Pending → CacheSide → Node → Performed
demand_started access side node =
    (with_side (with_demand (Some (new_demand (request_for access.kind) (line_of access.address) access)) side) node, None)

-- a line that the cache owns leaves it to be written back; the access is tried again later. It waits while another
-- write-back stands, or while words to write back are still to be sent
abbrev pub back_started : Node → Option Held → Option Performed
back_started node None = None
back_started node (Some held) = when (not (holds_back node.out || is_some node.side.misses.back)) (Some (
  with_side (with_back (Some (new_back held.line held.words)) (with_cache (without_line node.chip held.line node.side.cache) node.side)) node,
  None,
))

-- a miss of a line whose set is full: a shared line is dropped silently, and where there is none one is written back
abbrev pub victim_evicted : Pending → Node → Option Cache → Option Performed
victim_evicted access node (Some cache) = Some (demand_started access (with_cache cache node.side) node)
victim_evicted access node None = back_started node (lowest_for node.chip (line_of access.address) node.side.cache)

-- a miss of a line that is not in the cache
abbrev pub missed : Pending → Node → Option Performed
missed access node =
    if has_room node.chip node.side.cache (line_of access.address) then Some (demand_started access node.side node)
    else victim_evicted access node (without_shared node.chip (line_of access.address) node.side.cache)

-- a miss is possible of any line but the one that is written back
abbrev pub unless_written_back : Pending → Node → Option Performed → Option Performed
unless_written_back access node miss = when (not (is_written_back (line_of access.address) node.side.misses.back)) miss

-- a write to the only copy hits; to another copy it is a miss
abbrev pub store_to : Pending → Held → Node → State → Option Performed
store_to access held node M = Some (store_hit access held node)
store_to access held node O = unless_written_back access node (Some (demand_started access node.side node))
store_to access held node S = unless_written_back access node (Some (demand_started access node.side node))

-- an access, by the copy of its line
abbrev pub accessed_with : Pending → Node → Option Held → Option Performed
accessed_with access node None = unless_written_back access node (missed access node)
accessed_with access node (Some held) =
    if writes access.kind then store_to access held node held.state else Some (load_hit access held node)

-- an access of the core: none where another one waits for its words, where its line is the one that is written back, or
-- where a write-back would have to wait
unfoldable pub node_after_access : Pending → Node → Option Performed
node_after_access access node =
    when (not (has_entry node)) (accessed_with access node (lookup node.chip node.side.cache (line_of access.address)))
