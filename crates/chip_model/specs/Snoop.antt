-- What a node's cache does at the delivery of a request, and when data comes for it.
use Rattle.std.specs.Prelude.{ℕ, ◌+◌, ◌==◌, Bool, true, false, ◌&&◌, List, [], ◌∷◌, ◌++◌, map, Option, Some, None, is_some, slice_index, set, if◌then◌else◌}
use Rattle.mesh_gen.specs.declared.kind.Kind.{Kind}
use Rattle.mesh_gen.specs.declared.kind.Kind.TheVariants.{GetS, GetM, PutM}
use Rattle.mesh_gen.specs.declared.request.Request.{Request}
use Rattle.mesh_gen.specs.declared.msg.Msg.{Msg}
use Rattle.mesh_gen.specs.declared.msg_kind.MsgKind.TheVariants.{Data, Back}
use Rattle.report_text.specs.declared.access.AccessKind.{AccessKind}
use Rattle.report_text.specs.Accesses.{is_read_modify_write, word_after}
use Rattle.chip_model.specs.declared.done.Done.{Done}
use Rattle.chip_model.specs.declared.line_state.State.{State}
use Rattle.chip_model.specs.declared.line_state.State.TheVariants.{M, O, S}
use Rattle.chip_model.specs.declared.pending.Pending.{Pending}
use Rattle.chip_model.specs.declared.waiting.Waiting.{Waiting}
use Rattle.chip_model.specs.Chip.{Chip, home, word_of}
use Rattle.chip_model.specs.Cache.{Cache, Held, is_shared, lookup, installed, without_line}
use Rattle.chip_model.specs.Misses.{Misses, Demand, WriteBack, is_getm, ends_in_getm}

-- the cache with its misses
pub record CacheSide : Type 0 where
  pub cache : Cache
  pub misses : Misses

-- what a step leaves, which messages it sends, and the access that it completes
pub record Outcome : Type 0 where
  pub side : CacheSide
  pub sends : List Msg
  pub done : Option Done

-- a step that leaves this side, and sends and completes nothing
abbrev pub quiet : CacheSide → Outcome
quiet side = record { side = side; sends = []; done = None }

-- the side with another demand
abbrev pub with_demand : Option Demand → CacheSide → CacheSide
with_demand demand side = record side { misses = record side.misses { demand = demand } }

-- the side with another write-back
abbrev pub with_back : Option WriteBack → CacheSide → CacheSide
with_back back side = record side { misses = record side.misses { back = back } }

-- the side with another cache
abbrev pub with_cache : Cache → CacheSide → CacheSide
with_cache cache side = record side { cache = cache }

-- a line's words for a tile, and for each that waits
abbrev pub data_to : ℕ → ℕ → List ℕ → Msg
data_to tile line words = record { to = tile; kind = Data; line = line; words = words }

-- words for each that waits
abbrev pub data_to_all : ℕ → List ℕ → List Waiting → List Msg
data_to_all line words list = map (λ (waiting : Waiting). data_to waiting.tile line words) list

-- The request of another tile.

-- what a node has for a line, as far as other tiles' requests for it go
pub data Holding : Type 0 where
  -- a copy that it owns, in M or O
  OwnedCopy : List ℕ → Holding
  -- a write-back under which it still owns the line
  LiveBack : List ℕ → Holding
  -- an ordered demand to write, after which more tiles may wait
  OpenWrite : Demand → Holding
  -- an ordered demand to read
  OpenRead : Demand → Holding
  -- a copy in S, and no ordered demand to write
  SharedCopy : Holding
  -- none of these
  Nothing : Holding

-- what an ordered demand is for other tiles
abbrev pub holding_demand : Demand → Holding
holding_demand demand =
    if is_getm demand.kind then (if ends_in_getm demand.list then Nothing else OpenWrite demand) else OpenRead demand

-- by the copy in the cache, a live write-back of the line, and an ordered demand for it
abbrev pub holding_unowned : Bool → Option WriteBack → Option Demand → Holding
holding_unowned is_shared (Some back) demand = LiveBack back.words
holding_unowned is_shared None (Some demand) = holding_demand demand
holding_unowned is_shared None None = if is_shared then SharedCopy else Nothing

-- the first of these that holds, by the copy, the write-back and the demand
abbrev pub holding_by : Option Held → Option WriteBack → Option Demand → Holding
holding_by None back demand = holding_unowned false back demand
holding_by (Some held) back demand = if is_shared held.state then holding_unowned true back demand else OwnedCopy held.words

-- the ordered demand for a line
abbrev pub ordered_for : ℕ → Option Demand → Option Demand
ordered_for line None = None
ordered_for line (Some demand) = if (demand.line == line) && is_some demand.ordered then Some demand else None

-- the live write-back of a line
abbrev pub live_for : ℕ → Option WriteBack → Option WriteBack
live_for line None = None
live_for line (Some back) = if (back.line == line) && back.live then Some back else None

-- what a node has for a line
unfoldable pub holding : Chip → CacheSide → ℕ → Holding
holding chip side line = holding_by (lookup chip side.cache line) (live_for line side.misses.back) (ordered_for line side.misses.demand)

-- the words go to the tile that asked
abbrev pub supplies : Request → List ℕ → CacheSide → Outcome
supplies q words side = record { side = side; sends = data_to q.source q.line words ∷ []; done = None }

-- the line leaves the cache; its copy becomes owned; the write-back becomes stale
abbrev pub line_gone : Chip → ℕ → CacheSide → CacheSide
line_gone chip line side = with_cache (without_line chip line side.cache) side

-- the copy of a line becomes one that others may share
abbrev pub made_owned : Chip → ℕ → List ℕ → CacheSide → CacheSide
made_owned chip line words side = with_cache (installed chip (record { line = line; state = O; words = words }) side.cache) side

-- the write-back, under which the node owns nothing any more
abbrev pub stale_back : Option WriteBack → Option WriteBack
stale_back None = None
stale_back (Some back) = Some (record back { live = false })

-- the side with that write-back
abbrev pub made_stale : CacheSide → CacheSide
made_stale side = with_back (stale_back side.misses.back) side

-- the tile waits for the demand; the demand's words serve once
abbrev pub deferred_to_demand : Request → Demand → CacheSide → CacheSide
deferred_to_demand q demand side = with_demand (Some (record demand { list = demand.list ++ record { tile = q.source; kind = q.kind } ∷ [] })) side

-- the demand's words serve once, and are not kept
abbrev pub serves_once : Demand → CacheSide → CacheSide
serves_once demand side = with_demand (Some (record demand { once = true })) side

-- the snoop table
abbrev pub snooped_with : Chip → Request → CacheSide → Holding → Kind → Outcome
snooped_with chip q side (OwnedCopy words) GetS = supplies q words (made_owned chip q.line words side)
snooped_with chip q side (OwnedCopy words) GetM = supplies q words (line_gone chip q.line side)
snooped_with chip q side (LiveBack words) GetS = supplies q words side
snooped_with chip q side (LiveBack words) GetM = supplies q words (made_stale side)
snooped_with chip q side (OpenWrite demand) GetS = quiet (deferred_to_demand q demand side)
snooped_with chip q side (OpenWrite demand) GetM = quiet (deferred_to_demand q demand (line_gone chip q.line side))
snooped_with chip q side (OpenRead demand) GetS = quiet side
snooped_with chip q side (OpenRead demand) GetM = quiet (serves_once demand side)
snooped_with chip q side SharedCopy GetS = quiet side
snooped_with chip q side SharedCopy GetM = quiet (line_gone chip q.line side)
snooped_with chip q side Nothing GetS = quiet side
snooped_with chip q side Nothing GetM = quiet side
snooped_with chip q side something PutM = quiet side

-- What an access does to the words of its line.

-- the word of an address among its line's words
abbrev pub word_in : List ℕ → ℕ → ℕ
word_in words address = slice_index words (word_of address)

-- the words after an access
abbrev pub written_by : Pending → List ℕ → List ℕ
written_by access words =
    set words (word_of access.address) (word_after access.kind access.value (word_in words access.address))

-- the word before, where an access both reads and writes
abbrev pub old_word : AccessKind → ℕ → ℕ
old_word kind word = if is_read_modify_write kind then word else 0

-- what an access did at a time, by the words that were there
abbrev pub done_by : Pending → ℕ → List ℕ → Done
done_by access time words = record {
  kind = access.kind;
  address = access.address;
  value = word_after access.kind access.value (word_in words access.address);
  time = time;
  old = old_word access.kind (word_in words access.address);
}

-- The node's own request, and data: a demand completes once it is ordered and its words are here.

-- what is left in the cache of the words that a write left: they are its own where nobody waits, shared where all that
-- wait read, and gone where one is to write
abbrev pub kept_after_store : Chip → ℕ → List ℕ → List Waiting → Cache → Cache
kept_after_store chip line words [] cache = installed chip (record { line = line; state = M; words = words }) cache
kept_after_store chip line words (first ∷ rest) cache =
    if ends_in_getm (first ∷ rest) then without_line chip line cache
    else installed chip (record { line = line; state = O; words = words }) cache

-- what is left in the cache of the words of a load
abbrev pub kept_after_load : Chip → Demand → List ℕ → Cache → Cache
kept_after_load chip demand words cache =
    if demand.once then cache else installed chip (record { line = demand.line; state = S; words = words }) cache

-- the load takes its word
abbrev pub completed_load : Chip → Demand → ℕ → List ℕ → CacheSide → Outcome
completed_load chip demand place words side = record {
  side = with_demand None (with_cache (kept_after_load chip demand words side.cache) side);
  sends = [];
  done = Some (done_by demand.pending (place + 1) words);
}

-- the write changes its word, and all that wait get the words after it
abbrev pub completed_store : Chip → Demand → ℕ → List ℕ → CacheSide → Outcome
completed_store chip demand place words side = record {
  side = with_demand None (with_cache (kept_after_store chip demand.line (written_by demand.pending words) demand.list side.cache) side);
  sends = data_to_all demand.line (written_by demand.pending words) demand.list;
  done = Some (done_by demand.pending (place + 1) words);
}

-- the demand, ordered at a place, completes with these words
abbrev pub completed : Chip → Demand → ℕ → List ℕ → CacheSide → Outcome
completed chip demand place words side =
    if is_getm demand.kind then completed_store chip demand place words side else completed_load chip demand place words side

-- the words with which a demand to write completes at its own delivery: those of a copy in O
abbrev pub words_in_state : List ℕ → State → Option (List ℕ)
words_in_state words O = Some words
words_in_state words M = None
words_in_state words S = None

-- the words of a copy in O
abbrev pub owned_words : Option Held → Option (List ℕ)
owned_words None = None
owned_words (Some held) = words_in_state held.words held.state

-- the words that are here when a demand is ordered: early data, and else those of an owned copy
abbrev pub words_here : Chip → CacheSide → Demand → Option (List ℕ) → Option (List ℕ)
words_here chip side demand (Some words) = Some words
words_here chip side demand None = if is_getm demand.kind then owned_words (lookup chip side.cache demand.line) else None

-- a demand is ordered: it completes where its words are here, and else waits
abbrev pub ordered_with : Chip → CacheSide → ℕ → Demand → Option (List ℕ) → Outcome
ordered_with chip side place demand (Some words) = completed chip demand place words side
ordered_with chip side place demand None = quiet (with_demand (Some (record demand { ordered = Some place })) side)

-- the node's own get is delivered
abbrev pub own_get : Chip → CacheSide → ℕ → Option Demand → Outcome
own_get chip side place None = quiet side
own_get chip side place (Some demand) = ordered_with chip side place demand (words_here chip side demand demand.early)

-- a live write-back sends its words to the line's home
abbrev pub own_put : Chip → CacheSide → Option WriteBack → Outcome
own_put chip side None = quiet side
own_put chip side (Some back) = record {
  side = with_back None side;
  sends = if back.live then record { to = home chip back.line; kind = Back; line = back.line; words = back.words } ∷ [] else [];
  done = None;
}

-- the node's own request is delivered, by its kind
abbrev pub own_request : Chip → CacheSide → ℕ → Kind → Outcome
own_request chip side place GetS = own_get chip side place side.misses.demand
own_request chip side place GetM = own_get chip side place side.misses.demand
own_request chip side place PutM = own_put chip side side.misses.back

-- what the cache of a tile does at the delivery of a request at a place of the order
unfoldable pub after_snoop : Chip → ℕ → CacheSide → ℕ → Request → Outcome
after_snoop chip tile side place q =
    if q.source == tile then own_request chip side place q.kind
    else snooped_with chip q side (holding chip side q.line) q.kind

-- the words of a demand come, by its place
abbrev pub data_at : Chip → CacheSide → List ℕ → Demand → Option ℕ → Outcome
data_at chip side words demand (Some place) = completed chip demand place words side
data_at chip side words demand None = quiet (with_demand (Some (record demand { early = Some words })) side)

-- words come, by the demand that stands
abbrev pub data_for : Chip → CacheSide → List ℕ → Option Demand → Outcome
data_for chip side words None = quiet side
data_for chip side words (Some demand) = data_at chip side words demand demand.ordered

-- what it does when the words of a demand come
unfoldable pub after_data : Chip → CacheSide → List ℕ → Outcome
after_data chip side words = data_for chip side words side.misses.demand
