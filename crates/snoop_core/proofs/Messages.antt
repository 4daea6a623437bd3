-- How many messages a step queues, and how many of these give words back to memory.
use Rattle.std.proofs.Common.{◌≡◌, ℕ, suc, ◌+◌, ◌≤◌, Bool, true, false, refl, sym, ap, subst, arith, Option, Some, None, List, [], ◌∷◌, ◌++◌, drop, length}
use Rattle.std.specs.Prelude.{◌==◌, is_some, slice_index_or, count_by, if◌then◌else◌}
use Rattle.std.proofs.lemmas.Bool.{cond_both, eqb-true}
use Rattle.std.proofs.lemmas.List.Sums.{sum_by-append}
use Rattle.mesh_gen.specs.declared.kind.Kind.{Kind}
use Rattle.mesh_gen.specs.declared.kind.Kind.TheVariants.{GetS, GetM, PutM}
use Rattle.mesh_gen.specs.declared.request.Request.{Request}
use Rattle.mesh_gen.specs.declared.msg.Msg.{Msg}
use Rattle.mesh_gen.specs.declared.msg_kind.MsgKind.{MsgKind}
use Rattle.mesh_gen.specs.declared.msg_kind.MsgKind.TheVariants.{Data, Back}
use Rattle.mesh_gen.specs.Ports.{count_if}
use Rattle.chip_model.specs.declared.pending.Pending.{Pending}
use Rattle.chip_model.specs.declared.owner.Owner.{Owner}
use Rattle.chip_model.specs.declared.owner.Owner.TheVariants.{Memory, Tile}
use Rattle.chip_model.specs.declared.waiting.Waiting.{Waiting}
use Rattle.chip_model.specs.Chip.{Chip, home}
use Rattle.chip_model.specs.Misses.{Demand, WriteBack, is_getm, sent_by, marked_sent}
use Rattle.chip_model.specs.Snoop.{CacheSide, Outcome, written_by, data_to, data_to_all, completed_load, completed_store, completed, stale_back, ordered_with, own_get, own_put, own_request, snooped_with, after_snoop, holding, data_at, data_for, after_data}
use Rattle.chip_model.specs.Records.{LineRecord, Records, answered_by, from_memory, awaiting_write_back, owned_by_tile, answered_at, answered, returned_at, back_arrived}
use Rattle.chip_model.specs.Node.{Node, Performed, is_back, holds_back, node_after_request, arrived_as, node_after_message, after_request_sent, after_message_sent, node_after_access}
use Rattle.chip_model.specs.NodeShape.{OneBack, IsCache, SideFits}
use Rattle.snoop_core.specs.Requests.{MeetsDemand, MeetsOwn, OwnRequestFits}
use Rattle.miss_table.specs.Table.{list_of}
use Rattle.snoop_core.proofs.SnoopSteps.{snoop_forms}
use Rattle.snoop_core.proofs.Sending.{sent_forms}
use Rattle.snoop_core.proofs.Accesses.{access_forms}

-- how many messages give words back
abbrev pub backs : List Msg → ℕ
backs sends = count_by (λ (msg : Msg). is_back msg.kind) sends

-- the write-back that stands, as a number
abbrev pub standing : CacheSide → ℕ
standing side = count_if (is_some side.misses.back)

backs-data_to_all : (line : ℕ) (words : List ℕ) (list : List Waiting) → backs (data_to_all line words list) ≡ 0
backs-data_to_all line words [] = refl
backs-data_to_all line words (first ∷ rest) = backs-data_to_all line words rest

length-data_to_all : (line : ℕ) (words : List ℕ) (list : List Waiting) → length (data_to_all line words list) ≡ length list
length-data_to_all line words [] = refl
length-data_to_all line words (first ∷ rest) = ap (λ (n : ℕ). suc n) (length-data_to_all line words rest)

-- a step sends at most so many messages, and gives back what stood at most
pub record SendsAtMost (side : CacheSide) (most : ℕ) (outcome : Outcome) : Type 0 where
  pub count : length outcome.sends ≤ most
  pub backs : standing outcome.side + backs outcome.sends ≤ standing side

sends_none : (side : CacheSide) (most : ℕ) (outcome : Outcome) → outcome.sends ≡ [] → outcome.side.misses.back ≡ side.misses.back
    → SendsAtMost side most outcome
sends_none side most outcome none same = record {
  count = let n : length outcome.sends ≡ 0 = ap length none in omega arith;
  backs = let n : backs outcome.sends ≡ 0 = ap backs none in
      let s : standing outcome.side ≡ standing side = ap (λ (b : Option WriteBack). count_if (is_some b)) same in
      omega arith;
}

sends_one : (side : CacheSide) (outcome : Outcome) (tile line : ℕ) (words : List ℕ) → outcome.sends ≡ data_to tile line words ∷ []
    → standing outcome.side ≡ standing side → SendsAtMost side 1 outcome
sends_one side outcome tile line words one same = record {
  count = let n : length outcome.sends ≡ 1 = ap length one in omega arith;
  backs = let n : backs outcome.sends ≡ 0 = ap backs one in omega arith;
}

stale_standing : (entry : Option WriteBack) → count_if (is_some (stale_back entry)) ≡ count_if (is_some entry)
stale_standing None = refl
stale_standing (Some back) = refl

other_sends : (chip : Chip) (side : CacheSide) (q : Request)
    → SendsAtMost side 1 (snooped_with chip q side (holding chip side q.line) q.kind)
other_sends chip side q = snoop_forms chip side q (λ outcome. SendsAtMost side 1 outcome) (record {
  put = λ kind. sends_none side 1 _ refl refl;
  copy_read = λ kind held there owned. sends_one side _ q.source q.line held.words refl refl;
  copy_written = λ kind held there owned. sends_one side _ q.source q.line held.words refl refl;
  back_read = λ kind back. sends_one side _ q.source q.line back.words refl refl;
  back_written = λ kind copy back stands line. sends_one side _ q.source q.line back.words refl (stale_standing side.misses.back);
  list_read = λ kind demand meets writes goes_on. sends_none side 1 _ refl refl;
  list_written = λ kind demand meets writes goes_on. sends_none side 1 _ refl refl;
  read = λ kind. sends_none side 1 _ refl refl;
  once = λ kind demand meets reads. sends_none side 1 _ refl refl;
  shared_written = λ kind unowned. sends_none side 1 _ refl refl;
  nothing_written = λ kind unowned. sends_none side 1 _ refl refl;
})

-- ---- a completion sends to all that wait
stored_sends : (chip : Chip) (side : CacheSide) (demand : Demand) (place : ℕ) (words : List ℕ)
    → SendsAtMost side (length demand.list) (completed_store chip demand place words side)
stored_sends chip side demand place words =
    let after = completed_store chip demand place words side in
    record {
      count = let n : length after.sends ≡ length demand.list = length-data_to_all demand.line
          (written_by demand.pending words) demand.list in omega arith;
      backs = let n : backs after.sends ≡ 0 = backs-data_to_all demand.line
          (written_by demand.pending words) demand.list in omega arith;
    }

completed_sends : (chip : Chip) (side : CacheSide) (demand : Demand) (place : ℕ) (words : List ℕ)
    → SendsAtMost side (length demand.list) (completed chip demand place words side)
completed_sends chip side demand place words =
    cond_both (is_getm demand.kind) (completed_store chip demand place words side) (completed_load chip demand place words side)
    (λ outcome. SendsAtMost side (length demand.list) outcome)
    (λ writes. stored_sends chip side demand place words)
    (λ reads. sends_none side (length demand.list) _ refl refl)

-- ---- the node's own request
sends_fewer : (side : CacheSide) (most more : ℕ) (outcome : Outcome) → most ≤ more → SendsAtMost side most outcome
    → SendsAtMost side more outcome
sends_fewer side most more outcome fewer is = record { count = let n = is.count in omega arith; backs = is.backs }

ordered_sends : (chip : Chip) (side : CacheSide) (place : ℕ) (demand : Demand) (words : Option (List ℕ)) → demand.list ≡ []
    → SendsAtMost side 1 (ordered_with chip side place demand words)
ordered_sends chip side place demand (Some words) list =
    let none : length demand.list ≡ 0 = ap length list in
    sends_fewer side (length demand.list) 1 _ (omega arith) (completed_sends chip side demand place words)
ordered_sends chip side place demand None list = sends_none side 1 _ refl refl

get_sends : (chip : Chip) (side : CacheSide) (place : ℕ) (q : Request) → MeetsDemand side q → SideFits chip side
    → SendsAtMost side 1 (own_get chip side place side.misses.demand)
get_sends chip side place q meets is =
    subst (λ (entry : Option Demand). SendsAtMost side 1 (own_get chip side place entry)) (sym meets.1)
    (ordered_sends chip side place meets.0 _ ((is.demand meets.0 meets.1).unordered meets.2.unordered).0)

back_count : (live : Bool) (msg : Msg) → length (if live then msg ∷ [] else []) ≤ 1
back_count true msg = omega arith
back_count false msg = omega arith

back_backs : (live : Bool) (to line : ℕ) (words : List ℕ)
    → backs (if live then record { to = to; kind = Back; line = line; words = words } ∷ [] else []) ≤ 1
back_backs true to line words = omega arith
back_backs false to line words = omega arith

put_sends : (chip : Chip) (side : CacheSide) (entry : Option WriteBack) → side.misses.back ≡ entry
    → SendsAtMost side 1 (own_put chip side entry)
put_sends chip side None is = sends_none side 1 _ refl refl
put_sends chip side (Some back) is =
    let stood : standing side ≡ 1 = ap (λ (b : Option WriteBack). count_if (is_some b)) is in
    let given = back_backs back.live (home chip back.line) back.line back.words in
    record {
      count = back_count back.live (record { to = home chip back.line; kind = Back; line = back.line; words = back.words });
      backs = omega arith;
    }

own_sends : (chip : Chip) (side : CacheSide) (place : ℕ) (q : Request) (kind : Kind) → MeetsOwn side q kind → SideFits chip side
    → SendsAtMost side 1 (own_request chip side place kind)
own_sends chip side place q GetS meets is = get_sends chip side place q meets is
own_sends chip side place q GetM meets is = get_sends chip side place q meets is
own_sends chip side place q PutM meets is = put_sends chip side side.misses.back refl

-- a request queues one message of the cache side at most
pub SendsAtMost-after_snoop : (chip : Chip) (tile : ℕ) (side : CacheSide) (place : ℕ) (q : Request) → OwnRequestFits tile side q
    → SideFits chip side → SendsAtMost side 1 (after_snoop chip tile side place q)
unfolding after_snoop
SendsAtMost-after_snoop chip tile side place q own is =
    cond_both (q.source == tile) (own_request chip side place q.kind) (snooped_with chip q side (holding chip side q.line) q.kind)
    (λ outcome. SendsAtMost side 1 outcome)
    (λ same. own_sends chip side place q q.kind (own (eqb-true q.source tile same)) is)
    (λ other. other_sends chip side q)

-- ---- words that come
at_sends : (chip : Chip) (side : CacheSide) (words : List ℕ) (demand : Demand) (place : Option ℕ)
    → SendsAtMost side (length demand.list) (data_at chip side words demand place)
at_sends chip side words demand (Some place) = completed_sends chip side demand place words
at_sends chip side words demand None = sends_none side (length demand.list) _ refl refl

for_sends : (chip : Chip) (side : CacheSide) (words : List ℕ) (entry : Option Demand)
    → SendsAtMost side (length (list_of entry)) (data_for chip side words entry)
for_sends chip side words None = sends_none side 0 _ refl refl
for_sends chip side words (Some demand) = at_sends chip side words demand demand.ordered

-- words that come queue a message for each that waits for the demand at most
pub SendsAtMost-after_data : (chip : Chip) (side : CacheSide) (words : List ℕ)
    → SendsAtMost side (length (list_of side.misses.demand)) (after_data chip side words)
unfolding after_data
SendsAtMost-after_data chip side words = for_sends chip side words side.misses.demand

-- ---- the controller sends data alone
pub record SendsData (most : ℕ) (sends : List Msg) : Type 0 where
  pub count : length sends ≤ most
  pub backs : backs sends ≡ 0

memory_sends : (q : Request) (r : LineRecord) (kind : Kind) → SendsData 1 (from_memory q r kind).sends
memory_sends q r GetS = record { count = omega arith; backs = refl }
memory_sends q r GetM = record { count = omega arith; backs = refl }
memory_sends q r PutM = record { count = omega arith; backs = refl }

after_sends : (q : Request) (r : LineRecord) (kind : Kind) → SendsData 1 (awaiting_write_back q r kind).sends
after_sends q r GetS = record { count = omega arith; backs = refl }
after_sends q r GetM = record { count = omega arith; backs = refl }
after_sends q r PutM = record { count = omega arith; backs = refl }

tile_sends : (q : Request) (r : LineRecord) (tile : ℕ) (kind : Kind) → SendsData 1 (owned_by_tile q r tile kind).sends
tile_sends q r tile GetS = record { count = omega arith; backs = refl }
tile_sends q r tile GetM = record { count = omega arith; backs = refl }
tile_sends q r tile PutM = record { count = omega arith; backs = refl }

owner_sends : (q : Request) (r : LineRecord) (owner : Owner) → SendsData 1 (answered_by q r owner).sends
owner_sends q r Memory =
    cond_both r.fresh (from_memory q r q.kind) (awaiting_write_back q r q.kind) (λ answer. SendsData 1 answer.sends)
    (λ fresh. memory_sends q r q.kind)
    (λ stale. after_sends q r q.kind)
owner_sends q r (Tile tile) = tile_sends q r tile q.kind

record_sends : (q : Request) (records : Records) (o : Option LineRecord) → SendsData 1 (answered_at q records o).sends
record_sends q records None = record { count = omega arith; backs = refl }
record_sends q records (Some r) = owner_sends q r r.owner

pub SendsData-answered : (q : Request) (records : Records) → SendsData 1 (answered q records).sends
unfolding answered
SendsData-answered q records = record_sends q records (slice_index_or records q.line None)

-- the tiles that wait for a line's words at its home
abbrev pub waiters_of : Option LineRecord → List Waiting
waiters_of None = []
waiters_of (Some r) = r.waiters

returned_sends : (line : ℕ) (words : List ℕ) (records : Records) (o : Option LineRecord)
    → SendsData (length (waiters_of o)) (returned_at line words records o).sends
returned_sends line words records None = record { count = omega arith; backs = refl }
returned_sends line words records (Some r) = record {
  count = let n : length (data_to_all line words r.waiters) ≡ length r.waiters = length-data_to_all line words r.waiters in omega arith;
  backs = backs-data_to_all line words r.waiters;
}

pub SendsData-back_arrived : (line : ℕ) (words : List ℕ) (records : Records)
    → SendsData (length (waiters_of (slice_index_or records line None))) (back_arrived line words records).sends
unfolding back_arrived
SendsData-back_arrived line words records = returned_sends line words records (slice_index_or records line None)

-- ---- one line at most is under way back to memory
backs-append : (before after : List Msg) → backs (before ++ after) ≡ backs before + backs after
backs-append before after = sum_by-append _ before after

pub OneBack-node_after_request : (q : Request) (node : Node) → OwnRequestFits node.tile node.side q → SideFits node.chip node.side
    → OneBack node → OneBack (node_after_request q node).0
unfolding node_after_request
OneBack-node_after_request q node own fits one =
    let outcome = after_snoop node.chip node.tile node.side node.delivered q in
    let answers = answered q node.records in
    let given = (SendsAtMost-after_snoop node.chip node.tile node.side node.delivered q own fits).backs in
    let data_alone = (SendsData-answered q node.records).backs in
    let whole : backs (node.out ++ outcome.sends ++ answers.sends) ≡ backs (node.out ++ outcome.sends) + backs answers.sends = backs-append
    (node.out ++ outcome.sends) answers.sends in
    let first : backs (node.out ++ outcome.sends) ≡ backs node.out + backs outcome.sends = backs-append node.out outcome.sends in
    omega arith

arrived_one : (msg : Msg) (node : Node) (kind : MsgKind) → OneBack node → OneBack (arrived_as msg node kind).0
arrived_one msg node Data one =
    let outcome = after_data node.chip node.side msg.words in
    let given = (SendsAtMost-after_data node.chip node.side msg.words).backs in
    let whole : backs (node.out ++ outcome.sends) ≡ backs node.out + backs outcome.sends = backs-append node.out outcome.sends in
    omega arith
arrived_one msg node Back one =
    let answers = back_arrived msg.line msg.words node.records in
    let data_alone = (SendsData-back_arrived msg.line msg.words node.records).backs in
    let whole : backs (node.out ++ answers.sends) ≡ backs node.out + backs answers.sends = backs-append node.out answers.sends in
    omega arith

pub OneBack-node_after_message : (msg : Msg) (node : Node) → OneBack node → OneBack (node_after_message msg node).0
unfolding node_after_message
OneBack-node_after_message msg node one = arrived_one msg node msg.kind one

sent_standing : (demand : Option Demand) (back : Option WriteBack) → count_if (is_some (sent_by demand back).back) ≡ count_if (is_some back)
sent_standing demand back = sent_forms demand back (λ m. count_if (is_some m.back) ≡ count_if (is_some back)) (record {
  get = refl;
  put = λ b stands. ap (λ (entry : Option WriteBack). count_if (is_some entry)) (sym stands);
})

pub OneBack-after_request_sent : (node : Node) → OneBack node → OneBack (after_request_sent node)
unfolding after_request_sent marked_sent
OneBack-after_request_sent node one =
    let same = sent_standing node.side.misses.demand node.side.misses.back in
    omega arith

backs-rest : (out : List Msg) → backs (drop 1 out) ≤ backs out
backs-rest [] = omega arith
backs-rest (msg ∷ out) =
    let whole = backs-append (msg ∷ []) out in
    let rest : backs (drop 1 (msg ∷ out)) ≡ backs out = refl in
    omega arith

pub OneBack-after_message_sent : (node : Node) → OneBack node → OneBack (after_message_sent node)
unfolding after_message_sent
OneBack-after_message_sent node one = let fewer = backs-rest node.out in omega arith

no_backs : (out : List Msg) → holds_back out ≡ false → backs out ≡ 0
no_backs [] none = refl
no_backs (msg ∷ out) none = grind (arith, no_backs out)

pub OneBack-node_after_access : (access : Pending) (node : Node) (performed : Performed)
    → node_after_access access node ≡ Some performed → IsCache node.chip node.side.cache
    → OneBack node → OneBack performed.0
OneBack-node_after_access access node performed done is one = access_forms access node performed (λ after. OneBack after) is
    (record {
      hit = one;
      wrote = λ held there modified words. one;
      missed = λ a same apart absent room. one;
      upgraded = λ a same apart changes held there unmodified. one;
      made_room = λ a same apart absent cache drops. one;
      put_back = λ held puts queue alone. let none = no_backs node.out queue in omega arith;
    }) done
