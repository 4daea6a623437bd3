-- The account of a node's own get: it had early words, or owns the line, or waits once it is ordered. And what data, an
-- access and the sending of requests and messages do to what a node has promised.
use Rattle.std.proofs.Common.{◌≡◌, ℕ, ◌+◌, ◌≤◌, Bool, true, false, cond, List, refl, sym, ◌∙◌, ap, subst, arith, Option, Some, None}
use Rattle.std.specs.Prelude.{◌==◌, ◌&&◌, ◌||◌, not, is_some, slice_get, slice_index_or}
use Rattle.std.specs.List.{sum_by, count_by}
use Rattle.std.proofs.lemmas.Bool.{cond_both}
use Rattle.std.proofs.lemmas.Bool.Decides.{nat_tests}
use Rattle.mesh_gen.specs.declared.kind.Kind.{Kind}
use Rattle.mesh_gen.specs.declared.kind.Kind.TheVariants.{GetS, GetM, PutM}
use Rattle.mesh_gen.specs.declared.request.Request.{Request}
use Rattle.mesh_gen.specs.declared.msg.Msg.{Msg}
use Rattle.mesh_gen.specs.Ports.{count_if}
use Rattle.chip_model.specs.declared.pending.Pending.{Pending}
use Rattle.chip_model.specs.declared.line_state.State.{State}
use Rattle.chip_model.specs.declared.line_state.State.TheVariants.{M, O, S}
use Rattle.chip_model.specs.declared.owner.Owner.{Owner}
use Rattle.chip_model.specs.declared.owner.Owner.TheVariants.{Memory, Tile}
use Rattle.chip_model.specs.Chip.{Chip}
use Rattle.chip_model.specs.Cache.{Held, lookup, is_shared}
use Rattle.chip_model.specs.Misses.{Demand, WriteBack, Misses, is_getm, sent_demand, marked_sent}
use Rattle.chip_model.specs.Snoop.{CacheSide, owned_words, words_in_state, completed, ordered_with, words_here, own_get, own_put, own_request, data_at, data_for, after_data}
use Rattle.chip_model.specs.Records.{LineRecord, Records, Answers, from_memory, awaiting_write_back, owned_by_tile, answered_by, answered_at, answered, returned, returned_at, back_arrived}
use Rattle.chip_model.specs.Node.{Node, Performed, node_after_access, after_request_sent, after_message_sent}
use Rattle.chip_model.specs.Ownership.{is_owned_copy, is_live_back, is_open_write, owns}
use Rattle.chip_model.specs.NodeShape.{IsCache, SideFits, is_modified, is_modified_state}
use Rattle.chip_model.specs.Bookkeeping.{is_get, is_get_of}
use Rattle.chip_model.specs.Suppliers.{is_data_for, places_in, places_after, places_at, has_early, is_ordered}
use Rattle.snoop_core.specs.Requests.{MeetsDemand, MeetsOwn}
use Rattle.snoop_core.proofs.OwnedLines.{not_live_other}
use Rattle.snoop_core.proofs.Sending.{sent_forms}
use Rattle.snoop_core.proofs.Accesses.{access_forms, accessed_free}
use Rattle.chip_laws.proofs.UnderWay.{completed_none}
use Rattle.chip_laws.proofs.SupplyCounts.{sum_by-set, count_by-drop, slice_of_index}
use Rattle.chip_laws.proofs.SupplySends.{OnePromise, SameOpen, read_kind, places_more, sent_to_all, completed_promises}

-- ---- the own get
alone_counts : (a b c : Bool) → b ≡ false → c ≡ false → (a || b || c) ≡ a
alone_counts true b c none none_too = refl
alone_counts false true c none none_too = cc
alone_counts false false c none none_too = none_too

not_equal : (a b : ℕ) → (a == b) ≡ false → (b == a) ≡ false
not_equal a b is = grind (arith, nat_tests, is)

closed : (demand : Demand) (line : ℕ) → demand.ordered ≡ None → is_open_write line (Some demand) ≡ false
closed demand line none =
    let unordered : is_some demand.ordered ≡ false = ap is_some none in
    grind (arith, unordered)

-- before it is ordered, a demand's line is owned by a copy alone
owns_unordered : (chip : Chip) (side : CacheSide) (demand : Demand) → SideFits chip side → side.misses.demand ≡ Some demand → demand.ordered ≡ None
    → owns chip side demand.line ≡ is_owned_copy (lookup chip side.cache demand.line)
unfolding owns
owns_unordered chip side demand fits stands none =
    alone_counts (is_owned_copy (lookup chip side.cache demand.line)) (is_live_back demand.line side.misses.back) (is_open_write demand.line side.misses.demand)
    (not_live_other demand.line side.misses.back (λ back is. not_equal demand.line back.line (fits.apart demand back stands is)))
    (ap (is_open_write demand.line) stands ∙ closed demand demand.line none)

state_words : (words : List ℕ) (state : State) → is_modified_state state ≡ false → is_some (words_in_state words state) ≡ not (is_shared state)
state_words words M unmodified = cc
state_words words O unmodified = refl
state_words words S unmodified = refl

copy_words : (copy : Option Held) → is_modified copy ≡ false → is_some (owned_words copy) ≡ is_owned_copy copy
copy_words None unmodified = refl
copy_words (Some held) unmodified = state_words held.words held.state unmodified

one_of : (b : Bool) → count_if b + count_if (not b) ≡ 1
one_of true = refl
one_of false = refl

-- the words come early, from an owned copy, or are still to come
words_from : (chip : Chip) (side : CacheSide) (demand : Demand) (early : Option (List ℕ)) → SideFits chip side → side.misses.demand ≡ Some demand → demand.ordered ≡ None
    → count_if (is_some early) + count_if (owns chip side demand.line) ≤ 1
    → count_if (is_some early) + count_if (owns chip side demand.line) + count_if (not (is_some (words_here chip side demand early))) ≡ 1
words_from chip side demand (Some words) fits stands none few = omega (arith, few)
words_from chip side demand None fits stands none few =
    let copy = lookup chip side.cache demand.line in
    let shape = fits.demand demand stands in
    let owned : count_if (owns chip side demand.line) ≡ count_if (is_owned_copy copy) = ap count_if (owns_unordered chip side demand fits stands none) in
    cond_both {A = Option (List ℕ)} (is_getm demand.kind) (owned_words copy) None
    (λ words. 0 + count_if (owns chip side demand.line) + count_if (not (is_some words)) ≡ 1)
    (λ writes.
    let same : count_if (not (is_some (owned_words copy))) ≡ count_if (not (is_owned_copy copy)) = ap (λ b. count_if (not b)) (copy_words copy shape.unmodified) in
    omega (arith, owned, same, one_of (is_owned_copy copy)))
    (λ reads.
    let absent : count_if (is_owned_copy copy) ≡ 0 = ap (λ c. count_if (is_owned_copy c)) (shape.absent (read_kind demand.pending.kind demand.kind shape.asks reads)) in
    omega (arith, owned, absent))

-- once it is ordered, a demand waits where its words are not here
waits_ordered : (chip : Chip) (side : CacheSide) (place : ℕ) (demand : Demand) (words : Option (List ℕ))
    → is_ordered (ordered_with chip side place demand words).side.misses.demand ≡ not (is_some words)
waits_ordered chip side place demand (Some words) = ap (λ (misses : Misses). is_ordered misses.demand) (completed_none chip demand place words side)
waits_ordered chip side place demand None = refl

waits_early : (chip : Chip) (side : CacheSide) (place : ℕ) (demand : Demand) (early : Option (List ℕ)) → demand.early ≡ early
    → has_early (ordered_with chip side place demand (words_here chip side demand early)).side.misses.demand ≡ false
waits_early chip side place demand (Some words) is = ap (λ (misses : Misses). has_early misses.demand) (completed_none chip demand place words side)
waits_early chip side place demand None is = by (words_here chip side demand None) where
  by : (words : Option (List ℕ)) → has_early (ordered_with chip side place demand words).side.misses.demand ≡ false
  by (Some words) = ap (λ (misses : Misses). has_early misses.demand) (completed_none chip demand place words side)
  by None = ap is_some is

-- what is owned or came early, and what waits then, are one for the get that is ordered
abbrev pub OwnAccount : Chip → CacheSide → ℕ → Kind → CacheSide → Type 0
OwnAccount chip side line kind new =
    count_if (has_early side.misses.demand) + cond (owns chip side line) (count_if (is_get kind)) 0 + count_if (is_ordered new.misses.demand)
    ≡ count_if (is_get kind) + (count_if (has_early new.misses.demand) + count_if (is_ordered side.misses.demand))

get_account : (chip : Chip) (side : CacheSide) (place : ℕ) (q : Request) → SideFits chip side → MeetsDemand side q
    → count_if (has_early side.misses.demand) + count_if (owns chip side q.line) ≤ 1
    → OwnAccount chip side q.line GetS (own_get chip side place side.misses.demand).side
get_account chip side place q fits (demand, stands, is) few =
    let early : count_if (has_early side.misses.demand) ≡ count_if (is_some demand.early) = ap (λ o. count_if (has_early o)) stands in
    let unordered : count_if (is_ordered side.misses.demand) ≡ 0 = ap (λ o. count_if (is_ordered o)) stands ∙ ap (λ o. count_if (is_some o)) is.unordered in
    let owned : count_if (owns chip side q.line) ≡ count_if (owns chip side demand.line) = ap (λ (line : ℕ). count_if (owns chip side line)) (sym is.line) in
    let new = (ordered_with chip side place demand (words_here chip side demand demand.early)).side in
    let sum = words_from chip side demand demand.early fits stands is.unordered (omega (arith, early, owned, few)) in
    let waits : count_if (is_ordered new.misses.demand) ≡ count_if (not (is_some (words_here chip side demand demand.early))) =
    ap count_if (waits_ordered chip side place demand (words_here chip side demand demand.early)) in
    let none : count_if (has_early new.misses.demand) ≡ 0 = ap count_if (waits_early chip side place demand demand.early refl) in
    subst (λ (entry : Option Demand). OwnAccount chip side q.line GetS (own_get chip side place entry).side) (sym stands)
    (omega (arith, early, unordered, owned, sum, waits, none))

none_of : (b : Bool) → cond {A = ℕ} b 0 0 ≡ 0
none_of true = refl
none_of false = refl

put_account : (chip : Chip) (side : CacheSide) (line : ℕ) (entry : Option WriteBack) → OwnAccount chip side line PutM (own_put chip side entry).side
put_account chip side line None = omega (arith, none_of (owns chip side line))
put_account chip side line (Some back) = omega (arith, none_of (owns chip side line))

pub own_account : (chip : Chip) (side : CacheSide) (place : ℕ) (q : Request) (kind : Kind) → SideFits chip side → MeetsOwn side q kind
    → count_if (has_early side.misses.demand) + cond (owns chip side q.line) (count_if (is_get kind)) 0 ≤ 1
    → OwnAccount chip side q.line kind (own_request chip side place kind).side
own_account chip side place q GetS fits meets few = get_account chip side place q fits meets few
own_account chip side place q GetM fits meets few = get_account chip side place q fits meets few
own_account chip side place q PutM fits meets few = put_account chip side q.line side.misses.back

-- ---- data
at_promises : (t : ℕ) (chip : Chip) (side : CacheSide) (words : List ℕ) (demand : Demand) (place : Option ℕ) → SideFits chip side → side.misses.demand ≡ Some demand
    → OnePromise t side (data_at chip side words demand place) 0
at_promises t chip side words demand (Some place) fits stands = completed_promises t chip side demand place words fits stands
at_promises t chip side words demand None fits stands = omega (arith, ap (places_after t) stands)

for_promises : (t : ℕ) (chip : Chip) (side : CacheSide) (words : List ℕ) (entry : Option Demand) → SideFits chip side → side.misses.demand ≡ entry
    → OnePromise t side (data_for chip side words entry) 0
for_promises t chip side words None fits stands = omega arith
for_promises t chip side words (Some demand) fits stands = at_promises t chip side words demand demand.ordered fits stands

-- all that wait get the words
pub data_promises : (t : ℕ) (chip : Chip) (side : CacheSide) (words : List ℕ) → SideFits chip side → OnePromise t side (after_data chip side words) 0
unfolding after_data
data_promises t chip side words fits = for_promises t chip side words side.misses.demand fits refl

at_account : (chip : Chip) (side : CacheSide) (words : List ℕ) (demand : Demand) (place : Option ℕ) → demand.ordered ≡ place
    → count_if (has_early (data_at chip side words demand place).side.misses.demand) + count_if (is_some demand.ordered)
    ≡ 1 + count_if (is_ordered (data_at chip side words demand place).side.misses.demand)
at_account chip side words demand (Some place) is =
    let ordered : count_if (is_some demand.ordered) ≡ 1 = ap (λ o. count_if (is_some o)) is in
    let none = completed_none chip demand place words side in
    let early : count_if (has_early (completed chip demand place words side).side.misses.demand) ≡ 0 = ap (λ (misses : Misses). count_if (has_early misses.demand)) none in
    let waits : count_if (is_ordered (completed chip demand place words side).side.misses.demand) ≡ 0 = ap (λ (misses : Misses). count_if (is_ordered misses.demand)) none in
    omega (arith, ordered, early, waits)
at_account chip side words demand None is = refl

-- words that come for a demand are kept, or complete it
pub data_account : (chip : Chip) (side : CacheSide) (words : List ℕ) (demand : Demand) → side.misses.demand ≡ Some demand
    → count_if (has_early (after_data chip side words).side.misses.demand) + count_if (is_ordered side.misses.demand)
    ≡ 1 + count_if (is_ordered (after_data chip side words).side.misses.demand)
unfolding after_data
data_account chip side words demand stands =
    subst (λ (entry : Option Demand). count_if (has_early (data_for chip side words entry).side.misses.demand) + count_if (is_ordered entry)
    ≡ 1 + count_if (is_ordered (data_for chip side words entry).side.misses.demand)) (sym stands)
    (at_account chip side words demand demand.ordered refl)

-- ---- the records
-- the memory supplies a get where the record says that it owns the line
abbrev pub is_memory : Owner → Bool
is_memory Memory = true
is_memory (Tile tile) = false

abbrev pub is_from_memory : Option LineRecord → Bool
is_from_memory None = false
is_from_memory (Some r) = is_memory r.owner

memory_promises : (t : ℕ) (q : Request) (r : LineRecord) (kind : Kind)
    → count_by (is_data_for t) (from_memory q r kind).sends + places_in t (from_memory q r kind).left.waiters ≡ places_in t r.waiters + count_if (is_get kind && (q.source == t))
memory_promises t q r GetS = omega arith
memory_promises t q r GetM = omega arith
memory_promises t q r PutM = omega arith

behind_promises : (t : ℕ) (q : Request) (r : LineRecord) (kind : Kind)
    → count_by (is_data_for t) (awaiting_write_back q r kind).sends + places_in t (awaiting_write_back q r kind).left.waiters ≡ places_in t r.waiters + count_if (is_get kind && (q.source == t))
behind_promises t q r GetS = omega (arith, places_more t r.waiters (record { tile = q.source; kind = q.kind }))
behind_promises t q r GetM = omega (arith, places_more t r.waiters (record { tile = q.source; kind = q.kind }))
behind_promises t q r PutM = omega arith

tile_promises : (t : ℕ) (q : Request) (r : LineRecord) (tile : ℕ) (kind : Kind)
    → count_by (is_data_for t) (owned_by_tile q r tile kind).sends + places_in t (owned_by_tile q r tile kind).left.waiters ≡ places_in t r.waiters
tile_promises t q r tile GetS = omega arith
tile_promises t q r tile GetM = omega arith
tile_promises t q r tile PutM =
    cond_both (tile == q.source) (record r { owner = Memory }) r (λ (left : LineRecord). 0 + places_in t left.waiters ≡ places_in t r.waiters) (λ own. omega arith) (λ other. omega arith)

record_promises : (t : ℕ) (q : Request) (r : LineRecord) (owner : Owner)
    → count_by (is_data_for t) (answered_by q r owner).sends + places_in t (answered_by q r owner).left.waiters
    ≡ places_in t r.waiters + cond (is_memory owner) (count_if (is_get_of t q)) 0
record_promises t q r Memory =
    cond_both r.fresh (from_memory q r q.kind) (awaiting_write_back q r q.kind)
    (λ answer. count_by (is_data_for t) answer.sends + places_in t answer.left.waiters ≡ places_in t r.waiters + count_if (is_get_of t q))
    (λ fresh. memory_promises t q r q.kind) (λ waits. behind_promises t q r q.kind)
record_promises t q r (Tile tile) = omega (arith, tile_promises t q r tile q.kind)

-- what the records promise a tile, with what they send
abbrev pub records_with : ℕ → Answers → ℕ
records_with t answers = count_by (is_data_for t) answers.sends + sum_by (places_at t) answers.records

at_record : (t : ℕ) (q : Request) (records : Records) (o : Option LineRecord) → slice_index_or records q.line None ≡ o
    → records_with t (answered_at q records o) ≡ sum_by (places_at t) records + cond (is_from_memory o) (count_if (is_get_of t q)) 0
at_record t q records None is = omega arith
at_record t q records (Some r) is =
    omega (arith, sum_by-set (places_at t) records q.line (Some r) (Some (answered_by q r r.owner).left) (slice_of_index records q.line r is), record_promises t q r r.owner)

-- one promise more, where the memory owns the line
pub answered_promises : (t : ℕ) (q : Request) (records : Records)
    → records_with t (answered q records) ≡ sum_by (places_at t) records + cond (is_from_memory (slice_index_or records q.line None)) (count_if (is_get_of t q)) 0
unfolding answered
answered_promises t q records = at_record t q records (slice_index_or records q.line None) refl

at_return : (t line : ℕ) (words : List ℕ) (records : Records) (o : Option LineRecord) → slice_index_or records line None ≡ o
    → records_with t (returned_at line words records o) ≡ sum_by (places_at t) records
at_return t line words records None is = omega arith
at_return t line words records (Some r) is =
    omega (arith, sum_by-set (places_at t) records line (Some r) (Some (returned words r)) (slice_of_index records line r is), sent_to_all t line words r.waiters)

-- all that wait get the words that reach memory
pub returned_promises : (t line : ℕ) (words : List ℕ) (records : Records) → records_with t (back_arrived line words records) ≡ sum_by (places_at t) records
unfolding back_arrived
returned_promises t line words records = at_return t line words records (slice_index_or records line None) refl

-- ---- what a node has promised a tile
abbrev pub promised : ℕ → Node → ℕ
promised t node = count_by (is_data_for t) node.out + places_after t node.side.misses.demand + sum_by (places_at t) node.records

-- a step that changes nothing of that
pub record SameSupply (old new : Node) : Type 0 where
  pub promises : (t : ℕ) → promised t new ≡ promised t old
  pub stays : SameOpen old.side.misses.demand new.side.misses.demand
  pub delivered : new.delivered ≡ old.delivered

pub accessed_supply : (access : Pending) (node : Node) (step : Performed) → node_after_access access node ≡ Some step → IsCache node.chip node.side.cache → SameSupply node step.0
accessed_supply access node step done is =
    let free = accessed_free access node step done in
    let none : (t : ℕ) → places_after t node.side.misses.demand ≡ 0 = λ t. ap (places_after t) free in
    let early : false ≡ has_early node.side.misses.demand = sym (ap has_early free) in
    let ordered : false ≡ is_ordered node.side.misses.demand = sym (ap is_ordered free) in
    access_forms access node step (SameSupply node) is (record {
      hit = record { promises = λ t. refl; stays = record { early = refl; ordered = refl }; delivered = refl };
      wrote = λ held there modified words. record { promises = λ t. refl; stays = record { early = refl; ordered = refl }; delivered = refl };
      missed = λ a at apart absent room. record { promises = λ t. omega (arith, none t); stays = record { early = early; ordered = ordered }; delivered = refl };
      upgraded = λ a at apart changes held there unmodified. record { promises = λ t. omega (arith, none t); stays = record { early = early; ordered = ordered }; delivered = refl };
      made_room = λ a at apart absent cache drops. record { promises = λ t. omega (arith, none t); stays = record { early = early; ordered = ordered }; delivered = refl };
      put_back = λ held puts queue alone. record { promises = λ t. refl; stays = record { early = refl; ordered = refl }; delivered = refl };
    }) done

record SameDemand (old new : Option Demand) : Type 0 where
  places : (t : ℕ) → places_after t new ≡ places_after t old
  early : has_early new ≡ has_early old
  ordered : is_ordered new ≡ is_ordered old

sent_same : (entry : Option Demand) → SameDemand entry (sent_demand entry)
sent_same None = record { places = λ t. refl; early = refl; ordered = refl }
sent_same (Some demand) = record { places = λ t. refl; early = refl; ordered = refl }

marked_same : (misses : Misses) → SameDemand misses.demand (marked_sent misses).demand
unfolding marked_sent
marked_same misses = sent_forms misses.demand misses.back (λ after. SameDemand misses.demand after.demand) (record {
  get = sent_same misses.demand;
  put = λ back stands. record { places = λ t. refl; early = refl; ordered = refl };
})

pub asked_supply : (node : Node) → SameSupply node (after_request_sent node)
unfolding after_request_sent
asked_supply node =
    let same = marked_same node.side.misses in
    record { promises = λ t. omega (arith, same.places t); stays = record { early = same.early; ordered = same.ordered }; delivered = refl }

-- the first message leaves the queue
pub sent_promises : (t : ℕ) (node : Node) (msg : Msg) → slice_get node.out 0 ≡ Some msg → promised t (after_message_sent node) + count_if (is_data_for t msg) ≡ promised t node
unfolding after_message_sent
sent_promises t node msg first = omega (arith, count_by-drop (is_data_for t) node.out msg first)
