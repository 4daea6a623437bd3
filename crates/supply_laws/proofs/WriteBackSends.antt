-- A node sends words to memory where it delivers the request that writes their line back, and by no other step.
use Rattle.std.proofs.Common.{◌≡◌, ℕ, ◌+◌, Bool, true, false, cond, List, [], ◌∷◌, ◌++◌, refl, sym, ◌∙◌, ap, arith, Option, Some, None}
use Rattle.std.specs.Prelude.{◌==◌, ◌&&◌, ◌||◌, not, slice_get, slice_index_or}
use Rattle.std.specs.List.{count_by}
use Rattle.std.proofs.lemmas.Bool.{cond_both, eqb-true, eq-eqb}
use Rattle.mesh_gen.specs.declared.kind.Kind.{Kind}
use Rattle.mesh_gen.specs.declared.kind.Kind.TheVariants.{GetS, GetM, PutM}
use Rattle.mesh_gen.specs.declared.request.Request.{Request}
use Rattle.mesh_gen.specs.declared.msg.Msg.{Msg}
use Rattle.mesh_gen.specs.declared.msg_kind.MsgKind.{MsgKind}
use Rattle.mesh_gen.specs.declared.msg_kind.MsgKind.TheVariants.{Data, Back}
use Rattle.mesh_gen.specs.Ports.{count_if}
use Rattle.chip_model.specs.declared.owner.Owner.{Owner}
use Rattle.chip_model.specs.declared.owner.Owner.TheVariants.{Memory, Tile}
use Rattle.chip_model.specs.declared.waiting.Waiting.{Waiting}
use Rattle.chip_model.specs.Chip.{Chip, home}
use Rattle.chip_model.specs.Cache.{lookup}
use Rattle.chip_model.specs.Misses.{Demand, WriteBack, is_getm}
use Rattle.chip_model.specs.Snoop.{CacheSide, Holding, OwnedCopy, LiveBack, OpenWrite, OpenRead, SharedCopy, Nothing, holding, snooped_with, data_to_all, completed, completed_store, completed_load, ordered_with, words_here, own_get, own_put, own_request, after_snoop, data_at, data_for, after_data}
use Rattle.chip_model.specs.Records.{LineRecord, Records, from_memory, awaiting_write_back, owned_by_tile, answered_by, answered_at, answered, returned_at, back_arrived}
use Rattle.chip_model.specs.Node.{Node, arrived_as, node_after_request, node_after_message}
use Rattle.chip_model.specs.NodeShape.{SideFits}
use Rattle.chip_model.specs.Ownership.{owner, is_tile, is_owned_copy, is_live_back, is_open_write, owns, delivered_to, OwnsByOrder}
use Rattle.chip_model.specs.Bookkeeping.{is_get}
use Rattle.chip_model.specs.Suppliers.{is_back_for, writes_back_as, writes_back}
use Rattle.snoop_core.specs.Requests.{MeetsOwn, OwnRequestFits}
use Rattle.snoop_core.proofs.OwnedLines.{not_open_other}
use Rattle.chip_laws.proofs.SupplyCounts.{count_by-cons, count_by-append}

-- the messages that write a line back
abbrev pub backs_in : ℕ → List Msg → ℕ
backs_in line out = count_by (is_back_for line) out

-- ---- messages with data
data_none : (line m : ℕ) (words : List ℕ) (list : List Waiting) → backs_in line (data_to_all m words list) ≡ 0
data_none line m words [] = refl
data_none line m words (first ∷ list) =
    omega (arith, data_none line m words list, count_by-cons (is_back_for line) (record { to = first.tile; kind = Data; line = m; words = words }) (data_to_all m words list))

completed_sends : (line : ℕ) (chip : Chip) (demand : Demand) (place : ℕ) (words : List ℕ) (side : CacheSide) → backs_in line (completed chip demand place words side).sends ≡ 0
completed_sends line chip demand place words side =
    cond_both (is_getm demand.kind) (completed_store chip demand place words side) (completed_load chip demand place words side) (λ outcome. backs_in line outcome.sends ≡ 0)
    (λ writes. data_none line demand.line _ demand.list) (λ reads. refl)

snooped_sends : (line : ℕ) (chip : Chip) (q : Request) (side : CacheSide) (h : Holding) (kind : Kind) → backs_in line (snooped_with chip q side h kind).sends ≡ 0
snooped_sends line chip q side (OwnedCopy words) GetS = refl
snooped_sends line chip q side (OwnedCopy words) GetM = refl
snooped_sends line chip q side (OwnedCopy words) PutM = refl
snooped_sends line chip q side (LiveBack words) GetS = refl
snooped_sends line chip q side (LiveBack words) GetM = refl
snooped_sends line chip q side (LiveBack words) PutM = refl
snooped_sends line chip q side (OpenWrite demand) GetS = refl
snooped_sends line chip q side (OpenWrite demand) GetM = refl
snooped_sends line chip q side (OpenWrite demand) PutM = refl
snooped_sends line chip q side (OpenRead demand) GetS = refl
snooped_sends line chip q side (OpenRead demand) GetM = refl
snooped_sends line chip q side (OpenRead demand) PutM = refl
snooped_sends line chip q side SharedCopy GetS = refl
snooped_sends line chip q side SharedCopy GetM = refl
snooped_sends line chip q side SharedCopy PutM = refl
snooped_sends line chip q side Nothing GetS = refl
snooped_sends line chip q side Nothing GetM = refl
snooped_sends line chip q side Nothing PutM = refl

ordered_sends : (line : ℕ) (chip : Chip) (side : CacheSide) (place : ℕ) (demand : Demand) (words : Option (List ℕ)) → backs_in line (ordered_with chip side place demand words).sends ≡ 0
ordered_sends line chip side place demand (Some words) = completed_sends line chip demand place words side
ordered_sends line chip side place demand None = refl

get_sends : (line : ℕ) (chip : Chip) (side : CacheSide) (place : ℕ) (entry : Option Demand) → backs_in line (own_get chip side place entry).sends ≡ 0
get_sends line chip side place None = refl
get_sends line chip side place (Some demand) = ordered_sends line chip side place demand (words_here chip side demand demand.early)

-- ---- the own write-back
only_second : (a b c : Bool) → a ≡ false → c ≡ false → (a || b || c) ≡ b
only_second true b c none also = cc
only_second false true c none also = refl
only_second false false c none also = also

-- the line of a write-back is owned as long as the write-back is live
owns_back : (chip : Chip) (side : CacheSide) (back : WriteBack) → SideFits chip side → side.misses.back ≡ Some back → owns chip side back.line ≡ back.live
unfolding owns
owns_back chip side back fits stands =
    only_second (is_owned_copy (lookup chip side.cache back.line)) (is_live_back back.line side.misses.back) (is_open_write back.line side.misses.demand)
    (ap is_owned_copy (fits.back back stands))
    (not_open_other back.line side.misses.demand (λ demand there. fits.apart demand back there stands))
    ∙ ap (is_live_back back.line) stands
    ∙ ap (λ (b : Bool). b && back.live) (eq-eqb back.line back.line refl)

put_sends : (line : ℕ) (chip : Chip) (side : CacheSide) (back : WriteBack) → backs_in line (own_put chip side (Some back)).sends ≡ count_if (back.live && (back.line == line))
put_sends line chip side back = by back.live where
  by : (live : Bool) → backs_in line (cond {A = List Msg} live (record { to = home chip back.line; kind = Back; line = back.line; words = back.words } ∷ []) [])
      ≡ count_if (live && (back.line == line))
  by true = omega (arith, count_by-cons (is_back_for line) (record { to = home chip back.line; kind = Back; line = back.line; words = back.words }) [])
  by false = refl

-- the own request sends the words to memory where it writes the line back
own_sends : (line : ℕ) (chip : Chip) (tile : ℕ) (side : CacheSide) (place : ℕ) (q : Request) (o : Owner) (kind : Kind) → q.kind ≡ kind → SideFits chip side → MeetsOwn side q kind
    → q.source ≡ tile → owns chip side line ≡ is_tile tile o → backs_in line (own_request chip side place kind).sends ≡ count_if (writes_back_as line o (Some q))
own_sends line chip tile side place q o GetS is fits meets source owned =
    get_sends line chip side place side.misses.demand ∙ sym (ap (λ (k : Kind). count_if (not (is_get k) && (q.line == line) && is_tile q.source o)) is)
own_sends line chip tile side place q o GetM is fits meets source owned =
    get_sends line chip side place side.misses.demand ∙ sym (ap (λ (k : Kind). count_if (not (is_get k) && (q.line == line) && is_tile q.source o)) is)
own_sends line chip tile side place q o PutM is fits meets source owned =
    let back : WriteBack = meets.0 in
    let stands : side.misses.back ≡ Some back = meets.1 in
    ap (λ (entry : Option WriteBack). backs_in line (own_put chip side entry).sends) stands
    ∙ put_sends line chip side back
    ∙ by (back.line == line) refl
    ∙ sym (ap (λ (k : Kind). count_if (not (is_get k) && (q.line == line) && is_tile q.source o)) is
    ∙ ap (λ (l : ℕ). count_if ((l == line) && is_tile q.source o)) (sym meets.2.line)
    ∙ ap (λ (t : ℕ). count_if ((back.line == line) && is_tile t o)) source
    ∙ ap (λ (b : Bool). count_if ((back.line == line) && b)) (sym owned))
  where
    and_none : (b : Bool) → (b && false) ≡ false
    and_none true = refl
    and_none false = refl

    and_one : (b : Bool) → (b && true) ≡ b
    and_one true = refl
    and_one false = refl

    by : (here : Bool) → (meets.0.line == line) ≡ here → count_if (meets.0.live && (meets.0.line == line)) ≡ count_if ((meets.0.line == line) && owns chip side line)
    by false other =
        ap (λ (b : Bool). count_if (meets.0.live && b)) other ∙ ap count_if (and_none meets.0.live) ∙ sym (ap (λ (b : Bool). count_if (b && owns chip side line)) other)
    by true here =
        let owned_live : owns chip side line ≡ meets.0.live =
        ap (owns chip side) (sym (eqb-true meets.0.line line here)) ∙ owns_back chip side meets.0 fits meets.1 in
        ap (λ (b : Bool). count_if (meets.0.live && b)) here ∙ ap count_if (and_one meets.0.live)
        ∙ sym (ap (λ (b : Bool). count_if (b && owns chip side line)) here ∙ ap count_if owned_live)

-- ---- the records send data alone
memory_sends : (line : ℕ) (q : Request) (r : LineRecord) (kind : Kind) → backs_in line (from_memory q r kind).sends ≡ 0
memory_sends line q r GetS = refl
memory_sends line q r GetM = refl
memory_sends line q r PutM = refl

await_sends : (line : ℕ) (q : Request) (r : LineRecord) (kind : Kind) → backs_in line (awaiting_write_back q r kind).sends ≡ 0
await_sends line q r GetS = refl
await_sends line q r GetM = refl
await_sends line q r PutM = refl

tile_sends : (line : ℕ) (q : Request) (r : LineRecord) (tile : ℕ) (kind : Kind) → backs_in line (owned_by_tile q r tile kind).sends ≡ 0
tile_sends line q r tile GetS = refl
tile_sends line q r tile GetM = refl
tile_sends line q r tile PutM = refl

record_sends : (line : ℕ) (q : Request) (r : LineRecord) (o : Owner) → backs_in line (answered_by q r o).sends ≡ 0
record_sends line q r Memory =
    cond_both r.fresh (from_memory q r q.kind) (awaiting_write_back q r q.kind) (λ answer. backs_in line answer.sends ≡ 0)
    (λ fresh. memory_sends line q r q.kind) (λ waits. await_sends line q r q.kind)
record_sends line q r (Tile tile) = tile_sends line q r tile q.kind

answered_sends : (line : ℕ) (q : Request) (records : Records) → backs_in line (answered q records).sends ≡ 0
unfolding answered
answered_sends line q records = by (slice_index_or records q.line None) where
  by : (entry : Option LineRecord) → backs_in line (answered_at q records entry).sends ≡ 0
  by None = refl
  by (Some r) = record_sends line q r r.owner

returned_sends : (line m : ℕ) (words : List ℕ) (records : Records) → backs_in line (back_arrived m words records).sends ≡ 0
unfolding back_arrived
returned_sends line m words records = by (slice_index_or records m None) where
  by : (entry : Option LineRecord) → backs_in line (returned_at m words records entry).sends ≡ 0
  by None = refl
  by (Some r) = data_none line m words r.waiters

-- ---- a request is delivered
pub delivered_backs : (line : ℕ) (ordered : List Request) (q : Request) (node : Node) → SideFits node.chip node.side → OwnsByOrder ordered node → OwnRequestFits node.tile node.side q
    → slice_get ordered node.delivered ≡ Some q
    → backs_in line (node_after_request q node).0.out ≡ backs_in line node.out + cond (q.source == node.tile) (count_if (writes_back line ordered node.delivered)) 0
unfolding node_after_request after_snoop
delivered_backs line ordered q node fits owned meets at =
    let outcome = after_snoop node.chip node.tile node.side node.delivered q in
    let writes : count_if (writes_back line ordered node.delivered) ≡ count_if (writes_back_as line (owner line (delivered_to ordered node)) (Some q)) =
    ap (λ (entry : Option Request). count_if (writes_back_as line (owner line (delivered_to ordered node)) entry)) at in
    omega (
      arith,
      count_by-append (is_back_for line) (node.out ++ outcome.sends) (answered q node.records).sends,
      count_by-append (is_back_for line) node.out outcome.sends,
      answered_sends line q node.records,
      by (q.source == node.tile) refl writes,
    )
  where
    by : (own : Bool) → (q.source == node.tile) ≡ own
        → count_if (writes_back line ordered node.delivered) ≡ count_if (writes_back_as line (owner line (delivered_to ordered node)) (Some q))
        → backs_in line (cond own (own_request node.chip node.side node.delivered q.kind) (snooped_with node.chip q node.side (holding node.chip node.side q.line) q.kind)).sends
        ≡ cond own (count_if (writes_back line ordered node.delivered)) 0
    by true own writes =
        let source = eqb-true q.source node.tile own in
        own_sends line node.chip node.tile node.side node.delivered q (owner line (delivered_to ordered node)) q.kind refl fits (meets source) source (owned.lines line) ∙ sym writes
    by false other writes = snooped_sends line node.chip q node.side (holding node.chip node.side q.line) q.kind

-- ---- a message comes
at_sends : (line : ℕ) (chip : Chip) (side : CacheSide) (words : List ℕ) (demand : Demand) (place : Option ℕ) → backs_in line (data_at chip side words demand place).sends ≡ 0
at_sends line chip side words demand (Some place) = completed_sends line chip demand place words side
at_sends line chip side words demand None = refl

data_sends : (line : ℕ) (chip : Chip) (side : CacheSide) (words : List ℕ) → backs_in line (after_data chip side words).sends ≡ 0
unfolding after_data
data_sends line chip side words = by side.misses.demand where
  by : (entry : Option Demand) → backs_in line (data_for chip side words entry).sends ≡ 0
  by None = refl
  by (Some demand) = at_sends line chip side words demand demand.ordered

kind_backs : (line : ℕ) (msg : Msg) (node : Node) (kind : MsgKind) → backs_in line (arrived_as msg node kind).0.out ≡ backs_in line node.out
kind_backs line msg node Data = omega (arith, count_by-append (is_back_for line) node.out (after_data node.chip node.side msg.words).sends, data_sends line node.chip node.side msg.words)
kind_backs line msg node Back = omega (arith, count_by-append (is_back_for line) node.out (back_arrived msg.line msg.words node.records).sends, returned_sends line msg.line msg.words node.records)

pub arrived_backs : (line : ℕ) (msg : Msg) (node : Node) → backs_in line (node_after_message msg node).0.out ≡ backs_in line node.out
unfolding node_after_message
arrived_backs line msg node = kind_backs line msg node msg.kind
