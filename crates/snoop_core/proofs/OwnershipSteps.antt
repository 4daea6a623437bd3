-- Which lines a cache side owns after its own requests, words that come, accesses, and a request that is sent.
use Rattle.std.proofs.Common.{◌≡◌, ◌≢◌, ℕ, Bool, true, false, refl, sym, ◌∙◌, ap, subst, arith, Option, Some, None, List, []}
use Rattle.std.specs.Prelude.{◌||◌, ◌==◌, ◌&&◌, not, is_some, if◌then◌else◌}
use Rattle.std.proofs.lemmas.Bool.{cond_both, eqb-true}
use Rattle.std.proofs.lemmas.Bool.Decides.{nat_tests}
use Rattle.std.proofs.lemmas.Option.{same_Some}
use Rattle.mesh_gen.specs.declared.kind.Kind.{Kind}
use Rattle.mesh_gen.specs.declared.kind.Kind.TheVariants.{GetS, GetM, PutM}
use Rattle.mesh_gen.specs.declared.request.Request.{Request}
use Rattle.chip_model.specs.declared.pending.Pending.{Pending}
use Rattle.chip_model.specs.declared.line_state.State.{State}
use Rattle.chip_model.specs.declared.line_state.State.TheVariants.{M, S}
use Rattle.chip_model.specs.declared.owner.Owner.{Owner}
use Rattle.chip_model.specs.declared.owner.Owner.TheVariants.{Memory, Tile}
use Rattle.chip_model.specs.Chip.{Chip}
use Rattle.chip_model.specs.Cache.{Held, Cache, is_shared, lookup, installed, without_line}
use Rattle.chip_model.specs.Misses.{Demand, WriteBack, is_getm, ends_in_getm, new_back, sent_demand, sent_by, marked_sent}
use Rattle.chip_model.specs.Snoop.{CacheSide, with_demand, with_back, with_cache, line_gone, completed, words_here, ordered_with, own_get, own_put, own_request, snooped_with, after_snoop, holding, data_at, data_for, after_data}
use Rattle.chip_model.specs.Node.{Node, Performed, node_after_access}
use Rattle.chip_model.specs.Ownership.{is_tile, owner_after, is_owned_copy, is_live_back, is_open_write, owns}
use Rattle.chip_model.specs.NodeShape.{SideFits}
use Rattle.snoop_core.specs.Requests.{MeetsDemand, MeetsBack, MeetsOwn, OwnRequestFits}
use Rattle.snoop_core.proofs.CacheMaps.{DropsShared, PutsBack, lookup-line, lookup-without_line, lookup-installed, fits_held}
use Rattle.snoop_core.proofs.Completions.{with_copy, completed_forms}
use Rattle.snoop_core.proofs.OwnRequests.{is_gets}
use Rattle.snoop_core.proofs.Sending.{sent_forms}
use Rattle.snoop_core.proofs.Accesses.{started_by, access_forms, accessed_free, with_misses}
use Rattle.snoop_core.proofs.OwnedLines.{not_live_other, not_open_other, other_demand, OwnsAfterOther, owns-snooped_with, owns-demand}

-- ---- beside a demand that stands
not_equal : (a b : ℕ) → (a == b) ≡ false → (b == a) ≡ false
not_equal a b is = grind (arith, nat_tests, is)

back_elsewhere : (chip : Chip) (side : CacheSide) (demand : Demand) → side.misses.demand ≡ Some demand → SideFits chip side
    → is_live_back demand.line side.misses.back ≡ false
back_elsewhere chip side demand stands is = not_live_other demand.line side.misses.back
    (λ back write_back_is. not_equal demand.line back.line (is.apart demand back stands write_back_is))

open_elsewhere : (side : CacheSide) (demand : Demand) (m : ℕ) → side.misses.demand ≡ Some demand → (m == demand.line) ≡ false
    → is_open_write m side.misses.demand ≡ false
open_elsewhere side demand m stands other = not_open_other m side.misses.demand
    (λ d is. other_demand m demand.line demand d other refl (same_Some demand d (sym stands ∙ is)))

open_is : (side : CacheSide) (demand : Demand) (m : ℕ) (b : Bool) → side.misses.demand ≡ Some demand → is_open_write m (Some demand) ≡ b
    → is_open_write m side.misses.demand ≡ b
open_is side demand m b stands is = ap (is_open_write m) stands ∙ is

-- ---- a completion
-- after it the node owns the line of a store unless a tile that is to write waits, and the same lines as before for the rest
abbrev pub OwnsAfterDone : Chip → CacheSide → Demand → ℕ → CacheSide → Type 0
OwnsAfterDone chip side demand m after = owns chip after m
    ≡ (if m == demand.line then (if is_getm demand.kind then not (ends_in_getm demand.list) else owns chip side m) else owns chip side m)

not_open_load : (demand : Demand) (m : ℕ) → is_getm demand.kind ≡ false → is_open_write m (Some demand) ≡ false
not_open_load demand m reads = grind (arith, reads)

done_served : (chip : Chip) (side : CacheSide) (demand : Demand) (m : ℕ) → side.misses.demand ≡ Some demand → is_getm demand.kind ≡ false
    → OwnsAfterDone chip side demand m (with_demand None side)
unfolding owns
done_served chip side demand m stands reads =
    let before : is_open_write m side.misses.demand ≡ false = open_is side demand m false stands (not_open_load demand m reads) in
    grind (arith, reads, before)

done_loaded : (chip : Chip) (side : CacheSide) (demand : Demand) (words : List ℕ) (m : ℕ) → side.misses.demand ≡ Some demand
    → is_getm demand.kind ≡ false → SideFits chip side
    → OwnsAfterDone chip side demand m (with_demand None (with_cache (with_copy chip demand.line S words side.cache) side))
unfolding owns
done_loaded chip side demand words m stands reads is =
    let fit = is.demand demand stands in
    let new : Held = record { line = demand.line; state = S; words = words } in
    let before : is_open_write m side.misses.demand ≡ false = open_is side demand m false stands (not_open_load demand m reads) in
    let absent : lookup chip side.cache demand.line ≡ None = fit.absent (is_gets chip side.cache demand fit reads) in
    let now = lookup-installed chip side.cache new m fit.room in
    grind (arith, nat_tests, reads, before, absent, now)

done_gone : (chip : Chip) (side : CacheSide) (demand : Demand) (m : ℕ) → side.misses.demand ≡ Some demand → is_getm demand.kind ≡ true
    → ends_in_getm demand.list ≡ true → SideFits chip side
    → OwnsAfterDone chip side demand m (with_demand None (line_gone chip demand.line side))
unfolding owns
done_gone chip side demand m stands writes ends is =
    let back = back_elsewhere chip side demand stands is in
    let other = open_elsewhere side demand m stands in
    let now = lookup-without_line chip side.cache demand.line m in
    grind (arith, nat_tests, writes, ends, back, other, now)

done_stored : (chip : Chip) (side : CacheSide) (demand : Demand) (state : State) (words : List ℕ) (m : ℕ) → side.misses.demand ≡ Some demand
    → is_getm demand.kind ≡ true
    → ends_in_getm demand.list ≡ false → is_shared state ≡ false → SideFits chip side
    → OwnsAfterDone chip side demand m (with_demand None (with_cache (with_copy chip demand.line state words side.cache) side))
unfolding owns
done_stored chip side demand state words m stands writes goes_on owned is =
    let new : Held = record { line = demand.line; state = state; words = words } in
    let other = open_elsewhere side demand m stands in
    let now = lookup-installed chip side.cache new m (is.demand demand stands).room in
    grind (arith, nat_tests, writes, goes_on, owned, other, now)

pub owns-completed : (chip : Chip) (side : CacheSide) (demand : Demand) (place : ℕ) (words : List ℕ) (m : ℕ)
    → side.misses.demand ≡ Some demand → SideFits chip side
    → OwnsAfterDone chip side demand m (completed chip demand place words side).side
owns-completed chip side demand place words m stands is = completed_forms chip demand place words side
    (λ after. OwnsAfterDone chip side demand m after) (record {
      served = λ reads once. done_served chip side demand m stands reads;
      loaded = λ reads kept new. done_loaded chip side demand new m stands reads is;
      gone = λ writes ends. done_gone chip side demand m stands writes ends is;
      stored = λ writes goes_on state owned new. done_stored chip side demand state new m stands writes goes_on owned is;
    })

-- ---- the node's own request to read or to write: after it the node owns the line of a write
abbrev pub OwnsAfterGet : Chip → CacheSide → Request → ℕ → CacheSide → Type 0
OwnsAfterGet chip side q m after =
    owns chip after m ≡ (if m == q.line then (if is_getm q.kind then true else owns chip side m) else owns chip side m)

get_done : (chip : Chip) (side after : CacheSide) (q : Request) (demand : Demand) (m : ℕ) → demand.kind ≡ q.kind → demand.line ≡ q.line
    → demand.list ≡ [] → OwnsAfterDone chip side demand m after → OwnsAfterGet chip side q m after
get_done chip side after q demand m kind line list done =
    let writes : is_getm demand.kind ≡ is_getm q.kind = ap is_getm kind in
    let goes_on : ends_in_getm demand.list ≡ false = ap ends_in_getm list in
    let here : (m == demand.line) ≡ (m == q.line) = ap (λ (l : ℕ). m == l) line in
    grind (arith, writes, goes_on, here, done)

open_ordered : (demand : Demand) (place m : ℕ) → demand.list ≡ []
    → is_open_write m (Some (record demand { ordered = Some place })) ≡ ((demand.line == m) && is_getm demand.kind)
open_ordered demand place m list =
    let goes_on : ends_in_getm demand.list ≡ false = ap ends_in_getm list in
    grind (arith, goes_on)

open_unordered : (demand : Demand) (m : ℕ) → demand.ordered ≡ None → is_open_write m (Some demand) ≡ false
open_unordered demand m none =
    let unordered : is_some demand.ordered ≡ false = ap is_some none in
    grind (arith, unordered)

get_waits : (chip : Chip) (side : CacheSide) (q : Request) (demand : Demand) (place m : ℕ) → side.misses.demand ≡ Some demand
    → demand.kind ≡ q.kind → demand.line ≡ q.line → demand.ordered ≡ None → demand.list ≡ []
    → OwnsAfterGet chip side q m (with_demand (Some (record demand { ordered = Some place })) side)
unfolding owns
get_waits chip side q demand place m stands kind line none list =
    let writes : is_getm demand.kind ≡ is_getm q.kind = ap is_getm kind in
    let here : (demand.line == m) ≡ (q.line == m) = ap (λ (l : ℕ). l == m) line in
    let now = open_ordered demand place m list in
    let before : is_open_write m side.misses.demand ≡ false = open_is side demand m false stands (open_unordered demand m none) in
    grind (arith, nat_tests, writes, here, now, before)

get_with : (chip : Chip) (side : CacheSide) (q : Request) (demand : Demand) (place m : ℕ) (words : Option (List ℕ))
    → side.misses.demand ≡ Some demand → demand.kind ≡ q.kind → demand.line ≡ q.line
    → demand.ordered ≡ None → SideFits chip side → OwnsAfterGet chip side q m (ordered_with chip side place demand words).side
get_with chip side q demand place m (Some words) stands kind line none is =
    get_done chip side (completed chip demand place words side).side q demand m kind line ((is.demand demand stands).unordered none).0
    (owns-completed chip side demand place words m stands is)
get_with chip side q demand place m None stands kind line none is = get_waits chip side q demand place m stands kind line none
    ((is.demand demand stands).unordered none).0

owns-own_get : (chip : Chip) (side : CacheSide) (place : ℕ) (q : Request) (m : ℕ) → MeetsDemand side q → SideFits chip side
    → OwnsAfterGet chip side q m (own_get chip side place side.misses.demand).side
owns-own_get chip side place q m meets is =
    subst (λ (entry : Option Demand). OwnsAfterGet chip side q m (own_get chip side place entry).side) (sym meets.1)
    (get_with chip side q meets.0 place m
    (words_here chip side meets.0 meets.0.early) meets.1 meets.2.kind meets.2.line meets.2.unordered is)

-- ---- its own request to give a line back: after it the node does not own the line
abbrev pub OwnsAfterPut : Chip → CacheSide → Request → ℕ → CacheSide → Type 0
OwnsAfterPut chip side q m after = owns chip after m ≡ (if m == q.line then false else owns chip side m)

put_by : (chip : Chip) (side : CacheSide) (back : WriteBack) (m : ℕ) (b : Bool) → (m == back.line) ≡ b → side.misses.back ≡ Some back
    → SideFits chip side
    → owns chip (with_back None side) m ≡ (if b then false else owns chip side m)
unfolding owns
put_by chip side back m true here stands is =
    let at : m ≡ back.line = eqb-true m back.line here in
    let copy : is_owned_copy (lookup chip side.cache m) ≡ false = ap (λ (l : ℕ). is_owned_copy (lookup chip side.cache l)) at
    ∙ ap is_owned_copy (is.back back stands) in
    let write : is_open_write m side.misses.demand ≡ false = not_open_other m side.misses.demand (λ demand demand_is.
    ap (λ (l : ℕ). demand.line == l) at ∙ is.apart demand back demand_is stands) in
    grind (arith, copy, write)
put_by chip side back m false other stands is =
    let elsewhere : is_live_back m side.misses.back ≡ false = not_live_other m side.misses.back (λ b stands_b.
    subst (λ (x : WriteBack). (x.line == m) ≡ false) (same_Some back b (sym stands ∙ stands_b)) (not_equal m back.line other)) in
    grind (arith, elsewhere)

owns-own_put : (chip : Chip) (side : CacheSide) (q : Request) (m : ℕ) → MeetsBack side q → SideFits chip side
    → OwnsAfterPut chip side q m (own_put chip side side.misses.back).side
owns-own_put chip side q m meets is =
    subst (λ (entry : Option WriteBack). OwnsAfterPut chip side q m (own_put chip side entry).side) (sym meets.1)
    (subst (λ (line : ℕ). owns chip (with_back None side) m ≡ (if m == line then false else owns chip side m)) meets.2.line
    (put_by chip side meets.0 m (m == meets.0.line) refl meets.1 is))

-- ---- the owner after a request, and the tile
owner_other : (tile m : ℕ) (owner : Owner) (q : Request) (kind : Kind) → q.kind ≡ kind → (q.source == tile) ≡ false
    → is_tile tile (owner_after m owner q)
    ≡ (if m == q.line then (if is_getm kind then false else is_tile tile owner) else is_tile tile owner)
unfolding owner_after
owner_other tile m owner q GetS is other = grind (arith, nat_tests, is)
owner_other tile m owner q GetM is other = grind (arith, nat_tests, is, other)
owner_other tile m Memory q PutM is other = grind (arith, nat_tests, is)
owner_other tile m (Tile t) q PutM is other = grind (arith, nat_tests, is, other)

owner_own_get : (tile m : ℕ) (owner : Owner) (q : Request) (kind : Kind) → q.kind ≡ kind → kind ≢ PutM → (q.source == tile) ≡ true
    → is_tile tile (owner_after m owner q)
    ≡ (if m == q.line then (if is_getm kind then true else is_tile tile owner) else is_tile tile owner)
unfolding owner_after
owner_own_get tile m owner q GetS is get own = grind (arith, nat_tests, is)
owner_own_get tile m owner q GetM is get own = grind (arith, nat_tests, is, own)
owner_own_get tile m owner q PutM is get own = absurd (get refl)

owner_own_put : (tile m : ℕ) (owner : Owner) (q : Request) → q.kind ≡ PutM → (q.source == tile) ≡ true
    → is_tile tile (owner_after m owner q) ≡ (if m == q.line then false else is_tile tile owner)
unfolding owner_after
owner_own_put tile m Memory q is own = grind (arith, nat_tests, is)
owner_own_put tile m (Tile t) q is own = grind (arith, nat_tests, is, own)

-- ---- the law of ownership, step by step
by_other : (chip : Chip) (tile : ℕ) (side after : CacheSide) (q : Request) (m : ℕ) (owner : Owner) → (q.source == tile) ≡ false
    → owns chip side m ≡ is_tile tile owner → OwnsAfterOther chip side q m after
    → owns chip after m ≡ is_tile tile (owner_after m owner q)
by_other chip tile side after q m owner other law now =
    now ∙ ap (λ (b : Bool). if m == q.line then (if is_getm q.kind then false else b) else b) law
    ∙ sym (owner_other tile m owner q q.kind refl other)

by_get : (chip : Chip) (tile : ℕ) (side after : CacheSide) (q : Request) (m : ℕ) (owner : Owner) → q.kind ≢ PutM → (q.source == tile) ≡ true
    → owns chip side m ≡ is_tile tile owner → OwnsAfterGet chip side q m after
    → owns chip after m ≡ is_tile tile (owner_after m owner q)
by_get chip tile side after q m owner get own law now =
    now ∙ ap (λ (b : Bool). if m == q.line then (if is_getm q.kind then true else b) else b) law
    ∙ sym (owner_own_get tile m owner q q.kind refl get own)

by_put : (chip : Chip) (tile : ℕ) (side after : CacheSide) (q : Request) (m : ℕ) (owner : Owner) → q.kind ≡ PutM → (q.source == tile) ≡ true
    → owns chip side m ≡ is_tile tile owner → OwnsAfterPut chip side q m after
    → owns chip after m ≡ is_tile tile (owner_after m owner q)
by_put chip tile side after q m owner put own law now =
    now ∙ ap (λ (b : Bool). if m == q.line then false else b) law ∙ sym (owner_own_put tile m owner q put own)

getS_put : GetS ≡ PutM → ⊥
getS_put is = cc

getM_put : GetM ≡ PutM → ⊥
getM_put is = cc

by_own : (chip : Chip) (tile : ℕ) (side : CacheSide) (place : ℕ) (q : Request) (m : ℕ) (owner : Owner) (kind : Kind) → q.kind ≡ kind
    → MeetsOwn side q kind → (q.source == tile) ≡ true → SideFits chip side
    → owns chip side m ≡ is_tile tile owner → owns chip (own_request chip side place kind).side m ≡ is_tile tile (owner_after m owner q)
by_own chip tile side place q m owner GetS kind meets own is law =
    by_get chip tile side (own_get chip side place side.misses.demand).side q m owner (λ put. getS_put (sym kind ∙ put)) own law
    (owns-own_get chip side place q m meets is)
by_own chip tile side place q m owner GetM kind meets own is law =
    by_get chip tile side (own_get chip side place side.misses.demand).side q m owner (λ put. getM_put (sym kind ∙ put)) own law
    (owns-own_get chip side place q m meets is)
by_own chip tile side place q m owner PutM kind meets own is law =
    by_put chip tile side (own_put chip side side.misses.back).side q m owner kind own law (owns-own_put chip side q m meets is)

pub owns-after_snoop : (chip : Chip) (tile : ℕ) (side : CacheSide) (place : ℕ) (q : Request) → SideFits chip side → OwnRequestFits tile side q
    → (line : ℕ) (owner : Owner) → owns chip side line ≡ is_tile tile owner
    → owns chip (after_snoop chip tile side place q).side line ≡ is_tile tile (owner_after line owner q)
unfolding after_snoop
owns-after_snoop chip tile side place q is own line owner law =
    cond_both (q.source == tile) (own_request chip side place q.kind) (snooped_with chip q side (holding chip side q.line) q.kind)
    (λ outcome. owns chip outcome.side line ≡ is_tile tile (owner_after line owner q))
    (λ same. by_own chip tile side place q line owner q.kind refl (own (eqb-true q.source tile same)) same is law)
    (λ other. by_other chip tile side (snooped_with chip q side (holding chip side q.line) q.kind).side q line owner other law
    (owns-snooped_with chip side q line is))

-- ---- words that come change nothing of ownership
ordered_owned : (chip : Chip) (side : CacheSide) (demand : Demand) → side.misses.demand ≡ Some demand → is_some demand.ordered ≡ true
    → is_getm demand.kind ≡ true → SideFits chip side
    → owns chip side demand.line ≡ not (ends_in_getm demand.list)
unfolding owns
ordered_owned chip side demand stands ordered writes is =
    let copy = (is.demand demand stands).unowned ordered in
    let back = back_elsewhere chip side demand stands is in
    let open_write : is_open_write demand.line side.misses.demand ≡ is_open_write demand.line (Some demand) =
    ap (is_open_write demand.line) stands in
    grind (arith, nat_tests, copy, back, open_write, ordered, writes)

same_owned : (chip : Chip) (side after : CacheSide) (demand : Demand) (m : ℕ) (here writes : Bool) → (m == demand.line) ≡ here
    → is_getm demand.kind ≡ writes
    → (writes ≡ true → owns chip side demand.line ≡ not (ends_in_getm demand.list)) → OwnsAfterDone chip side demand m after
    → owns chip after m ≡ owns chip side m
same_owned chip side after demand m true true here writes owned done =
    let at : m ≡ demand.line = eqb-true m demand.line here in
    done ∙ grind (arith, here, writes) ∙ sym (owned refl) ∙ ap (owns chip side) (sym at)
same_owned chip side after demand m true false here writes owned done = done ∙ grind (arith, here, writes)
same_owned chip side after demand m false writes here is owned done = done ∙ grind (arith, here)

owns-data_at : (chip : Chip) (side : CacheSide) (words : List ℕ) (demand : Demand) (place : Option ℕ) (m : ℕ)
    → side.misses.demand ≡ Some demand → demand.ordered ≡ place → SideFits chip side
    → owns chip (data_at chip side words demand place).side m ≡ owns chip side m
owns-data_at chip side words demand (Some place) m stands ordered is =
    same_owned chip side (completed chip demand place words side).side demand m (m == demand.line) (is_getm demand.kind) refl refl
    (λ writes. ordered_owned chip side demand stands (ap is_some ordered) writes is)
    (owns-completed chip side demand place words m stands is)
owns-data_at chip side words demand None m stands ordered is = owns-demand chip side demand
    (record demand { early = Some words }) m stands refl

owns-data_for : (chip : Chip) (side : CacheSide) (words : List ℕ) (entry : Option Demand) (m : ℕ) → side.misses.demand ≡ entry
    → SideFits chip side
    → owns chip (data_for chip side words entry).side m ≡ owns chip side m
owns-data_for chip side words None m stands is = refl
owns-data_for chip side words (Some demand) m stands is = owns-data_at chip side words demand demand.ordered m stands refl is

pub owns-after_data : (chip : Chip) (side : CacheSide) (words : List ℕ) (line : ℕ) → SideFits chip side
    → owns chip (after_data chip side words).side line ≡ owns chip side line
unfolding after_data
owns-after_data chip side words line is = owns-data_for chip side words side.misses.demand line refl is

-- ---- nor does an access
owns-started : (chip : Chip) (side : CacheSide) (cache : Cache) (access : Pending) (m : ℕ) → side.misses.demand ≡ None
    → is_owned_copy (lookup chip cache m) ≡ is_owned_copy (lookup chip side.cache m)
    → owns chip (with_demand (Some (started_by access)) (with_cache cache side)) m ≡ owns chip side m
unfolding owns
owns-started chip side cache access m none same =
    let before : is_open_write m side.misses.demand ≡ false = ap (is_open_write m) none in
    grind (arith, same, before)

owns-wrote : (chip : Chip) (side : CacheSide) (line : ℕ) (held : Held) (words : List ℕ) (m : ℕ) → lookup chip side.cache line ≡ Some held
    → held.state ≡ M
    → owns chip (with_cache (installed chip (record held { words = words }) side.cache) side) m ≡ owns chip side m
unfolding owns
owns-wrote chip side line held words m there modified =
    let same : held.line ≡ line = lookup-line chip side.cache line held there in
    let at : lookup chip side.cache held.line ≡ Some held = ap (λ (l : ℕ). lookup chip side.cache l) same ∙ there in
    let now = lookup-installed chip side.cache (record held { words = words }) m (fits_held chip side.cache held.line (ap is_some at)) in
    let owned : is_shared held.state ≡ false = ap is_shared modified in
    grind (arith, nat_tests, at, now, owned)

dropped_same : (chip : Chip) (line : ℕ) (cache new : Cache) (m : ℕ) → DropsShared chip line cache new
    → is_owned_copy (lookup chip new m) ≡ is_owned_copy (lookup chip cache m)
dropped_same chip line cache new m drops =
    let now = lookup-without_line chip cache drops.was.line m in
    ap (λ (c : Cache). is_owned_copy (lookup chip c m)) drops.dropped ∙ grind (arith, nat_tests, now, drops.there, drops.shared)

owns-put_back : (chip : Chip) (side : CacheSide) (held : Held) (m : ℕ) → side.misses.back ≡ None → PutsBack chip side.cache held
    → owns chip (with_back (Some (new_back held.line held.words))
    (with_cache (without_line chip held.line side.cache) side)) m ≡ owns chip side m
unfolding owns
owns-put_back chip side held m none puts =
    let now = lookup-without_line chip side.cache held.line m in
    let before : is_live_back m side.misses.back ≡ false = ap (is_live_back m) none in
    grind (arith, nat_tests, now, before, puts.there, puts.owned)

pub owns-node_after_access : (access : Pending) (node : Node) (performed : Performed)
    → node_after_access access node ≡ Some performed → SideFits node.chip node.side
    → (line : ℕ) → owns performed.0.chip performed.0.side line ≡ owns node.chip node.side line
owns-node_after_access access node performed done is line =
    let free = accessed_free access node performed done in
    access_forms access node performed (λ after. owns after.chip after.side line ≡ owns node.chip node.side line) is.cache
    (record {
      hit = refl;
      wrote = λ held there modified words. owns-wrote node.chip node.side _ held words line there modified;
      missed = λ a at apart absent room. owns-started node.chip node.side node.side.cache a line free refl;
      upgraded = λ a at apart changes held there unmodified. owns-started node.chip node.side node.side.cache a line free refl;
      made_room = λ a at apart absent cache drops. owns-started node.chip node.side cache a line free
          (dropped_same node.chip _ node.side.cache cache line drops);
      put_back = λ held puts queue alone. owns-put_back node.chip node.side held line alone puts;
    }) done

-- ---- nor does it that the request is sent
open_sent : (m : ℕ) (entry : Option Demand) → is_open_write m (sent_demand entry) ≡ is_open_write m entry
open_sent m None = refl
open_sent m (Some demand) = refl

live_sent : (m : ℕ) (entry : Option WriteBack) (back : WriteBack) → entry ≡ Some back
    → is_live_back m (Some (record back { sent = true })) ≡ is_live_back m entry
live_sent m entry back stands = ap (is_live_back m) (sym stands)

owns-sent_by : (chip : Chip) (side : CacheSide) (m : ℕ)
    → owns chip (with_misses (sent_by side.misses.demand side.misses.back) side) m ≡ owns chip side m
unfolding owns
owns-sent_by chip side m =
    let copy = is_owned_copy (lookup chip side.cache m) in
    sent_forms side.misses.demand side.misses.back (λ misses. (copy || is_live_back m misses.back || is_open_write m misses.demand) ≡ (copy || is_live_back m side.misses.back || is_open_write m side.misses.demand)) (record {
      get = ap (λ (b : Bool). copy || is_live_back m side.misses.back || b) (open_sent m side.misses.demand);
      put = λ back stands. ap (λ (b : Bool). copy || b || is_open_write m side.misses.demand) (live_sent m side.misses.back back stands);
    })

pub owns-marked_sent : (chip : Chip) (side : CacheSide) (line : ℕ)
    → owns chip (with_misses (marked_sent side.misses) side) line ≡ owns chip side line
unfolding marked_sent
owns-marked_sent chip side line = owns-sent_by chip side line
