-- The place of an ordered demand is one that was delivered.
use Rattle.std.proofs.Common.{◌≡◌, ℕ, ◌<◌, ◌+◌, refl, sym, ◌∙◌, ap, arith, true, Option, Some, None, List}
use Rattle.std.specs.Prelude.{◌==◌}
use Rattle.std.proofs.lemmas.Bool.{cond_both}
use Rattle.mesh_gen.specs.declared.kind.Kind.{Kind}
use Rattle.mesh_gen.specs.declared.kind.Kind.TheVariants.{GetS, GetM, PutM}
use Rattle.mesh_gen.specs.declared.request.Request.{Request}
use Rattle.chip_model.specs.declared.pending.Pending.{Pending}
use Rattle.chip_model.specs.Chip.{Chip}
use Rattle.chip_model.specs.Misses.{Demand, WriteBack, Misses, sent_demand, sent_by, marked_sent}
use Rattle.chip_model.specs.Snoop.{CacheSide, ordered_with, own_get, own_put, own_request, snooped_with, after_snoop, holding, completed, data_at, data_for, after_data}
use Rattle.chip_model.specs.Node.{Node, Performed, node_after_access}
use Rattle.chip_model.specs.NodeShape.{IsCache}
use Rattle.snoop_core.specs.Nodes.{IsPlaced}
use Rattle.snoop_core.proofs.SnoopSteps.{snoop_forms}
use Rattle.snoop_core.proofs.Completions.{completed_forms}
use Rattle.snoop_core.proofs.Sending.{sent_forms}
use Rattle.snoop_core.proofs.Accesses.{access_forms}

-- a demand with the place of one that stood
same_place : (misses : Misses) (n : ℕ) (before after : Demand) (back : Option WriteBack) → misses.demand ≡ Some before → after.ordered ≡ before.ordered → IsPlaced misses n
    → IsPlaced (record { demand = Some after; back = back }) n
same_place misses n before after back stands same placed = λ demand place is ordered.
    let now : after ≡ demand = cc in
    placed before place stands (sym same ∙ ap (λ (d : Demand). d.ordered) now ∙ ordered)

none_placed : (back : Option WriteBack) (n : ℕ) → IsPlaced (record { demand = None; back = back }) n
none_placed back n = λ demand place is ordered. cc

new_placed : (demand : Demand) (back : Option WriteBack) (n : ℕ) → demand.ordered ≡ None → IsPlaced (record { demand = Some demand; back = back }) n
new_placed demand back n unordered = λ d place is ordered.
    let now : demand ≡ d = cc in
    let both : None ≡ Some place = sym unordered ∙ ap (λ (x : Demand). x.ordered) now ∙ ordered in
    cc

-- ---- requests
other_placed : (chip : Chip) (side : CacheSide) (q : Request) (n : ℕ) → IsPlaced side.misses n → IsPlaced (snooped_with chip q side (holding chip side q.line) q.kind).side.misses n
other_placed chip side q n placed = snoop_forms chip side q (λ outcome. IsPlaced outcome.side.misses n) (record {
  put = λ kind. placed;
  copy_read = λ kind held there owned. placed;
  copy_written = λ kind held there owned. placed;
  back_read = λ kind back. placed;
  back_written = λ kind copy back stands line. placed;
  list_read = λ kind demand meets writes goes_on. same_place side.misses n demand _ side.misses.back meets.stands refl placed;
  list_written = λ kind demand meets writes goes_on. same_place side.misses n demand _ side.misses.back meets.stands refl placed;
  read = λ kind. placed;
  once = λ kind demand meets reads. same_place side.misses n demand _ side.misses.back meets.stands refl placed;
  shared_written = λ kind unowned. placed;
  nothing_written = λ kind unowned. placed;
})

completed_placed : (chip : Chip) (side : CacheSide) (demand : Demand) (place : ℕ) (words : List ℕ) (n : ℕ) → IsPlaced (completed chip demand place words side).side.misses n
completed_placed chip side demand place words n = completed_forms chip demand place words side (λ after. IsPlaced after.misses n) (record {
  served = λ reads once. none_placed side.misses.back n;
  loaded = λ reads kept new. none_placed side.misses.back n;
  gone = λ writes ends. none_placed side.misses.back n;
  stored = λ writes goes_on state owned new. none_placed side.misses.back n;
})

ordered_placed : (chip : Chip) (side : CacheSide) (place n : ℕ) (demand : Demand) (words : Option (List ℕ)) → place < n → IsPlaced (ordered_with chip side place demand words).side.misses n
ordered_placed chip side place n demand (Some words) below = completed_placed chip side demand place words n
ordered_placed chip side place n demand None below = λ d at is ordered.
    let now : record demand { ordered = Some place } ≡ d = cc in
    let same : Some place ≡ Some at = ap (λ (x : Demand). x.ordered) now ∙ ordered in
    let here : place ≡ at = cc in
    omega arith

get_placed : (chip : Chip) (side : CacheSide) (place n : ℕ) (entry : Option Demand) → place < n → IsPlaced side.misses n → IsPlaced (own_get chip side place entry).side.misses n
get_placed chip side place n None below placed = placed
get_placed chip side place n (Some demand) below placed = ordered_placed chip side place n demand _ below

put_placed : (chip : Chip) (side : CacheSide) (n : ℕ) (entry : Option WriteBack) → IsPlaced side.misses n → IsPlaced (own_put chip side entry).side.misses n
put_placed chip side n None placed = placed
put_placed chip side n (Some back) placed = placed

own_placed : (chip : Chip) (side : CacheSide) (place n : ℕ) (kind : Kind) → place < n → IsPlaced side.misses n → IsPlaced (own_request chip side place kind).side.misses n
own_placed chip side place n GetS below placed = get_placed chip side place n side.misses.demand below placed
own_placed chip side place n GetM below placed = get_placed chip side place n side.misses.demand below placed
own_placed chip side place n PutM below placed = put_placed chip side n side.misses.back placed

later : (misses : Misses) (n : ℕ) → IsPlaced misses n → IsPlaced misses (n + 1)
later misses n placed = λ demand place is ordered. let below : place < n = placed demand place is ordered in omega arith

pub IsPlaced-after_snoop : (chip : Chip) (tile : ℕ) (side : CacheSide) (place : ℕ) (q : Request) → IsPlaced side.misses place → IsPlaced (after_snoop chip tile side place q).side.misses (place + 1)
unfolding after_snoop
IsPlaced-after_snoop chip tile side place q placed =
    cond_both (q.source == tile) (own_request chip side place q.kind) (snooped_with chip q side (holding chip side q.line) q.kind) (λ outcome. IsPlaced outcome.side.misses (place + 1))
    (λ same. own_placed chip side place (place + 1) q.kind (omega arith) (later side.misses place placed))
    (λ other. other_placed chip side q (place + 1) (later side.misses place placed))

-- ---- words that come
at_placed : (chip : Chip) (side : CacheSide) (words : List ℕ) (n : ℕ) (demand : Demand) (place : Option ℕ) → side.misses.demand ≡ Some demand → IsPlaced side.misses n
    → IsPlaced (data_at chip side words demand place).side.misses n
at_placed chip side words n demand (Some place) stands placed = completed_placed chip side demand place words n
at_placed chip side words n demand None stands placed = same_place side.misses n demand _ side.misses.back stands refl placed

for_placed : (chip : Chip) (side : CacheSide) (words : List ℕ) (n : ℕ) (entry : Option Demand) → side.misses.demand ≡ entry → IsPlaced side.misses n → IsPlaced (data_for chip side words entry).side.misses n
for_placed chip side words n None is placed = placed
for_placed chip side words n (Some demand) is placed = at_placed chip side words n demand demand.ordered is placed

pub IsPlaced-after_data : (chip : Chip) (side : CacheSide) (words : List ℕ) (n : ℕ) → IsPlaced side.misses n → IsPlaced (after_data chip side words).side.misses n
unfolding after_data
IsPlaced-after_data chip side words n placed = for_placed chip side words n side.misses.demand refl placed

-- ---- an access, and a request that is sent
pub IsPlaced-node_after_access : (access : Pending) (node : Node) (performed : Performed) (n : ℕ) → node_after_access access node ≡ Some performed → IsCache node.chip node.side.cache
    → IsPlaced node.side.misses n → IsPlaced performed.0.side.misses n
IsPlaced-node_after_access access node performed n done is placed =
    access_forms access node performed (λ after. IsPlaced after.side.misses n) is (record {
      hit = placed;
      wrote = λ held there modified words. placed;
      missed = λ a at apart absent room. new_placed _ node.side.misses.back n refl;
      upgraded = λ a at apart changes held there unmodified. new_placed _ node.side.misses.back n refl;
      made_room = λ a at apart absent cache drops. new_placed _ node.side.misses.back n refl;
      put_back = λ held puts queue alone. placed;
    }) done

get_sent_placed : (demand : Option Demand) (back : Option WriteBack) (n : ℕ) → IsPlaced (record { demand = demand; back = back }) n
    → IsPlaced (record { demand = sent_demand demand; back = back }) n
get_sent_placed None back n placed = none_placed back n
get_sent_placed (Some demand) back n placed = same_place (record { demand = Some demand; back = back }) n demand (record demand { sent = true }) back refl refl placed

sent_placed : (demand : Option Demand) (back : Option WriteBack) (n : ℕ) → IsPlaced (record { demand = demand; back = back }) n → IsPlaced (sent_by demand back) n
sent_placed demand back n placed = sent_forms demand back (λ misses. IsPlaced misses n) (record {
  get = get_sent_placed demand back n placed;
  put = λ b stands. placed;
})

pub IsPlaced-marked_sent : (misses : Misses) (n : ℕ) → IsPlaced misses n → IsPlaced (marked_sent misses) n
unfolding marked_sent
IsPlaced-marked_sent misses n placed = sent_placed misses.demand misses.back n placed
