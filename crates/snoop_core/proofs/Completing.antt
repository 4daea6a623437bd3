-- What a demand that completes leaves.
use Rattle.std.proofs.Common.{◌≡◌, ℕ, Bool, true, false, refl, sym, ◌∙◌, ap, subst, arith, Option, Some, None, List, length, length-append, ◌+◌, ◌≤◌, ◌++◌}
use Rattle.std.proofs.lemmas.List.{length-map}
use Rattle.mesh_gen.specs.declared.msg.Msg.{Msg}
use Rattle.std.specs.Prelude.{if◌then◌else◌}
use Rattle.chip_model.specs.declared.line_state.State.TheVariants.{S}
use Rattle.chip_model.specs.declared.done.Done.{Done}
use Rattle.chip_model.specs.declared.pending.Pending.{Pending}
use Rattle.chip_model.specs.declared.waiting.Waiting.{Waiting}
use Rattle.chip_model.specs.Chip.{Chip}
use Rattle.chip_model.specs.Cache.{Cache, installed}
use Rattle.chip_model.specs.Misses.{Demand, Misses, is_getm}
use Rattle.chip_model.specs.Snoop.{CacheSide, Outcome, quiet, written_by, done_by, data_to, data_to_all, kept_after_store, completed_store, completed_load}
use Rattle.line_cache.specs.Sets.{copy_of}
use Rattle.miss_table.specs.Table.{list_of}
use Rattle.snoop_core.specs.ChipSides.{ChipSide, after_outcome, completion}

-- what is left where these parts are now
pub left : (old : ChipSide) (chip : Chip) (before now : CacheSide) (outcome : Outcome) → record { chip = chip; side = before } ≡ old → now ≡ outcome.side
    → record { chip = chip; side = now } ≡ after_outcome outcome old
left old chip before now outcome is same =
    ap (λ (s : CacheSide). record { chip = chip; side = s }) same
    ∙ ap (λ (site : ChipSide). record { chip = site.chip; side = outcome.side }) is

-- a write
pub store_left : (chip : Chip) (side : CacheSide) (cache : Cache) (misses : Misses) (demand : Demand) (line place : ℕ) (pending : Pending) (words new : List ℕ) (list : List Waiting)
    → side.misses.demand ≡ Some demand → demand.line ≡ line → demand.pending ≡ pending
    → new ≡ written_by pending words → list ≡ list_of side.misses.demand → cache ≡ kept_after_store chip line new list side.cache
    → misses ≡ record side.misses { demand = None }
    → record { cache = cache; misses = misses } ≡ (completed_store chip demand place words side).side
store_left chip side cache misses demand line place pending words new list stands line_is pending_is new_is list_is cache_is ended =
    let same_list : demand.list ≡ list = sym (list_is ∙ ap list_of stands) in
    let written : written_by demand.pending words ≡ new = ap (λ (p : Pending). written_by p words) pending_is ∙ sym new_is in
    let kept : cache ≡ kept_after_store chip demand.line (written_by demand.pending words) demand.list side.cache =
    rw (line_is, written, same_list) cache_is in
    rw (kept, ended) refl

-- a load
pub load_left : (chip : Chip) (side : CacheSide) (cache : Cache) (misses : Misses) (demand : Demand) (line place : ℕ) (words : List ℕ) (once : Bool)
    → demand.line ≡ line → demand.once ≡ once
    → cache ≡ (if once then side.cache else installed chip (copy_of line (S, words)) side.cache) → misses ≡ record side.misses { demand = None }
    → record { cache = cache; misses = misses } ≡ (completed_load chip demand place words side).side
load_left chip side cache misses demand line place words once line_is once_is cache_is ended =
    let kept : cache ≡ (if demand.once then side.cache else installed chip (copy_of demand.line (S, words)) side.cache) = rw (once_is, line_is) cache_is in
    rw (kept, ended) refl

-- ---- the completion of the demand that stands
pub completion_store : (place : ℕ) (words : List ℕ) (site : ChipSide) (demand : Demand) → site.side.misses.demand ≡ Some demand → is_getm demand.kind ≡ true
    → completion place words site ≡ completed_store site.chip demand place words site.side
completion_store place words site demand stands writes = rw (stands, writes) refl

pub completion_load : (place : ℕ) (words : List ℕ) (site : ChipSide) (demand : Demand) → site.side.misses.demand ≡ Some demand → is_getm demand.kind ≡ false
    → completion place words site ≡ completed_load site.chip demand place words site.side
completion_load place words site demand stands reads = rw (stands, reads) refl

pub completion_none : (place : ℕ) (words : List ℕ) (site : ChipSide) → site.side.misses.demand ≡ None → completion place words site ≡ quiet site.side
completion_none place words site none = rw none refl

pub store_sends : (chip : Chip) (side : CacheSide) (demand : Demand) (line place : ℕ) (pending : Pending) (words : List ℕ) → demand.line ≡ line → demand.pending ≡ pending
    → data_to_all line (written_by pending words) demand.list ≡ (completed_store chip demand place words side).sends
store_sends chip side demand line place pending words line_is pending_is = rw (sym line_is, sym pending_is) refl

pub done_of : (demand : Demand) (place : ℕ) (pending : Pending) (words : List ℕ) (done : Done) → demand.pending ≡ pending
    → done ≡ done_by pending (place + 1) words → Some done ≡ Some (done_by demand.pending (place + 1) words)
done_of demand place pending words done pending_is is =
    ap (λ (d : Done). Some d) is ∙ ap (λ (p : Pending). Some (done_by p (place + 1) words)) (sym pending_is)

-- the messages of a store that completes are those for its list
pub room_stored : (place : ℕ) (words : List ℕ) (site : ChipSide) (demand : Demand) (out : List Msg) (room : ℕ) → site.side.misses.demand ≡ Some demand → is_getm demand.kind ≡ true
    → length (out ++ (completion place words site).sends) ≤ room → length out + length (list_of site.side.misses.demand) ≤ room
room_stored place words site demand out room stands writes fits =
    let all : length (out ++ (completed_store site.chip demand place words site.side).sends) ≤ room =
    subst (λ (outcome : Outcome). length (out ++ outcome.sends) ≤ room) (completion_store place words site demand stands writes) fits in
    let same : length (list_of site.side.misses.demand) ≡ length demand.list = ap (λ (d : Option Demand). length (list_of d)) stands in
    omega (
      arith,
      all,
      length-append out (completed_store site.chip demand place words site.side).sends,
      length-map demand.list (λ (w : Waiting). data_to w.tile demand.line (written_by demand.pending words)),
    )
