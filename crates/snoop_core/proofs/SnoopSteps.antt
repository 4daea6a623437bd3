-- Another tile's request: what it leaves of the cache side, case by case.
use Rattle.std.proofs.Common.{◌≡◌, ◌∙◌, ℕ, true, false, refl, sym, ap, subst, arith, Some, None, List, [], ◌∷◌, ◌++◌}
use Rattle.std.proofs.lemmas.Bool.Decides.{nat_tests}
use Rattle.std.specs.Prelude.{is_some}
use Rattle.mesh_gen.specs.declared.kind.Kind.{Kind}
use Rattle.mesh_gen.specs.declared.kind.Kind.TheVariants.{GetS, GetM, PutM}
use Rattle.mesh_gen.specs.declared.request.Request.{Request}
use Rattle.chip_model.specs.declared.waiting.Waiting.{Waiting}
use Rattle.chip_model.specs.Chip.{Chip}
use Rattle.chip_model.specs.Cache.{Held, Cache, is_shared, lookup, without_line}
use Rattle.chip_model.specs.Misses.{Demand, WriteBack, is_getm, ends_in_getm}
use Rattle.chip_model.specs.Snoop.{CacheSide, Outcome, Holding, quiet, supplies, line_gone, made_owned, made_stale, deferred_to_demand, serves_once, snooped_with, holding, live_for, ordered_for}
use Rattle.chip_model.specs.Ownership.{is_owned_copy, is_live_back, is_open_write}
use Rattle.chip_model.specs.NodeShape.{DemandFits, SideFits}
use Rattle.snoop_core.proofs.DemandStages.{staged}
use Rattle.snoop_core.proofs.Sides.{SideFits-without_line, SideFits-owned, SideFits-demand, SideFits-stale}
use Rattle.snoop_core.proofs.CacheMaps.{lookup-without_line}
use Rattle.snoop_core.proofs.HoldingCases.{holding_forms, live_is, ordered_is, not_live, not_open_none, not_open_ended}

-- an ordered demand for the line, where the node has no owned copy of it and no live write-back
pub record MeetsOrdered (chip : Chip) (side : CacheSide) (line : ℕ) (demand : Demand) : Type 0 where
  pub stands : side.misses.demand ≡ Some demand
  pub at : demand.line ≡ line
  pub ordered : is_some demand.ordered ≡ true
  pub copy : is_owned_copy (lookup chip side.cache line) ≡ false
  pub back : is_live_back line side.misses.back ≡ false

-- the node owns the line in no way
pub record IsUnowned (chip : Chip) (side : CacheSide) (line : ℕ) : Type 0 where
  pub copy : is_owned_copy (lookup chip side.cache line) ≡ false
  pub back : is_live_back line side.misses.back ≡ false
  pub write : is_open_write line side.misses.demand ≡ false

-- the outcomes of another tile's request
pub record SnoopForms (chip : Chip) (side : CacheSide) (q : Request) (P : Outcome → Type 0) : Type 0 where
  pub put : q.kind ≡ PutM → P (quiet side)
  pub copy_read : q.kind ≡ GetS → (held : Held) → lookup chip side.cache q.line ≡ Some held → is_shared held.state ≡ false
      → P (supplies q held.words (made_owned chip q.line held.words side))
  pub copy_written : q.kind ≡ GetM → (held : Held) → lookup chip side.cache q.line ≡ Some held → is_shared held.state ≡ false
      → P (supplies q held.words (line_gone chip q.line side))
  pub back_read : q.kind ≡ GetS → (back : WriteBack) → P (supplies q back.words side)
  pub back_written : q.kind ≡ GetM → is_owned_copy (lookup chip side.cache q.line) ≡ false → (back : WriteBack)
      → side.misses.back ≡ Some back → back.line ≡ q.line
      → P (supplies q back.words (made_stale side))
  pub list_read : q.kind ≡ GetS → (demand : Demand) → MeetsOrdered chip side q.line demand → is_getm demand.kind ≡ true
      → ends_in_getm demand.list ≡ false
      → P (quiet (deferred_to_demand q demand side))
  pub list_written : q.kind ≡ GetM → (demand : Demand) → MeetsOrdered chip side q.line demand → is_getm demand.kind ≡ true
      → ends_in_getm demand.list ≡ false
      → P (quiet (deferred_to_demand q demand (line_gone chip q.line side)))
  pub read : q.kind ≡ GetS → P (quiet side)
  pub once : q.kind ≡ GetM → (demand : Demand) → MeetsOrdered chip side q.line demand → is_getm demand.kind ≡ false
      → P (quiet (serves_once demand side))
  pub shared_written : q.kind ≡ GetM → IsUnowned chip side q.line → P (quiet (line_gone chip q.line side))
  pub nothing_written : q.kind ≡ GetM → IsUnowned chip side q.line → P (quiet side)

meets_ordered : (chip : Chip) (side : CacheSide) (line : ℕ) (demand : Demand) → is_owned_copy (lookup chip side.cache line) ≡ false
    → live_for line side.misses.back ≡ None
    → ordered_for line side.misses.demand ≡ Some demand → MeetsOrdered chip side line demand
meets_ordered chip side line demand copy back is =
    let ordered = ordered_is line side.misses.demand demand is in
    record {
      stands = ordered.stands;
      at = ordered.at;
      ordered = ordered.ordered;
      copy = copy;
      back = not_live line side.misses.back back;
    }

snoop_read : (chip : Chip) (side : CacheSide) (q : Request) (P : Outcome → Type 0) → q.kind ≡ GetS → SnoopForms chip side q P
    → P (snooped_with chip q side (holding chip side q.line) GetS)
snoop_read chip side q P kind forms = holding_forms chip side q.line (λ h. P (snooped_with chip q side h GetS)) (record {
  owned = λ held there owned. forms.copy_read kind held there owned;
  live = λ copy back is. forms.back_read kind back;
  write = λ copy back demand is writes goes_on. forms.list_read kind demand
      (meets_ordered chip side q.line demand copy back is) writes goes_on;
  read = λ copy back demand is reads. forms.read kind;
  ended = λ copy back demand is writes ends. forms.read kind;
  shared = λ copy back demand. forms.read kind;
  absent = λ copy back demand. forms.read kind;
})

snoop_write : (chip : Chip) (side : CacheSide) (q : Request) (P : Outcome → Type 0) → q.kind ≡ GetM → SnoopForms chip side q P
    → P (snooped_with chip q side (holding chip side q.line) GetM)
snoop_write chip side q P kind forms = holding_forms chip side q.line (λ h. P (snooped_with chip q side h GetM)) (record {
  owned = λ held there owned. forms.copy_written kind held there owned;
  live = λ copy back is. let lives = live_is q.line side.misses.back back is in forms.back_written kind copy back lives.stands lives.at;
  write = λ copy back demand is writes goes_on. forms.list_written kind demand
      (meets_ordered chip side q.line demand copy back is) writes goes_on;
  read = λ copy back demand is reads. forms.once kind demand (meets_ordered chip side q.line demand copy back is) reads;
  ended = λ copy back demand is writes ends. forms.nothing_written kind (record {
    copy = copy;
    back = not_live q.line side.misses.back back;
    write = not_open_ended q.line side.misses.demand demand (ordered_is q.line side.misses.demand demand is).stands ends;
  });
  shared = λ copy back demand. forms.shared_written kind (record {
    copy = copy;
    back = not_live q.line side.misses.back back;
    write = not_open_none q.line side.misses.demand demand;
  });
  absent = λ copy back demand. forms.nothing_written kind (record {
    copy = copy;
    back = not_live q.line side.misses.back back;
    write = not_open_none q.line side.misses.demand demand;
  });
})

put_quiet : (chip : Chip) (q : Request) (side : CacheSide) (h : Holding) → snooped_with chip q side h PutM ≡ quiet side
put_quiet chip q side h = grind arith

snoop_by : (chip : Chip) (side : CacheSide) (q : Request) (kind : Kind) (P : Outcome → Type 0) → q.kind ≡ kind → SnoopForms chip side q P
    → P (snooped_with chip q side (holding chip side q.line) kind)
snoop_by chip side q GetS P is forms = snoop_read chip side q P is forms
snoop_by chip side q GetM P is forms = snoop_write chip side q P is forms
snoop_by chip side q PutM P is forms = subst P (sym (put_quiet chip q side (holding chip side q.line))) (forms.put is)

pub snoop_forms : (chip : Chip) (side : CacheSide) (q : Request) (P : Outcome → Type 0) → SnoopForms chip side q P
    → P (snooped_with chip q side (holding chip side q.line) q.kind)
snoop_forms chip side q P forms = snoop_by chip side q q.kind P refl forms

pub ends_in_getm-append : (list : List Waiting) (last : Waiting) → ends_in_getm (list ++ last ∷ []) ≡ is_getm last.kind
ends_in_getm-append [] last = refl
ends_in_getm-append (first ∷ []) last = refl
ends_in_getm-append (first ∷ next ∷ rest) last = ends_in_getm-append (next ∷ rest) last

-- ---- the shape of a demand for which one more waits, and of one whose words serve once
listed_fits : (chip : Chip) (cache : Cache) (demand : Demand) (waiting : Waiting) → is_some demand.ordered ≡ true
    → is_getm demand.kind ≡ true → (is_getm waiting.kind ≡ true → lookup chip cache demand.line ≡ None)
    → DemandFits chip cache demand → DemandFits chip cache (record demand { list = demand.list ++ waiting ∷ [] })
listed_fits chip cache demand waiting ordered writes left is =
    staged chip cache demand demand.sent demand.once demand.ordered demand.early (demand.list ++ waiting ∷ []) is is.unowned is.unsent is.waits
    (λ none. grind (arith, ordered, none)) (λ read. grind (arith, writes, read)) is.writes (λ ends. left (sym (ends_in_getm-append demand.list waiting) ∙ ends))

once_fits : (chip : Chip) (cache : Cache) (demand : Demand) → is_some demand.ordered ≡ true → is_getm demand.kind ≡ false
    → DemandFits chip cache demand → DemandFits chip cache (record demand { once = true })
once_fits chip cache demand ordered reads is =
    staged chip cache demand demand.sent true demand.ordered demand.early demand.list is is.unowned is.unsent is.waits
    (λ none. grind (arith, ordered, none)) is.reads (λ write. grind (arith, reads, write)) is.gone

SideFits-listed : (chip : Chip) (side : CacheSide) (q : Request) (demand : Demand) → side.misses.demand ≡ Some demand
    → is_some demand.ordered ≡ true → is_getm demand.kind ≡ true
    → (is_getm q.kind ≡ true → lookup chip side.cache demand.line ≡ None)
    → SideFits chip side → SideFits chip (deferred_to_demand q demand side)
SideFits-listed chip side q demand stands ordered writes left is =
    let waiting : Waiting = record { tile = q.source; kind = q.kind } in
    SideFits-demand chip side demand
    (record demand { list = demand.list ++ waiting ∷ [] }) stands refl (listed_fits chip side.cache demand waiting ordered writes left
    (is.demand demand stands)) is

SideFits-once : (chip : Chip) (side : CacheSide) (demand : Demand) → side.misses.demand ≡ Some demand → is_some demand.ordered ≡ true
    → is_getm demand.kind ≡ false
    → SideFits chip side → SideFits chip (serves_once demand side)
SideFits-once chip side demand stands ordered reads is =
    SideFits-demand chip side demand
    (record demand { once = true }) stands refl (once_fits chip side.cache demand ordered reads (is.demand demand stands)) is

gone_now : (chip : Chip) (side : CacheSide) (at line : ℕ) → at ≡ line → lookup chip (without_line chip line side.cache) at ≡ None
gone_now chip side at line same = grind (arith, nat_tests, lookup-without_line chip side.cache line at, same)

-- another tile's request keeps the shape
pub SideFits-snooped_with : (chip : Chip) (side : CacheSide) (q : Request) → SideFits chip side
    → SideFits chip (snooped_with chip q side (holding chip side q.line) q.kind).side
SideFits-snooped_with chip side q is = snoop_forms chip side q (λ outcome. SideFits chip outcome.side) (record {
  put = λ kind. is;
  copy_read = λ kind held there owned. SideFits-owned chip side q.line held held.words there owned is;
  copy_written = λ kind held there owned. SideFits-without_line chip side q.line is;
  back_read = λ kind back. is;
  back_written = λ kind copy back stands line. SideFits-stale chip side is;
  list_read = λ kind demand meets writes goes_on. SideFits-listed chip side q demand meets.stands meets.ordered writes
      (λ getm. let no : false ≡ true = sym (ap is_getm kind) ∙ getm in cc) is;
  list_written = λ kind demand meets writes goes_on.
      SideFits-listed chip (line_gone chip q.line side) q demand meets.stands meets.ordered writes
      (λ getm. gone_now chip side demand.line q.line meets.at)
      (SideFits-without_line chip side q.line is);
  read = λ kind. is;
  once = λ kind demand meets reads. SideFits-once chip side demand meets.stands meets.ordered reads is;
  shared_written = λ kind unowned. SideFits-without_line chip side q.line is;
  nothing_written = λ kind unowned. is;
})
