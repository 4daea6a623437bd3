-- Which lines a cache side owns after each change.
use Rattle.std.proofs.Common.{◌≡◌, ℕ, Bool, true, false, refl, sym, ◌∙◌, ap, subst, arith, Option, Some, None, List, [], ◌∷◌, ◌++◌}
use Rattle.std.specs.Prelude.{◌==◌, ◌||◌, is_some, if◌then◌else◌}
use Rattle.std.proofs.lemmas.Bool.{eqb-true, ne_eqb, both_ways}
use Rattle.std.proofs.lemmas.Bool.Decides.{nat_tests}
use Rattle.std.proofs.lemmas.Option.{same_Some}
use Rattle.mesh_gen.specs.declared.request.Request.{Request}
use Rattle.chip_model.specs.declared.line_state.State.TheVariants.{O}
use Rattle.chip_model.specs.declared.waiting.Waiting.{Waiting}
use Rattle.chip_model.specs.Chip.{Chip}
use Rattle.chip_model.specs.Cache.{Held, Cache, is_shared, lookup}
use Rattle.chip_model.specs.Misses.{Demand, WriteBack, is_getm, ends_in_getm}
use Rattle.chip_model.specs.Snoop.{CacheSide, with_demand, line_gone, made_owned, made_stale, stale_back, deferred_to_demand, serves_once, snooped_with, holding}
use Rattle.chip_model.specs.Ownership.{is_owned_copy, is_live_back, is_open_write, owns}
use Rattle.chip_model.specs.NodeShape.{SideFits}
use Rattle.snoop_core.proofs.CacheMaps.{lookup-without_line, lookup-installed, fits_held}
use Rattle.snoop_core.proofs.SnoopSteps.{ends_in_getm-append, MeetsOrdered, IsUnowned, snoop_forms}

-- ---- what owns a line beside a copy in the cache
pub not_live_other : (line : ℕ) (entry : Option WriteBack) → ((back : WriteBack) → entry ≡ Some back → (back.line == line) ≡ false)
    → is_live_back line entry ≡ false
not_live_other line None other = refl
not_live_other line (Some back) other = grind (arith, other back refl)

pub not_open_other : (line : ℕ) (entry : Option Demand) → ((demand : Demand) → entry ≡ Some demand → (demand.line == line) ≡ false)
    → is_open_write line entry ≡ false
not_open_other line None other = refl
not_open_other line (Some demand) other = grind (arith, other demand refl)

open_by : (line : ℕ) (demand : Demand) (same ordered : Bool) → (demand.line == line) ≡ same → is_some demand.ordered ≡ ordered
    → (same ≡ true → ordered ≡ true → ⊥) → is_open_write line (Some demand) ≡ false
open_by line demand false ordered is_same is_ordered none = grind (arith, is_same)
open_by line demand true false is_same is_ordered none = grind (arith, is_ordered)
open_by line demand true true is_same is_ordered none = absurd (none refl refl)

pub not_open_unordered : (line : ℕ) (entry : Option Demand)
    → ((demand : Demand) → entry ≡ Some demand → (demand.line == line) ≡ true → is_some demand.ordered ≡ true → ⊥)
    → is_open_write line entry ≡ false
not_open_unordered line None none = refl
not_open_unordered line (Some demand) none = open_by line demand (demand.line == line) (is_some demand.ordered) refl refl (none demand refl)

-- a copy that is owned is the only way in which its line is owned
pub record IsAlone (side : CacheSide) (line : ℕ) : Type 0 where
  pub back : is_live_back line side.misses.back ≡ false
  pub write : is_open_write line side.misses.demand ≡ false

pub back_apart : (chip : Chip) (side : CacheSide) (line : ℕ) → is_some (lookup chip side.cache line) ≡ true → SideFits chip side
    → is_live_back line side.misses.back ≡ false
back_apart chip side line there is = not_live_other line side.misses.back (λ back stands.
    ne_eqb back.line line (λ same.
    both_ways (is_some (lookup chip side.cache line))
    (ap (λ (l : ℕ). is_some (lookup chip side.cache l)) (sym same) ∙ ap is_some (is.back back stands)) there))

held_some : (copy : Option Held) → is_owned_copy copy ≡ true → is_some copy ≡ true
held_some None owned = cc
held_some (Some held) owned = refl

pub owned_alone : (chip : Chip) (side : CacheSide) (line : ℕ) → is_owned_copy (lookup chip side.cache line) ≡ true → SideFits chip side
    → IsAlone side line
owned_alone chip side line owned is = record {
  back = back_apart chip side line (held_some (lookup chip side.cache line) owned) is;
  write = not_open_unordered line side.misses.demand (λ demand stands same ordered.
      both_ways (is_owned_copy (lookup chip side.cache line))
      (ap (λ (l : ℕ). is_owned_copy (lookup chip side.cache l)) (sym (eqb-true demand.line line same))
      ∙ (is.demand demand stands).unowned ordered) owned);
}

-- ---- one change
pub owns-without_line : (chip : Chip) (side : CacheSide) (line m : ℕ)
    → owns chip (line_gone chip line side) m
    ≡ (if m == line then is_live_back m side.misses.back || is_open_write m side.misses.demand else owns chip side m)
unfolding owns
owns-without_line chip side line m = grind (arith, nat_tests, lookup-without_line chip side.cache line m)

pub owns-owned : (chip : Chip) (side : CacheSide) (line : ℕ) (held : Held) (words : List ℕ) (m : ℕ)
    → lookup chip side.cache line ≡ Some held → is_shared held.state ≡ false
    → owns chip (made_owned chip line words side) m ≡ owns chip side m
unfolding owns
owns-owned chip side line held words m there owned =
    let new : Held = record { line = line; state = O; words = words } in
    grind (arith, nat_tests, lookup-installed chip side.cache new m (fits_held chip side.cache line (ap is_some there)), there, owned)

not_live_stale : (m : ℕ) (entry : Option WriteBack) → is_live_back m (stale_back entry) ≡ false
not_live_stale m None = refl
not_live_stale m (Some back) = grind (arith, nat_tests)

pub owns-stale : (chip : Chip) (side : CacheSide) (m : ℕ)
    → owns chip (made_stale side) m ≡ (is_owned_copy (lookup chip side.cache m) || is_open_write m side.misses.demand)
unfolding owns
owns-stale chip side m = grind (arith, not_live_stale m side.misses.back)

pub owns-demand : (chip : Chip) (side : CacheSide) (demand new : Demand) (m : ℕ) → side.misses.demand ≡ Some demand
    → is_open_write m (Some new) ≡ is_open_write m (Some demand)
    → owns chip (with_demand (Some new) side) m ≡ owns chip side m
unfolding owns
owns-demand chip side demand new m stands same =
    ap (λ (b : Bool). is_owned_copy (lookup chip side.cache m) || is_live_back m side.misses.back || b)
    (same ∙ ap (is_open_write m) (sym stands))

open_listed : (m : ℕ) (demand : Demand) (waiting : Waiting) → is_getm waiting.kind ≡ false → ends_in_getm demand.list ≡ false
    → is_open_write m (Some (record demand { list = demand.list ++ waiting ∷ [] })) ≡ is_open_write m (Some demand)
open_listed m demand waiting reads goes_on = grind (arith, ends_in_getm-append demand.list waiting, reads, goes_on)

open_ended : (m : ℕ) (demand : Demand) (waiting : Waiting) → is_getm waiting.kind ≡ true
    → is_open_write m (Some (record demand { list = demand.list ++ waiting ∷ [] })) ≡ false
open_ended m demand waiting writes = grind (arith, ends_in_getm-append demand.list waiting, writes)

open_once : (m : ℕ) (demand : Demand) → is_open_write m (Some (record demand { once = true })) ≡ is_open_write m (Some demand)
open_once m demand = refl

-- ---- another tile's request
-- after it the tile owns no line that is to be written elsewhere, and the same lines as before for the rest
abbrev pub OwnsAfterOther : Chip → CacheSide → Request → ℕ → CacheSide → Type 0
OwnsAfterOther chip side q m after =
    owns chip after m ≡ (if m == q.line then (if is_getm q.kind then false else owns chip side m) else owns chip side m)

unchanged : (chip : Chip) (side after : CacheSide) (q : Request) (m : ℕ) → is_getm q.kind ≡ false → owns chip after m ≡ owns chip side m
    → OwnsAfterOther chip side q m after
unchanged chip side after q m reads same = grind (arith, reads, same)

other_line : (m line : ℕ) (back b : WriteBack) → (m == line) ≡ false → back.line ≡ line → back ≡ b → (b.line == m) ≡ false
other_line m line back b other at same = subst (λ (x : WriteBack). (x.line == m) ≡ false) same (grind (arith, nat_tests, other, at))

pub other_demand : (m line : ℕ) (demand d : Demand) → (m == line) ≡ false → demand.line ≡ line → demand ≡ d → (d.line == m) ≡ false
other_demand m line demand d other at same = subst (λ (x : Demand). (x.line == m) ≡ false) same (grind (arith, nat_tests, other, at))

-- the line at hand, and another one
taken_by : (chip : Chip) (side after : CacheSide) (q : Request) (m : ℕ) (b : Bool) → is_getm q.kind ≡ true → (m == q.line) ≡ b
    → (b ≡ true → owns chip after m ≡ false)
    → (b ≡ false → owns chip after m ≡ owns chip side m) → OwnsAfterOther chip side q m after
taken_by chip side after q m true writes is here other = let gone = here refl in grind (arith, writes, is, gone)
taken_by chip side after q m false writes is here other = let same = other refl in grind (arith, is, same)

taken : (chip : Chip) (side after : CacheSide) (q : Request) (m : ℕ) → is_getm q.kind ≡ true
    → ((m == q.line) ≡ true → owns chip after m ≡ false) → ((m == q.line) ≡ false → owns chip after m ≡ owns chip side m)
    → OwnsAfterOther chip side q m after
taken chip side after q m writes here other = taken_by chip side after q m (m == q.line) writes refl here other

owned_is : (chip : Chip) (cache : Cache) (line : ℕ) (held : Held) → lookup chip cache line ≡ Some held → is_shared held.state ≡ false
    → is_owned_copy (lookup chip cache line) ≡ true
owned_is chip cache line held there owned = grind (arith, there, owned)

-- the line leaves the cache, and is owned in no other way
gone_here : (chip : Chip) (side : CacheSide) (q : Request) (m : ℕ) → is_getm q.kind ≡ true → IsAlone side q.line
    → OwnsAfterOther chip side q m (line_gone chip q.line side)
gone_here chip side q m writes alone = taken chip side (line_gone chip q.line side) q m writes
    (λ here. let at = eqb-true m q.line here in
    let back : is_live_back m side.misses.back ≡ false = ap (λ (l : ℕ). is_live_back l side.misses.back) at ∙ alone.back in
    let write : is_open_write m side.misses.demand ≡ false = ap (λ (l : ℕ). is_open_write l side.misses.demand) at ∙ alone.write in
    grind (arith, owns-without_line chip side q.line m, here, back, write))
    (λ other. grind (arith, owns-without_line chip side q.line m, other))

-- nothing changes where the node owns the line in no way
nothing_here : (chip : Chip) (side : CacheSide) (q : Request) (m : ℕ) → is_getm q.kind ≡ true → IsUnowned chip side q.line
    → OwnsAfterOther chip side q m side
unfolding owns
nothing_here chip side q m writes unowned = taken chip side side q m writes
    (λ here. subst (λ (l : ℕ). owns chip side l ≡ false) (sym (eqb-true m q.line here))
    (grind (arith, unowned.copy, unowned.back, unowned.write)))
    (λ other. refl)

-- the write-back becomes stale
stale_here : (chip : Chip) (side : CacheSide) (q : Request) (m : ℕ) (back : WriteBack) → is_getm q.kind ≡ true
    → is_owned_copy (lookup chip side.cache q.line) ≡ false
    → side.misses.back ≡ Some back → back.line ≡ q.line → SideFits chip side → OwnsAfterOther chip side q m (made_stale side)
unfolding owns
stale_here chip side q m back writes copy stands line is = taken chip side (made_stale side) q m writes
    (λ here. let at = eqb-true m q.line here in
    let gone : is_owned_copy (lookup chip side.cache m) ≡ false = ap (λ (l : ℕ). is_owned_copy (lookup chip side.cache l)) at ∙ copy in
    let write : is_open_write m side.misses.demand ≡ false = not_open_other m side.misses.demand (λ demand demand_is.
    ap (λ (l : ℕ). demand.line == l) (at ∙ sym line) ∙ is.apart demand back demand_is stands) in
    owns-stale chip side m ∙ grind (arith, gone, write))
    (λ other. let elsewhere : is_live_back m side.misses.back ≡ false = not_live_other m side.misses.back
    (λ b stands_b. other_line m q.line back b other line (same_Some back b (sym stands ∙ stands_b))) in
    owns-stale chip side m ∙ grind (arith, elsewhere))

-- one more tile waits
listed_here : (chip : Chip) (side : CacheSide) (q : Request) (m : ℕ) (demand : Demand) → is_getm q.kind ≡ false
    → side.misses.demand ≡ Some demand → ends_in_getm demand.list ≡ false
    → OwnsAfterOther chip side q m (deferred_to_demand q demand side)
listed_here chip side q m demand reads stands goes_on = unchanged chip side (deferred_to_demand q demand side) q m reads
    (owns-demand chip side demand (record demand { list = demand.list ++ record { tile = q.source; kind = q.kind } ∷ [] }) m stands
    (open_listed m demand (record { tile = q.source; kind = q.kind }) reads goes_on))

ended_here : (chip : Chip) (side : CacheSide) (q : Request) (m : ℕ) (demand : Demand) → is_getm q.kind ≡ true
    → MeetsOrdered chip side q.line demand
    → OwnsAfterOther chip side q m (deferred_to_demand q demand (line_gone chip q.line side))
unfolding owns
ended_here chip side q m demand writes meets = taken chip side (deferred_to_demand q demand (line_gone chip q.line side)) q m writes
    (λ here. let at = eqb-true m q.line here in
    let back : is_live_back m side.misses.back ≡ false = ap (λ (l : ℕ). is_live_back l side.misses.back) at ∙ meets.back in
    let write = open_ended m demand (record { tile = q.source; kind = q.kind }) writes in
    grind (arith, lookup-without_line chip side.cache q.line m, here, back, write))
    (λ other. let write = open_ended m demand (record { tile = q.source; kind = q.kind }) writes in
    let before : is_open_write m side.misses.demand ≡ false = not_open_other m side.misses.demand
    (λ d stands. other_demand m q.line demand d other meets.at (same_Some demand d (sym meets.stands ∙ stands))) in
    grind (arith, lookup-without_line chip side.cache q.line m, other, write, before))

once_here : (chip : Chip) (side : CacheSide) (q : Request) (m : ℕ) (demand : Demand) → is_getm q.kind ≡ true
    → MeetsOrdered chip side q.line demand → is_getm demand.kind ≡ false
    → OwnsAfterOther chip side q m (serves_once demand side)
unfolding owns
once_here chip side q m demand writes meets reads = taken chip side (serves_once demand side) q m writes
    (λ here. let at = eqb-true m q.line here in
    let copy : is_owned_copy (lookup chip side.cache m) ≡ false = ap (λ (l : ℕ). is_owned_copy (lookup chip side.cache l)) at
    ∙ meets.copy in
    let back : is_live_back m side.misses.back ≡ false = ap (λ (l : ℕ). is_live_back l side.misses.back) at ∙ meets.back in
    grind (arith, copy, back, reads))
    (λ other. owns-demand chip side demand (record demand { once = true }) m meets.stands (open_once m demand))

pub owns-snooped_with : (chip : Chip) (side : CacheSide) (q : Request) (m : ℕ) → SideFits chip side
    → OwnsAfterOther chip side q m (snooped_with chip q side (holding chip side q.line) q.kind).side
owns-snooped_with chip side q m is = snoop_forms chip side q (λ outcome. OwnsAfterOther chip side q m outcome.side) (record {
  put = λ kind. unchanged chip side side q m (ap is_getm kind) refl;
  copy_read = λ kind held there owned. unchanged chip side (made_owned chip q.line held.words side) q m (ap is_getm kind)
      (owns-owned chip side q.line held held.words m there owned);
  copy_written = λ kind held there owned. gone_here chip side q m (ap is_getm kind)
      (owned_alone chip side q.line (owned_is chip side.cache q.line held there owned) is);
  back_read = λ kind back. unchanged chip side side q m (ap is_getm kind) refl;
  back_written = λ kind copy back stands line. stale_here chip side q m back (ap is_getm kind) copy stands line is;
  list_read = λ kind demand meets writes goes_on. listed_here chip side q m demand (ap is_getm kind) meets.stands goes_on;
  list_written = λ kind demand meets writes goes_on. ended_here chip side q m demand (ap is_getm kind) meets;
  read = λ kind. unchanged chip side side q m (ap is_getm kind) refl;
  once = λ kind demand meets reads. once_here chip side q m demand (ap is_getm kind) meets reads;
  shared_written = λ kind unowned. gone_here chip side q m (ap is_getm kind) (record { back = unowned.back; write = unowned.write });
  nothing_written = λ kind unowned. nothing_here chip side q m (ap is_getm kind) unowned;
})
