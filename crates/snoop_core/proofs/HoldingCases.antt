-- What a node has for a line: the cases of the snoop table, each with what is known there.
use Rattle.std.proofs.Common.{◌≡◌, ℕ, Bool, true, false, refl, subst, arith, Option, Some, None}
use Rattle.std.specs.Prelude.{is_some, if◌then◌else◌}
use Rattle.std.proofs.lemmas.Bool.{cond_both}
use Rattle.std.proofs.lemmas.Bool.Decides.{nat_tests}
use Rattle.chip_model.specs.Chip.{Chip}
use Rattle.chip_model.specs.Cache.{Held, is_shared, lookup}
use Rattle.chip_model.specs.Misses.{Demand, WriteBack, is_getm, ends_in_getm}
use Rattle.chip_model.specs.Snoop.{CacheSide, Holding, OwnedCopy, LiveBack, OpenWrite, OpenRead, SharedCopy, Nothing, holding_demand, holding_unowned, holding_by, ordered_for, live_for, holding}
use Rattle.chip_model.specs.Ownership.{is_owned_copy, is_live_back, is_open_write}

-- the cases by the copy, a live write-back of the line and an ordered demand for it
pub record HoldingForms (copy : Option Held) (back : Option WriteBack) (demand : Option Demand) (P : Holding → Type 0) : Type 0 where
  pub owned : (held : Held) → copy ≡ Some held → is_shared held.state ≡ false → P (OwnedCopy held.words)
  pub live : is_owned_copy copy ≡ false → (b : WriteBack) → back ≡ Some b → P (LiveBack b.words)
  pub write : is_owned_copy copy ≡ false → back ≡ None → (d : Demand) → demand ≡ Some d → is_getm d.kind ≡ true
      → ends_in_getm d.list ≡ false → P (OpenWrite d)
  pub read : is_owned_copy copy ≡ false → back ≡ None → (d : Demand) → demand ≡ Some d → is_getm d.kind ≡ false → P (OpenRead d)
  pub ended : is_owned_copy copy ≡ false → back ≡ None → (d : Demand) → demand ≡ Some d → is_getm d.kind ≡ true → ends_in_getm d.list ≡ true
      → P Nothing
  pub shared : is_owned_copy copy ≡ false → back ≡ None → demand ≡ None → P SharedCopy
  pub absent : is_owned_copy copy ≡ false → back ≡ None → demand ≡ None → P Nothing

unowned : (held : Held) → is_shared held.state ≡ true → is_owned_copy (Some held) ≡ false
unowned held shared = grind (arith, shared)

demand_forms : (copy : Option Held) (back : Option WriteBack) (demand : Demand) (P : Holding → Type 0) → is_owned_copy copy ≡ false
    → back ≡ None → HoldingForms copy back (Some demand) P → P (holding_demand demand)
demand_forms copy back demand P not_owned not_live forms =
    cond_both (is_getm demand.kind) (if ends_in_getm demand.list then Nothing else OpenWrite demand) (OpenRead demand) P
    (λ writes. cond_both (ends_in_getm demand.list) Nothing (OpenWrite demand) P
    (λ ends. forms.ended not_owned not_live demand refl writes ends)
    (λ goes_on. forms.write not_owned not_live demand refl writes goes_on))
    (λ reads. forms.read not_owned not_live demand refl reads)

unowned_forms : (copy : Option Held) (back : Option WriteBack) (demand : Option Demand) (b : Bool) (P : Holding → Type 0)
    → is_owned_copy copy ≡ false
    → HoldingForms copy back demand P → P (holding_unowned b back demand)
unowned_forms copy (Some back) demand b P not_owned forms = forms.live not_owned back refl
unowned_forms copy None (Some demand) b P not_owned forms = demand_forms copy None demand P not_owned refl forms
unowned_forms copy None None true P not_owned forms = forms.shared not_owned refl refl
unowned_forms copy None None false P not_owned forms = forms.absent not_owned refl refl

pub holding_by_forms : (copy : Option Held) (back : Option WriteBack) (demand : Option Demand) (P : Holding → Type 0)
    → HoldingForms copy back demand P → P (holding_by copy back demand)
holding_by_forms None back demand P forms = unowned_forms None back demand false P refl forms
holding_by_forms (Some held) back demand P forms =
    cond_both (is_shared held.state) (holding_unowned true back demand) (OwnedCopy held.words) P
    (λ shared. unowned_forms (Some held) back demand true P (unowned held shared) forms)
    (λ owned. forms.owned held refl owned)

pub holding_forms : (chip : Chip) (side : CacheSide) (line : ℕ) (P : Holding → Type 0)
    → HoldingForms (lookup chip side.cache line) (live_for line side.misses.back) (ordered_for line side.misses.demand) P
    → P (holding chip side line)
unfolding holding
holding_forms chip side line P forms = holding_by_forms (lookup chip side.cache line) (live_for line side.misses.back)
    (ordered_for line side.misses.demand) P forms

-- ---- the live write-back and the ordered demand are those that stand
pub record IsLiveBack (line : ℕ) (entry : Option WriteBack) (back : WriteBack) : Type 0 where
  pub stands : entry ≡ Some back
  pub at : back.line ≡ line
  pub live : back.live ≡ true

pub record IsOrderedDemand (line : ℕ) (entry : Option Demand) (demand : Demand) : Type 0 where
  pub stands : entry ≡ Some demand
  pub at : demand.line ≡ line
  pub ordered : is_some demand.ordered ≡ true

pub live_is : (line : ℕ) (entry : Option WriteBack) (back : WriteBack) → live_for line entry ≡ Some back → IsLiveBack line entry back
live_is line None back is = cc
live_is line (Some entry) back is =
    record { stands = grind (arith, nat_tests); at = grind (arith, nat_tests); live = grind (arith, nat_tests) }

pub ordered_is : (line : ℕ) (entry : Option Demand) (demand : Demand) → ordered_for line entry ≡ Some demand
    → IsOrderedDemand line entry demand
ordered_is line None demand is = cc
ordered_is line (Some entry) demand is =
    record { stands = grind (arith, nat_tests); at = grind (arith, nat_tests); ordered = grind (arith, nat_tests) }

pub not_live : (line : ℕ) (entry : Option WriteBack) → live_for line entry ≡ None → is_live_back line entry ≡ false
not_live line None none = refl
not_live line (Some entry) none = grind (arith, nat_tests)

pub not_open_none : (line : ℕ) (entry : Option Demand) → ordered_for line entry ≡ None → is_open_write line entry ≡ false
not_open_none line None none = refl
not_open_none line (Some entry) none = grind (arith, nat_tests)

pub not_open_ended : (line : ℕ) (entry : Option Demand) (demand : Demand) → entry ≡ Some demand → ends_in_getm demand.list ≡ true
    → is_open_write line entry ≡ false
not_open_ended line None demand stands ends = cc
not_open_ended line (Some entry) demand stands ends = grind (arith, nat_tests)

-- ---- what is held, told back
-- an ordered demand of a store, after which the line goes on to none that is to write
pub record IsOpenWrite (side : CacheSide) (line : ℕ) (demand : Demand) : Type 0 where
  pub stands : side.misses.demand ≡ Some demand
  pub at : demand.line ≡ line
  pub ordered : is_some demand.ordered ≡ true
  pub writes : is_getm demand.kind ≡ true
  pub goes_on : ends_in_getm demand.list ≡ false

pub record IsOpenRead (side : CacheSide) (line : ℕ) (demand : Demand) : Type 0 where
  pub stands : side.misses.demand ≡ Some demand
  pub at : demand.line ≡ line
  pub ordered : is_some demand.ordered ≡ true
  pub reads : is_getm demand.kind ≡ false

open_write : (side : CacheSide) (line : ℕ) (d demand : Demand) → ordered_for line side.misses.demand ≡ Some d → is_getm d.kind ≡ true
    → ends_in_getm d.list ≡ false → d ≡ demand → IsOpenWrite side line demand
open_write side line d demand is writes goes_on same =
    let ordered = ordered_is line side.misses.demand d is in
    subst (λ (x : Demand). IsOpenWrite side line x) same
    (record { stands = ordered.stands; at = ordered.at; ordered = ordered.ordered; writes = writes; goes_on = goes_on })

pub holding_open_write : (chip : Chip) (side : CacheSide) (line : ℕ) (demand : Demand) → holding chip side line ≡ OpenWrite demand
    → IsOpenWrite side line demand
holding_open_write chip side line demand = holding_forms chip side line (λ h. h ≡ OpenWrite demand → IsOpenWrite side line demand) (record {
  owned = λ held there owned is. cc;
  live = λ copy b lives is. cc;
  write = λ copy back d there writes goes_on is. open_write side line d demand there writes goes_on (cc);
  read = λ copy back d there reads is. cc;
  ended = λ copy back d there writes ends is. cc;
  shared = λ copy back none is. cc;
  absent = λ copy back none is. cc;
})

open_read : (side : CacheSide) (line : ℕ) (d demand : Demand) → ordered_for line side.misses.demand ≡ Some d → is_getm d.kind ≡ false
    → d ≡ demand → IsOpenRead side line demand
open_read side line d demand is reads same =
    let ordered = ordered_is line side.misses.demand d is in
    subst (λ (x : Demand). IsOpenRead side line x) same
    (record { stands = ordered.stands; at = ordered.at; ordered = ordered.ordered; reads = reads })

pub holding_open_read : (chip : Chip) (side : CacheSide) (line : ℕ) (demand : Demand) → holding chip side line ≡ OpenRead demand
    → IsOpenRead side line demand
holding_open_read chip side line demand = holding_forms chip side line (λ h. h ≡ OpenRead demand → IsOpenRead side line demand) (record {
  owned = λ held there owned is. cc;
  live = λ copy b lives is. cc;
  write = λ copy back d there writes goes_on is. cc;
  read = λ copy back d there reads is. open_read side line d demand there reads (cc);
  ended = λ copy back d there writes ends is. cc;
  shared = λ copy back none is. cc;
  absent = λ copy back none is. cc;
})
