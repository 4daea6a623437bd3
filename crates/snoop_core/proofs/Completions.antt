-- A demand completes: what is left of the cache side, and that it keeps its shape.
use Rattle.std.proofs.Common.{◌≡◌, ℕ, true, false, refl, ◌∙◌, ap, subst, arith, Option, Some, None, List, [], ◌∷◌}
use Rattle.std.proofs.lemmas.Bool.{cond_both}
use Rattle.mesh_gen.specs.declared.msg.Msg.{Msg}
use Rattle.mesh_gen.specs.declared.msg_kind.MsgKind.TheVariants.{Data}
use Rattle.chip_model.specs.declared.line_state.State.{State}
use Rattle.chip_model.specs.declared.line_state.State.TheVariants.{M, O, S}
use Rattle.chip_model.specs.declared.waiting.Waiting.{Waiting}
use Rattle.chip_model.specs.Chip.{Chip}
use Rattle.chip_model.specs.Cache.{Cache, is_shared, installed, without_line}
use Rattle.chip_model.specs.Misses.{Demand, is_getm, ends_in_getm}
use Rattle.chip_model.specs.Snoop.{CacheSide, with_demand, with_cache, line_gone, written_by, kept_after_store, kept_after_load, completed_load, completed_store, completed, data_at, data_for, after_data}
use Rattle.chip_model.specs.NodeShape.{DemandFits, SideFits}
use Rattle.snoop_core.specs.Requests.{DataFits}
use Rattle.snoop_core.proofs.DemandStages.{staged}
use Rattle.snoop_core.proofs.Sides.{SideFits-without_line, SideFits-demand, SideFits-served, SideFits-installed}

-- ---- what a completion leaves of the cache
abbrev pub with_copy : Chip → ℕ → State → List ℕ → Cache → Cache
with_copy chip line state words cache = installed chip (record { line = line; state = state; words = words }) cache

pub record KeptForms (chip : Chip) (demand : Demand) (cache : Cache) (P : Cache → Type 0) : Type 0 where
  -- a load keeps a shared copy, or none where its words serve once
  pub served : is_getm demand.kind ≡ false → demand.once ≡ true → P cache
  pub loaded : is_getm demand.kind ≡ false → demand.once ≡ false → (words : List ℕ) → P (with_copy chip demand.line S words cache)
  -- a store keeps an owned copy, or none where a tile that is to write waits for it
  pub gone : is_getm demand.kind ≡ true → ends_in_getm demand.list ≡ true → P (without_line chip demand.line cache)
  pub stored : is_getm demand.kind ≡ true → ends_in_getm demand.list ≡ false → (state : State) → is_shared state ≡ false → (words : List ℕ)
      → P (with_copy chip demand.line state words cache)

load_forms : (chip : Chip) (demand : Demand) (words : List ℕ) (cache : Cache) (P : Cache → Type 0) → is_getm demand.kind ≡ false
    → KeptForms chip demand cache P → P (kept_after_load chip demand words cache)
load_forms chip demand words cache P reads forms =
    cond_both demand.once cache (with_copy chip demand.line S words cache) P (λ once. forms.served reads once)
    (λ kept. forms.loaded reads kept words)

store_forms : (chip : Chip) (demand : Demand) (words : List ℕ) (list : List Waiting) (cache : Cache) (P : Cache → Type 0)
    → is_getm demand.kind ≡ true → demand.list ≡ list
    → KeptForms chip demand cache P → P (kept_after_store chip demand.line words list cache)
store_forms chip demand words [] cache P writes is forms = forms.stored writes (ap ends_in_getm is) M refl words
store_forms chip demand words (first ∷ rest) cache P writes is forms =
    cond_both (ends_in_getm (first ∷ rest)) (without_line chip demand.line cache) (with_copy chip demand.line O words cache) P
    (λ ends. forms.gone writes (ap ends_in_getm is ∙ ends))
    (λ goes_on. forms.stored writes (ap ends_in_getm is ∙ goes_on) O refl words)

pub completed_forms : (chip : Chip) (demand : Demand) (place : ℕ) (words : List ℕ) (side : CacheSide) (P : CacheSide → Type 0)
    → KeptForms chip demand side.cache (λ cache. P (with_demand None (with_cache cache side)))
    → P (completed chip demand place words side).side
completed_forms chip demand place words side P forms =
    cond_both (is_getm demand.kind) (completed_store chip demand place words side) (completed_load chip demand place words side)
    (λ outcome. P outcome.side)
    (λ writes. store_forms chip demand (written_by demand.pending words) demand.list side.cache
    (λ cache. P (with_demand None (with_cache cache side))) writes refl forms)
    (λ reads. load_forms chip demand words side.cache (λ cache. P (with_demand None (with_cache cache side))) reads forms)

-- ---- a completion keeps the shape
pub SideFits-completed : (chip : Chip) (side : CacheSide) (demand : Demand) (place : ℕ) (words : List ℕ) → side.misses.demand ≡ Some demand
    → SideFits chip side → SideFits chip (completed chip demand place words side).side
SideFits-completed chip side demand place words stands is = completed_forms chip demand place words side (λ after. SideFits chip after)
    (record {
      served = λ reads once. SideFits-served chip side is;
      loaded = λ reads kept new. SideFits-installed chip side demand S new stands is;
      gone = λ writes ends. SideFits-served chip (line_gone chip demand.line side) (SideFits-without_line chip side demand.line is);
      stored = λ writes goes_on state owned new. SideFits-installed chip side demand state new stands is;
    })

-- ---- words come
early_fits : (chip : Chip) (cache : Cache) (demand : Demand) (words : List ℕ) → demand.sent ≡ true → demand.ordered ≡ None
    → DemandFits chip cache demand → DemandFits chip cache (record demand { early = Some words })
early_fits chip cache demand words sent none is =
    staged chip cache demand demand.sent demand.once demand.ordered (Some words) demand.list is is.unowned
    (λ unsent. grind (arith, sent, unsent)) (λ ordered. grind (arith, none, ordered)) is.unordered is.reads is.writes is.gone

SideFits-data_at : (chip : Chip) (side : CacheSide) (words : List ℕ) (demand : Demand) (place : Option ℕ) → side.misses.demand ≡ Some demand
    → demand.sent ≡ true → demand.ordered ≡ place
    → SideFits chip side → SideFits chip (data_at chip side words demand place).side
SideFits-data_at chip side words demand (Some place) stands sent ordered is = SideFits-completed chip side demand place words stands is
SideFits-data_at chip side words demand None stands sent ordered is =
    SideFits-demand chip side demand
    (record demand { early = Some words }) stands refl (early_fits chip side.cache demand words sent ordered
    (is.demand demand stands)) is

SideFits-data_for : (chip : Chip) (side : CacheSide) (words : List ℕ) (entry : Option Demand) → side.misses.demand ≡ entry
    → ((demand : Demand) → entry ≡ Some demand → demand.sent ≡ true)
    → SideFits chip side → SideFits chip (data_for chip side words entry).side
SideFits-data_for chip side words None stands sent is = is
SideFits-data_for chip side words (Some demand) stands sent is = SideFits-data_at chip side words demand demand.ordered stands
    (sent demand refl) refl is

-- the words of a demand that was sent keep the shape
pub SideFits-after_data : (chip : Chip) (side : CacheSide) (words : List ℕ)
    → ((demand : Demand) → side.misses.demand ≡ Some demand → demand.sent ≡ true)
    → SideFits chip side → SideFits chip (after_data chip side words).side
unfolding after_data
SideFits-after_data chip side words sent is = SideFits-data_for chip side words side.misses.demand refl sent is

-- the demand for which a message comes was sent
pub sent_before : (side : CacheSide) (msg : Msg) → msg.kind ≡ Data → DataFits side msg → (demand : Demand)
    → side.misses.demand ≡ Some demand → demand.sent ≡ true
sent_before side msg kind fits demand stands =
    let met = fits kind in
    let same : met.0 ≡ demand = cc (met.1) in
    subst (λ (d : Demand). d.sent ≡ true) same met.2.sent
