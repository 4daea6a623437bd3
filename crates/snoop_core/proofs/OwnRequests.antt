-- The node's own request keeps the shape of its cache side, and so does every request.
use Rattle.std.proofs.Common.{◌≡◌, ℕ, Bool, true, false, refl, sym, ◌∙◌, ap, subst, arith, Option, Some, None, List}
use Rattle.std.specs.Prelude.{◌==◌, if◌then◌else◌}
use Rattle.std.proofs.lemmas.Bool.{cond_both, eqb-true}
use Rattle.mesh_gen.specs.declared.kind.Kind.{Kind}
use Rattle.mesh_gen.specs.declared.kind.Kind.TheVariants.{GetS, GetM, PutM}
use Rattle.mesh_gen.specs.declared.request.Request.{Request}
use Rattle.report_text.specs.declared.access.AccessKind.{AccessKind}
use Rattle.report_text.specs.declared.access.AccessKind.TheVariants.{Load, Store, Swap, Add}
use Rattle.chip_model.specs.Chip.{Chip}
use Rattle.chip_model.specs.Cache.{Held, Cache, lookup}
use Rattle.chip_model.specs.Misses.{Demand, WriteBack, is_getm, request_for}
use Rattle.chip_model.specs.Snoop.{CacheSide, owned_words, words_here, ordered_with, own_get, own_put, own_request, snooped_with, after_snoop, holding}
use Rattle.chip_model.specs.Ownership.{is_owned_copy}
use Rattle.chip_model.specs.NodeShape.{is_modified, DemandFits, SideFits}
use Rattle.snoop_core.specs.Requests.{MeetsDemand, MeetsOwn, OwnRequestFits}
use Rattle.snoop_core.proofs.Sides.{SideFits-demand, SideFits-given}
use Rattle.snoop_core.proofs.SnoopSteps.{SideFits-snooped_with}
use Rattle.snoop_core.proofs.Completions.{SideFits-completed}

-- ---- a demand is ordered without words
not_owned : (copy : Option Held) → owned_words copy ≡ None → is_modified copy ≡ false → is_owned_copy copy ≡ false
not_owned None none unmodified = refl
not_owned (Some held) none unmodified = grind arith

-- it asks to read or to write
reads_or_writes : (kind : AccessKind) → is_getm (request_for kind) ≡ false → request_for kind ≡ GetS
reads_or_writes Load reads = refl
reads_or_writes Store reads = cc
reads_or_writes Swap reads = cc
reads_or_writes Add reads = cc

pub is_gets : (chip : Chip) (cache : Cache) (demand : Demand) → DemandFits chip cache demand → is_getm demand.kind ≡ false
    → demand.kind ≡ GetS
is_gets chip cache demand is reads = is.asks ∙ reads_or_writes demand.pending.kind (ap is_getm (sym is.asks) ∙ reads)

unowned_by : (chip : Chip) (side : CacheSide) (demand : Demand) (b : Bool) → is_getm demand.kind ≡ b → DemandFits chip side.cache demand
    → (if b then owned_words (lookup chip side.cache demand.line) else None) ≡ None
    → is_owned_copy (lookup chip side.cache demand.line) ≡ false
unowned_by chip side demand true writes is none = not_owned (lookup chip side.cache demand.line) none is.unmodified
unowned_by chip side demand false reads is none = ap is_owned_copy (is.absent (is_gets chip side.cache demand is reads))

pub record LacksWords (chip : Chip) (side : CacheSide) (demand : Demand) : Type 0 where
  pub early : demand.early ≡ None
  pub unowned : is_owned_copy (lookup chip side.cache demand.line) ≡ false

lacks_by : (chip : Chip) (side : CacheSide) (demand : Demand) (early : Option (List ℕ)) → demand.early ≡ early
    → DemandFits chip side.cache demand
    → words_here chip side demand early ≡ None → LacksWords chip side demand
lacks_by chip side demand (Some words) is fits none = cc
lacks_by chip side demand None is fits none =
    record { early = is; unowned = unowned_by chip side demand (is_getm demand.kind) refl fits none }

-- no words are here: there is no early data, and the copy is not owned
pub lacks_words : (chip : Chip) (side : CacheSide) (demand : Demand) → DemandFits chip side.cache demand
    → words_here chip side demand demand.early ≡ None → LacksWords chip side demand
lacks_words chip side demand fits none = lacks_by chip side demand demand.early refl fits none

ordered_fits : (chip : Chip) (side : CacheSide) (demand : Demand) (place : ℕ) → demand.sent ≡ true → LacksWords chip side demand
    → DemandFits chip side.cache demand → DemandFits chip side.cache (record demand { ordered = Some place })
ordered_fits chip side demand place sent lacks is = record {
  asks = is.asks;
  line = is.line;
  room = is.room;
  unmodified = is.unmodified;
  absent = is.absent;
  unowned = λ ordered. lacks.unowned;
  unsent = λ unsent. grind (arith, sent, unsent);
  waits = λ ordered. lacks.early;
  unordered = λ none. cc;
  reads = is.reads;
  writes = is.writes;
  gone = is.gone;
}

-- ---- the demand's own request
SideFits-ordered_with : (chip : Chip) (side : CacheSide) (place : ℕ) (demand : Demand) (words : Option (List ℕ))
    → side.misses.demand ≡ Some demand → demand.sent ≡ true
    → words_here chip side demand demand.early ≡ words → SideFits chip side → SideFits chip (ordered_with chip side place demand words).side
SideFits-ordered_with chip side place demand (Some words) stands sent here is = SideFits-completed chip side demand place words stands is
SideFits-ordered_with chip side place demand None stands sent here is =
    SideFits-demand chip side demand (record demand { ordered = Some place }) stands refl
    (ordered_fits chip side demand place sent (lacks_words chip side demand (is.demand demand stands) here) (is.demand demand stands)) is

SideFits-own_get : (chip : Chip) (side : CacheSide) (place : ℕ) (q : Request) → MeetsDemand side q → SideFits chip side
    → SideFits chip (own_get chip side place side.misses.demand).side
SideFits-own_get chip side place q meets is =
    subst (λ (entry : Option Demand). SideFits chip (own_get chip side place entry).side) (sym meets.1)
    (SideFits-ordered_with chip side place meets.0 (words_here chip side meets.0 meets.0.early) meets.1 meets.2.sent refl is)

-- ---- the write-back's own request
SideFits-own_put : (chip : Chip) (side : CacheSide) (entry : Option WriteBack) → SideFits chip side
    → SideFits chip (own_put chip side entry).side
SideFits-own_put chip side None is = is
SideFits-own_put chip side (Some back) is = SideFits-given chip side is

SideFits-own : (chip : Chip) (side : CacheSide) (place : ℕ) (q : Request) (kind : Kind) → MeetsOwn side q kind → SideFits chip side
    → SideFits chip (own_request chip side place kind).side
SideFits-own chip side place q GetS meets is = SideFits-own_get chip side place q meets is
SideFits-own chip side place q GetM meets is = SideFits-own_get chip side place q meets is
SideFits-own chip side place q PutM meets is = SideFits-own_put chip side side.misses.back is

-- every request keeps the shape
pub SideFits-after_snoop : (chip : Chip) (tile : ℕ) (side : CacheSide) (place : ℕ) (q : Request) → OwnRequestFits tile side q
    → SideFits chip side → SideFits chip (after_snoop chip tile side place q).side
unfolding after_snoop
SideFits-after_snoop chip tile side place q own is =
    cond_both (q.source == tile) (own_request chip side place q.kind) (snooped_with chip q side (holding chip side q.line) q.kind)
    (λ outcome. SideFits chip outcome.side)
    (λ same. SideFits-own chip side place q q.kind (own (eqb-true q.source tile same)) is)
    (λ other. SideFits-snooped_with chip side q is)
