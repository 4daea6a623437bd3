-- The cache side of a node keeps its shape under each single change.
use Rattle.std.proofs.Common.{◌≡◌, ℕ, true, false, refl, sym, ◌∙◌, ap, subst, arith, Option, Some, None, List}
use Rattle.std.specs.Prelude.{◌==◌, is_some, if◌then◌else◌}
use Rattle.std.proofs.lemmas.Bool.Decides.{nat_tests}
use Rattle.chip_model.specs.declared.line_state.State.{State}
use Rattle.chip_model.specs.declared.line_state.State.TheVariants.{O}
use Rattle.chip_model.specs.Chip.{Chip}
use Rattle.chip_model.specs.Cache.{Held, Cache, is_shared, lookup, fits, installed, without_line}
use Rattle.chip_model.specs.Misses.{Demand, WriteBack}
use Rattle.chip_model.specs.Snoop.{CacheSide, with_demand, with_back, with_cache, line_gone, made_owned, stale_back, made_stale}
use Rattle.chip_model.specs.NodeShape.{DemandFits, SideFits}
use Rattle.snoop_core.proofs.CacheMaps.{lookup-without_line, lookup-installed, fits_held, fits-without_line, fits-installed, IsCache-without_line, IsCache-installed}

-- ---- a line leaves the cache
DemandFits-without_line : (chip : Chip) (cache : Cache) (demand : Demand) (line : ℕ) → DemandFits chip cache demand
    → DemandFits chip (without_line chip line cache) demand
DemandFits-without_line chip cache demand line is = record {
  asks = is.asks;
  line = is.line;
  room = fits-without_line chip cache line demand.line is.room;
  unmodified = grind (arith, nat_tests, lookup-without_line chip cache line demand.line, is.unmodified);
  absent = λ read. grind (arith, nat_tests, lookup-without_line chip cache line demand.line, is.absent read);
  unowned = λ ordered. grind (arith, nat_tests, lookup-without_line chip cache line demand.line, is.unowned ordered);
  unsent = is.unsent;
  waits = is.waits;
  unordered = is.unordered;
  reads = is.reads;
  writes = is.writes;
  gone = λ ends. grind (arith, nat_tests, lookup-without_line chip cache line demand.line, is.gone ends);
}

pub SideFits-without_line : (chip : Chip) (side : CacheSide) (line : ℕ) → SideFits chip side → SideFits chip (line_gone chip line side)
SideFits-without_line chip side line is = record {
  cache = IsCache-without_line chip side.cache line is.cache;
  demand = λ demand stands. DemandFits-without_line chip side.cache demand line (is.demand demand stands);
  back = λ back stands. grind (arith, nat_tests, lookup-without_line chip side.cache line back.line, is.back back stands);
  apart = is.apart;
}

-- ---- an owned copy becomes one that others share
DemandFits-owned : (chip : Chip) (cache : Cache) (demand : Demand) (line : ℕ) (held : Held) (words : List ℕ)
    → lookup chip cache line ≡ Some held → is_shared held.state ≡ false
    → DemandFits chip cache demand → DemandFits chip (installed chip (record { line = line; state = O; words = words }) cache) demand
DemandFits-owned chip cache demand line held words there owned is =
    let new : Held = record { line = line; state = O; words = words } in
    let fit : fits chip cache line ≡ true = fits_held chip cache line (ap is_some there) in
    let now : lookup chip (installed chip new cache) demand.line ≡ (if demand.line == line then Some new else lookup chip cache demand.line)
    = lookup-installed chip cache new demand.line fit in
    record {
      asks = is.asks;
      line = is.line;
      room = fits-installed chip cache new demand.line (ap is_some there) is.room;
      unmodified = grind (arith, nat_tests, now, is.unmodified);
      absent = λ read. grind (arith, nat_tests, now, there, is.absent read);
      unowned = λ ordered. grind (arith, nat_tests, now, there, owned, is.unowned ordered);
      unsent = is.unsent;
      waits = is.waits;
      unordered = is.unordered;
      reads = is.reads;
      writes = is.writes;
      gone = λ ends. grind (arith, nat_tests, now, there, is.gone ends);
    }

pub SideFits-owned : (chip : Chip) (side : CacheSide) (line : ℕ) (held : Held) (words : List ℕ) → lookup chip side.cache line ≡ Some held
    → is_shared held.state ≡ false
    → SideFits chip side → SideFits chip (made_owned chip line words side)
SideFits-owned chip side line held words there owned is =
    let new : Held = record { line = line; state = O; words = words } in
    let fit : fits chip side.cache line ≡ true = fits_held chip side.cache line (ap is_some there) in
    record {
      cache = IsCache-installed chip side.cache new fit is.cache;
      demand = λ demand stands. DemandFits-owned chip side.cache demand line held words there owned (is.demand demand stands);
      back = λ back stands. grind (arith, nat_tests, lookup-installed chip side.cache new back.line fit, there, is.back back stands);
      apart = is.apart;
    }

-- ---- the demand changes, but not its line; it ends
pub SideFits-demand : (chip : Chip) (side : CacheSide) (demand new : Demand) → side.misses.demand ≡ Some demand → new.line ≡ demand.line
    → DemandFits chip side.cache new
    → SideFits chip side → SideFits chip (with_demand (Some new) side)
SideFits-demand chip side demand new stands line fit is = record {
  cache = is.cache;
  demand = λ d now. let same : new ≡ d = cc in subst (λ (x : Demand). DemandFits chip side.cache x) same fit;
  back = is.back;
  apart = λ d back now write_back_is. let same : new ≡ d = cc in
      let apart : (demand.line == back.line) ≡ false = is.apart demand back stands write_back_is in
      subst (λ (x : Demand). (x.line == back.line) ≡ false) same (subst (λ (n : ℕ). (n == back.line) ≡ false) (sym line) apart);
}

pub SideFits-served : (chip : Chip) (side : CacheSide) → SideFits chip side → SideFits chip (with_demand None side)
SideFits-served chip side is = record {
  cache = is.cache;
  demand = λ demand now. cc;
  back = is.back;
  apart = λ demand back now stands. cc;
}

-- ---- the words of a demand come into the cache
pub SideFits-installed : (chip : Chip) (side : CacheSide) (demand : Demand) (state : State) (words : List ℕ)
    → side.misses.demand ≡ Some demand
    → SideFits chip side → SideFits chip
    (with_demand None (with_cache (installed chip (record { line = demand.line; state = state; words = words }) side.cache) side))
SideFits-installed chip side demand state words stands is =
    let new : Held = record { line = demand.line; state = state; words = words } in
    let fit : fits chip side.cache demand.line ≡ true = (is.demand demand stands).room in
    record {
      cache = IsCache-installed chip side.cache new fit is.cache;
      demand = λ d now. cc;
      back = λ back write_back_is. grind (
        arith,
        nat_tests,
        lookup-installed chip side.cache new back.line fit,
        is.back back write_back_is,
        is.apart demand back stands
            write_back_is,
      );
      apart = λ d back now write_back_is. cc;
    }

-- ---- the write-back becomes stale, or ends
pub stale_some : (before : Option WriteBack) (back : WriteBack) → stale_back before ≡ Some back
    → (old : WriteBack) × (before ≡ Some old) × (back.line ≡ old.line)
stale_some None back is = cc
stale_some (Some old) back is = (old, refl, cc)

pub SideFits-stale : (chip : Chip) (side : CacheSide) → SideFits chip side → SideFits chip (made_stale side)
SideFits-stale chip side is = record {
  cache = is.cache;
  demand = is.demand;
  back = λ back now. let was = stale_some side.misses.back back now in
      ap (λ (line : ℕ). lookup chip side.cache line) was.2 ∙ is.back was.0 was.1;
  apart = λ demand back stands now. let was = stale_some side.misses.back back now in
      ap (λ (line : ℕ). demand.line == line) was.2 ∙ is.apart demand was.0 stands was.1;
}

pub SideFits-given : (chip : Chip) (side : CacheSide) → SideFits chip side → SideFits chip (with_back None side)
SideFits-given chip side is = record {
  cache = is.cache;
  demand = is.demand;
  back = λ back now. cc;
  apart = λ demand back stands now. cc;
}
