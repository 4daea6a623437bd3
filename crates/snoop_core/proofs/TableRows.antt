-- The rows of the snoop table, by what the code tells of a node and a line.
use Rattle.std.proofs.Common.{◌≡◌, ◌⊎◌, ℕ, Bool, true, false, refl, sym, ◌∙◌, ap, subst, arith, Option, Some, None, List}
use Rattle.std.specs.Prelude.{◌<◌, is_some, IsTrue, length, option_map}
use Rattle.std.proofs.lemmas.Bool.Decides.{nat_tests}
use Rattle.mesh_gen.specs.declared.kind.Kind.{Kind}
use Rattle.mesh_gen.specs.declared.kind.Kind.TheVariants.{GetS, GetM, PutM}
use Rattle.mesh_gen.specs.declared.request.Request.{Request}
use Rattle.chip_model.specs.declared.line_state.State.{State}
use Rattle.chip_model.specs.Chip.{Chip}
use Rattle.chip_model.specs.Cache.{Cache, is_shared, lookup}
use Rattle.chip_model.specs.Misses.{Demand, WriteBack, Misses, is_getm, ends_in_getm}
use Rattle.chip_model.specs.Snoop.{CacheSide, Outcome, Holding as ModelHolding, OwnedCopy as HasOwnedCopy, LiveBack as HasLiveBack, OpenWrite as HasOpenWrite, OpenRead as HasOpenRead, SharedCopy as HasSharedCopy, Nothing as HasNothing, holding_demand, holding_unowned, live_for, ordered_for, holding, snooped_with}
use Rattle.chip_model.specs.NodeShape.{SideFits}
use Rattle.line_cache.specs.Sets.{HasSets, Fits, copy_of}
use Rattle.miss_table.specs.declared.look.DemandLook.{DemandLook}
use Rattle.miss_table.specs.declared.look.BackLook.{BackLook}
use Rattle.miss_table.specs.Table.{Holds, IsLive, IsOrderedRead, TakesOneMore}
use Rattle.miss_table.specs.Looks.{demand_look, back_look}
use Rattle.snoop_core.specs.declared.snoop.Holding.{Holding}
use Rattle.snoop_core.specs.declared.snoop.Holding.TheVariants.{OwnedCopy, LiveBack, OpenWrite, OpenRead, SharedCopy, Nothing}
use Rattle.snoop_core.specs.ChipSides.{ChipSide, after_outcome, met_by}
use Rattle.snoop_core.specs.Holdings.{told}
use Rattle.snoop_core.proofs.CacheMaps.{fits_held}
use Rattle.snoop_core.proofs.HoldingCases.{holding_forms, IsLiveBack, live_is, holding_open_write, holding_open_read}
use Rattle.snoop_core.proofs.OwnRequests.{is_gets}
use Rattle.snoop_core.proofs.Completing.{left}
use Rattle.snoop_core.proofs.Seen.{sees_demand, sees_back}

-- ---- by the write-back or the demand that stands
pub live_here : (entry : Option WriteBack) (line : ℕ) (look : BackLook) → option_map back_look entry ≡ Some look → look.live ≡ true → look.line ≡ line
    → (back : WriteBack) × (live_for line entry ≡ Some back) × (back.words ≡ look.words)
live_here entry line look is live at =
    let seen = sees_back entry look is in
    let own : seen.back.line ≡ line = ap (λ (l : BackLook). l.line) seen.looks ∙ at in
    let lives : seen.back.live ≡ true = ap (λ (l : BackLook). l.live) seen.looks ∙ live in
    let some : live_for line (Some seen.back) ≡ Some seen.back = grind (arith, nat_tests, own, lives) in
    (seen.back, ap (live_for line) seen.stands ∙ some, ap (λ (l : BackLook). l.words) seen.looks)

pub not_live_here : (entry : Option WriteBack) (line : ℕ) (look : BackLook) → option_map back_look entry ≡ Some look
    → ((look.live ≡ true) × (look.line ≡ line → ⊥)) ⊎ (look.live ≡ false) → live_for line entry ≡ None
not_live_here entry line look is apart =
    let seen = sees_back entry look is in
    let own : seen.back.line ≡ look.line = ap (λ (l : BackLook). l.line) seen.looks in
    let lives : seen.back.live ≡ look.live = ap (λ (l : BackLook). l.live) seen.looks in
    ap (live_for line) seen.stands ∙ grind (arith, nat_tests, own, lives)

pub ordered_here : (entry : Option Demand) (line : ℕ) (look : DemandLook) → option_map demand_look entry ≡ Some look → is_some look.ordered ≡ true → look.line ≡ line
    → (demand : Demand) × (ordered_for line entry ≡ Some demand) × (demand_look demand ≡ look)
ordered_here entry line look is placed at =
    let seen = sees_demand entry look is in
    let own : seen.demand.line ≡ line = ap (λ (l : DemandLook). l.line) seen.looks ∙ at in
    let ordered : is_some seen.demand.ordered ≡ true = ap (λ (l : DemandLook). is_some l.ordered) seen.looks ∙ placed in
    let some : ordered_for line (Some seen.demand) ≡ Some seen.demand = grind (arith, nat_tests, own, ordered) in
    (seen.demand, ap (ordered_for line) seen.stands ∙ some, seen.looks)

pub not_ordered_here : (entry : Option Demand) (line : ℕ) (look : DemandLook) → option_map demand_look entry ≡ Some look
    → ((is_some look.ordered ≡ true) × (look.line ≡ line → ⊥)) ⊎ (is_some look.ordered ≡ false) → ordered_for line entry ≡ None
not_ordered_here entry line look is apart =
    let seen = sees_demand entry look is in
    let own : seen.demand.line ≡ look.line = ap (λ (l : DemandLook). l.line) seen.looks in
    let ordered : is_some seen.demand.ordered ≡ is_some look.ordered = ap (λ (l : DemandLook). is_some l.ordered) seen.looks in
    ap (ordered_for line) seen.stands ∙ grind (arith, nat_tests, own, ordered)

-- what is told where a live write-back counts, and where none does
pub told_back : (shared : Bool) (live : Option WriteBack) (demand : Option Demand) (back : WriteBack) (words : List ℕ) → live ≡ Some back → back.words ≡ words
    → LiveBack words ≡ told (holding_unowned shared live demand)
told_back shared live demand back words stands is =
    ap LiveBack (sym is) ∙ ap (λ (l : Option WriteBack). told (holding_unowned shared l demand)) (sym stands)

pub told_past_back : (shared : Bool) (live : Option WriteBack) (demand : Option Demand) (answer : Holding) → live ≡ None
    → answer ≡ told (holding_unowned shared None demand) → answer ≡ told (holding_unowned shared live demand)
told_past_back shared live demand answer none is = is ∙ ap (λ (l : Option WriteBack). told (holding_unowned shared l demand)) (sym none)

pub told_demand : (shared : Bool) (entry : Option Demand) (demand : Demand) (answer : Holding) → entry ≡ Some demand
    → answer ≡ told (holding_demand demand) → answer ≡ told (holding_unowned shared None entry)
told_demand shared entry demand answer stands is = is ∙ ap (λ (d : Option Demand). told (holding_unowned shared None d)) (sym stands)

pub told_copy : (shared : Bool) (entry : Option Demand) (answer : Holding) → entry ≡ None
    → answer ≡ told (holding_unowned shared None None) → answer ≡ told (holding_unowned shared None entry)
told_copy shared entry answer none is = is ∙ ap (λ (d : Option Demand). told (holding_unowned shared None d)) (sym none)

-- ---- by the copy
pub holds_owned : (chip : Chip) (side : CacheSide) (line : ℕ) (copy : State × List ℕ) → lookup chip side.cache line ≡ Some (copy_of line copy) → is_shared copy.0 ≡ false
    → OwnedCopy copy.1 ≡ told (holding chip side line)
unfolding holding
holds_owned chip side line copy there owned = rw (there, owned) refl

pub holds_shared : (chip : Chip) (side : CacheSide) (line : ℕ) (copy : State × List ℕ) → lookup chip side.cache line ≡ Some (copy_of line copy) → is_shared copy.0 ≡ true
    → holding_unowned true (live_for line side.misses.back) (ordered_for line side.misses.demand) ≡ holding chip side line
unfolding holding
holds_shared chip side line copy there shared = rw (there, shared) refl

pub holds_none : (chip : Chip) (side : CacheSide) (line : ℕ) → lookup chip side.cache line ≡ None
    → holding_unowned false (live_for line side.misses.back) (ordered_for line side.misses.demand) ≡ holding chip side line
unfolding holding
holds_none chip side line absent = rw absent refl

-- ---- what is told stands
pub told_owned : (h : ModelHolding) (words : List ℕ) → told h ≡ OwnedCopy words → h ≡ HasOwnedCopy words
told_owned (HasOwnedCopy w) words is = cc
told_owned (HasLiveBack w) words is = cc
told_owned (HasOpenWrite demand) words is = cc
told_owned (HasOpenRead demand) words is = cc
told_owned HasSharedCopy words is = cc
told_owned HasNothing words is = cc

pub told_live : (h : ModelHolding) (words : List ℕ) → told h ≡ LiveBack words → h ≡ HasLiveBack words
told_live (HasOwnedCopy w) words is = cc
told_live (HasLiveBack w) words is = cc
told_live (HasOpenWrite demand) words is = cc
told_live (HasOpenRead demand) words is = cc
told_live HasSharedCopy words is = cc
told_live HasNothing words is = cc

pub told_write : (h : ModelHolding) → told h ≡ OpenWrite → (demand : Demand) × (h ≡ HasOpenWrite demand)
told_write (HasOwnedCopy w) is = cc
told_write (HasLiveBack w) is = cc
told_write (HasOpenWrite demand) is = (demand, refl)
told_write (HasOpenRead demand) is = cc
told_write HasSharedCopy is = cc
told_write HasNothing is = cc

pub told_read : (h : ModelHolding) → told h ≡ OpenRead → (demand : Demand) × (h ≡ HasOpenRead demand)
told_read (HasOwnedCopy w) is = cc
told_read (HasLiveBack w) is = cc
told_read (HasOpenWrite demand) is = cc
told_read (HasOpenRead demand) is = (demand, refl)
told_read HasSharedCopy is = cc
told_read HasNothing is = cc

pub told_shared : (h : ModelHolding) → told h ≡ SharedCopy → h ≡ HasSharedCopy
told_shared (HasOwnedCopy w) is = cc
told_shared (HasLiveBack w) is = cc
told_shared (HasOpenWrite demand) is = cc
told_shared (HasOpenRead demand) is = cc
told_shared HasSharedCopy is = refl
told_shared HasNothing is = cc

pub told_nothing : (h : ModelHolding) → told h ≡ Nothing → h ≡ HasNothing
told_nothing (HasOwnedCopy w) is = cc
told_nothing (HasLiveBack w) is = cc
told_nothing (HasOpenWrite demand) is = cc
told_nothing (HasOpenRead demand) is = cc
told_nothing HasSharedCopy is = cc
told_nothing HasNothing is = refl

-- ---- a test by its value
pub test_of : (result test : Bool) (P : Type 0) → result ≡ test → ((result ≡ true) × P) ⊎ (result ≡ false) → ((test ≡ true) × P) ⊎ (test ≡ false)
test_of result test P same either = subst (λ (b : Bool). ((b ≡ true) × P) ⊎ (b ≡ false)) same either

-- ---- what is told is known of the cache and the misses
pub owned_fits : (chip : Chip) (side : CacheSide) (line : ℕ) (words : List ℕ) → HasSets chip side.cache → told (holding chip side line) ≡ OwnedCopy words → Fits side.cache line
owned_fits chip side line words sets is =
    let there : is_some (lookup chip side.cache line) ≡ true = holding_forms chip side line (λ h. h ≡ HasOwnedCopy words → is_some (lookup chip side.cache line) ≡ true) (record {
      owned = λ held here owned same. ap is_some here;
      live = λ copy b lives same. cc;
      write = λ copy back d here writes goes_on same. cc;
      read = λ copy back d here reads same. cc;
      ended = λ copy back d here writes ends same. cc;
      shared = λ copy back none same. cc;
      absent = λ copy back none same. cc;
    }) (told_owned (holding chip side line) words is) in
    (chip, sets, fits_held chip side.cache line there)

live_stands : (chip : Chip) (side : CacheSide) (line : ℕ) (words : List ℕ) → holding chip side line ≡ HasLiveBack words → (back : WriteBack) × IsLiveBack line side.misses.back back
live_stands chip side line words = holding_forms chip side line (λ h. h ≡ HasLiveBack words → (back : WriteBack) × IsLiveBack line side.misses.back back) (record {
  owned = λ held here owned same. cc;
  live = λ copy b lives same. (b, live_is line side.misses.back b lives);
  write = λ copy back d here writes goes_on same. cc;
  read = λ copy back d here reads same. cc;
  ended = λ copy back d here writes ends same. cc;
  shared = λ copy back none same. cc;
  absent = λ copy back none same. cc;
})

pub holds_live : (chip : Chip) (side : CacheSide) (line : ℕ) (words : List ℕ) → told (holding chip side line) ≡ LiveBack words → Holds IsLive side.misses.back
holds_live chip side line words is =
    let live = live_stands chip side line words (told_live (holding chip side line) words is) in
    subst (λ (back : Option WriteBack). Holds IsLive back) (sym live.1.stands) live.1.live

asks_to_write : (kind : Kind) → is_getm kind ≡ true → kind ≡ GetM
asks_to_write GetM is = refl
asks_to_write GetS is = cc
asks_to_write PutM is = cc

not_true : (b : Bool) → b ≡ false → ¬ IsTrue b
not_true b is = λ so. let both : true ≡ false = sym so ∙ is in cc

pub takes_one_more : (chip : Chip) (side : CacheSide) (line : ℕ) (demand : Demand) (places : ℕ) → holding chip side line ≡ HasOpenWrite demand → length demand.list < places
    → Holds (λ (d : Demand). TakesOneMore d places) side.misses.demand
takes_one_more chip side line demand places is room =
    let open_write = holding_open_write chip side line demand is in
    subst (λ (entry : Option Demand). Holds (λ (d : Demand). TakesOneMore d places) entry) (sym open_write.stands) (record {
      ordered = open_write.ordered;
      write = asks_to_write demand.kind open_write.writes;
      space = room;
      open_end = not_true (ends_in_getm demand.list) open_write.goes_on;
    })

pub holds_read : (chip : Chip) (side : CacheSide) (line : ℕ) (demand : Demand) → SideFits chip side → holding chip side line ≡ HasOpenRead demand → Holds IsOrderedRead side.misses.demand
holds_read chip side line demand fit is =
    let open_read = holding_open_read chip side line demand is in
    subst (λ (entry : Option Demand). Holds IsOrderedRead entry) (sym open_read.stands) (record {
      ordered = open_read.ordered;
      read = is_gets chip side.cache demand (fit.demand demand open_read.stands) open_read.reads;
    })

-- ---- what the rows leave
pub row : (q : Request) (site : ChipSide) (h : ModelHolding) (k : Kind) → holding site.chip site.side q.line ≡ h → q.kind ≡ k → met_by q site ≡ snooped_with site.chip q site.side h k
row q site h k is kind =
    ap (λ (x : ModelHolding). snooped_with site.chip q site.side x q.kind) is ∙ ap (λ (x : Kind). snooped_with site.chip q site.side h x) kind

-- the demand changes, and perhaps the cache
pub demand_left : (old : ChipSide) (chip : Chip) (cache now : Cache) (misses new : Misses) (demand : Demand) (change : Demand → Demand) (outcome : Outcome)
    → record { chip = chip; side = record { cache = cache; misses = misses } } ≡ old → old.side.misses.demand ≡ Some demand → new ≡ record misses { demand = option_map change misses.demand }
    → outcome.side ≡ record { cache = now; misses = record old.side.misses { demand = Some (change demand) } }
    → record { chip = chip; side = record { cache = now; misses = new } } ≡ after_outcome outcome old
demand_left old chip cache now misses new demand change outcome is stands changed leaves =
    let here : misses.demand ≡ Some demand = ap (λ (site : ChipSide). site.side.misses.demand) is ∙ stands in
    left old chip (record { cache = cache; misses = misses }) (record { cache = now; misses = new }) outcome is
    (ap (λ (m : Misses). record { cache = now; misses = m })
    (changed ∙ ap (λ (d : Option Demand). record misses { demand = option_map change d }) here ∙ ap (λ (site : ChipSide). record site.side.misses { demand = Some (change demand) }) is)
    ∙ sym leaves)

pub kept_cache : (before now : Cache) (misses : Misses) → now ≡ before → ◌≡◌ {A = CacheSide} (record { cache = before; misses = misses }) (record { cache = now; misses = misses })
kept_cache before now misses same = ap (λ (cache : Cache). record { cache = cache; misses = misses }) (sym same)
