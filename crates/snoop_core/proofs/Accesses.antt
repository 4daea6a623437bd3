-- An access of the core: what it leaves of the cache side, case by case, and that it keeps its shape.
use Rattle.std.proofs.Common.{◌≡◌, ℕ, Bool, true, false, refl, sym, ◌∙◌, ap, subst, arith, Option, Some, None, List}
use Rattle.std.specs.Prelude.{◌==◌, ◌||◌, not, is_some, if◌then◌else◌}
use Rattle.std.proofs.lemmas.Bool.{not-true}
use Rattle.std.proofs.lemmas.Bool.Decides.{nat_tests}
use Rattle.std.proofs.lemmas.Option.{same_Some}
use Rattle.mesh_gen.specs.declared.kind.Kind.TheVariants.{GetS, GetM}
use Rattle.report_text.specs.declared.access.AccessKind.{AccessKind}
use Rattle.report_text.specs.declared.access.AccessKind.TheVariants.{Load, Store, Swap, Add}
use Rattle.report_text.specs.Accesses.{writes}
use Rattle.chip_model.specs.declared.pending.Pending.{Pending}
use Rattle.chip_model.specs.declared.line_state.State.{State}
use Rattle.chip_model.specs.declared.line_state.State.TheVariants.{M, O, S}
use Rattle.chip_model.specs.Chip.{Chip, line_of}
use Rattle.chip_model.specs.Cache.{Held, Cache, lookup, has_room, fits, installed, without_line, without_shared, lowest_for}
use Rattle.chip_model.specs.Misses.{Demand, WriteBack, Misses, is_written_back, request_for, new_demand, new_back, sent_demand, marked_sent}
use Rattle.chip_model.specs.Snoop.{CacheSide, with_demand, with_back, with_cache, written_by}
use Rattle.chip_model.specs.Node.{Node, Performed, has_entry, holds_back, with_side, load_hit, demand_started, back_started, victim_evicted, missed, unless_written_back, store_to, accessed_with, node_after_access}
use Rattle.chip_model.specs.NodeShape.{IsCache, is_modified_state, is_modified, DemandFits, SideFits}
use Rattle.snoop_core.proofs.DemandStages.{staged}
use Rattle.snoop_core.proofs.Options.{none_some, when_some}
use Rattle.snoop_core.proofs.CacheMaps.{DropsShared, drops_shared, PutsBack, puts_back, lookup-line, lookup-without_line, lookup-installed, fits_held, fits_room, IsCache-without_line, IsCache-installed}
use Rattle.snoop_core.proofs.Sending.{sent_forms}

-- a demand that an access starts
abbrev pub started_by : Pending → Demand
started_by access = new_demand (request_for access.kind) (line_of access.address) access

-- what an access leaves of the node
pub record AccessForms (node : Node) (line : ℕ) (P : Node → Type 0) : Type 0 where
  pub hit : P node
  pub wrote : (held : Held) → lookup node.chip node.side.cache line ≡ Some held → held.state ≡ M → (words : List ℕ)
      → P (with_side (with_cache (installed node.chip (record held { words = words }) node.side.cache) node.side) node)
  pub missed : (access : Pending) → line_of access.address ≡ line → is_written_back line node.side.misses.back ≡ false
      → lookup node.chip node.side.cache line ≡ None → has_room node.chip node.side.cache line ≡ true
      → P (with_side (with_demand (Some (started_by access)) node.side) node)
  pub upgraded : (access : Pending) → line_of access.address ≡ line → is_written_back line node.side.misses.back ≡ false
      → writes access.kind ≡ true → (held : Held) → lookup node.chip node.side.cache line ≡ Some held
      → is_modified (Some held) ≡ false
      → P (with_side (with_demand (Some (started_by access)) node.side) node)
  pub made_room : (access : Pending) → line_of access.address ≡ line → is_written_back line node.side.misses.back ≡ false
      → lookup node.chip node.side.cache line ≡ None → (cache : Cache) → DropsShared node.chip line node.side.cache cache
      → P (with_side (with_demand (Some (started_by access)) (with_cache cache node.side)) node)
  pub put_back : (held : Held) → PutsBack node.chip node.side.cache held → holds_back node.out ≡ false → node.side.misses.back ≡ None
      → P (with_side (with_back (Some (new_back held.line held.words))
      (with_cache (without_line node.chip held.line node.side.cache) node.side)) node)

none_stands : {X : Type 0} (entry : Option X) → is_some entry ≡ false → entry ≡ None
none_stands None none = refl
none_stands (Some x) none = cc

neither : (a b : Bool) → not (a || b) ≡ true → (a ≡ false) × (b ≡ false)
neither false false free = (refl, refl)
neither false true free = cc
neither true b free = cc

back_forms : (node : Node) (line : ℕ) (low : Option Held) (performed : Performed) (P : Node → Type 0) → IsCache node.chip node.side.cache
    → has_room node.chip node.side.cache line ≡ false
    → without_shared node.chip line node.side.cache ≡ None → lowest_for node.chip line node.side.cache ≡ low → AccessForms node line P
    → back_started node low ≡ Some performed → P performed.0
back_forms node line None performed P cache full unshared low forms is = cc
back_forms node line (Some held) performed P cache full unshared low forms is =
    when_some (not (holds_back node.out || is_some node.side.misses.back)) _ performed is (λ free same.
    let both = neither (holds_back node.out) (is_some node.side.misses.back) free in
    subst (λ (p : Performed). P p.0) (same_Some _ performed same)
    (forms.put_back held (puts_back node.chip line node.side.cache held cache full unshared low) both.0 (none_stands node.side.misses.back both.1)))

room_forms : (access : Pending) (node : Node) (freed : Option Cache) (performed : Performed) (P : Node → Type 0)
    → IsCache node.chip node.side.cache → is_written_back (line_of access.address) node.side.misses.back ≡ false
    → lookup node.chip node.side.cache (line_of access.address) ≡ None → has_room node.chip node.side.cache (line_of access.address) ≡ false
    → without_shared node.chip (line_of access.address) node.side.cache ≡ freed → AccessForms node (line_of access.address) P
    → victim_evicted access node freed ≡ Some performed → P performed.0
room_forms access node (Some new) performed P cache apart absent full freed forms is =
    subst (λ (p : Performed). P p.0) (same_Some _ performed is)
    (forms.made_room access refl apart absent new (drops_shared node.chip (line_of access.address) node.side.cache new cache freed))
room_forms access node None performed P cache apart absent full freed forms is =
    back_forms node (line_of access.address) (lowest_for node.chip (line_of access.address) node.side.cache) performed P cache full freed refl forms is

missed_forms : (access : Pending) (node : Node) (b : Bool) (performed : Performed) (P : Node → Type 0)
    → IsCache node.chip node.side.cache → is_written_back (line_of access.address) node.side.misses.back ≡ false
    → lookup node.chip node.side.cache (line_of access.address) ≡ None → has_room node.chip node.side.cache (line_of access.address) ≡ b
    → AccessForms node (line_of access.address) P
    → (if b then Some (demand_started access node.side node) else victim_evicted access node (without_shared node.chip (line_of access.address) node.side.cache))
    ≡ Some performed
    → P performed.0
missed_forms access node true performed P cache apart absent room forms is =
    subst (λ (p : Performed). P p.0) (same_Some _ performed is) (forms.missed access refl apart absent room)
missed_forms access node false performed P cache apart absent full forms is =
    room_forms access node
    (without_shared node.chip (line_of access.address) node.side.cache) performed P cache apart absent full refl forms is

-- a miss is of another line than the one that is written back
apart_forms : (access : Pending) (node : Node) (miss : Option Performed) (performed : Performed) (P : Type 0)
    → (is_written_back (line_of access.address) node.side.misses.back ≡ false → miss ≡ Some performed → P)
    → unless_written_back access node miss ≡ Some performed → P
apart_forms access node miss performed P forms is =
    when_some (not (is_written_back (line_of access.address) node.side.misses.back)) miss performed is (λ free done.
    forms (not-true (is_written_back (line_of access.address) node.side.misses.back) free) done)

upgraded_forms : (access : Pending) (held : Held) (node : Node) (performed : Performed) (P : Node → Type 0) → writes access.kind ≡ true
    → is_modified (Some held) ≡ false → lookup node.chip node.side.cache (line_of access.address) ≡ Some held
    → AccessForms node (line_of access.address) P
    → unless_written_back access node (Some (demand_started access node.side node)) ≡ Some performed → P performed.0
upgraded_forms access held node performed P changes unmodified there forms is =
    apart_forms access node (Some (demand_started access node.side node)) performed (P performed.0) (λ apart done.
    subst (λ (p : Performed). P p.0) (same_Some _ performed done) (forms.upgraded access refl apart changes held there unmodified)) is

stored_forms : (access : Pending) (held : Held) (node : Node) (state : State) (performed : Performed) (P : Node → Type 0) → writes access.kind ≡ true
    → held.state ≡ state → lookup node.chip node.side.cache (line_of access.address) ≡ Some held
    → AccessForms node (line_of access.address) P → store_to access held node state ≡ Some performed → P performed.0
stored_forms access held node M performed P changes state there forms is =
    subst (λ (p : Performed). P p.0) (same_Some _ performed is) (forms.wrote held there state (written_by access held.words))
stored_forms access held node O performed P changes state there forms is =
    upgraded_forms access held node performed P changes (ap is_modified_state state) there forms is
stored_forms access held node S performed P changes state there forms is =
    upgraded_forms access held node performed P changes (ap is_modified_state state) there forms is

held_forms : (access : Pending) (node : Node) (held : Held) (b : Bool) (performed : Performed) (P : Node → Type 0) → writes access.kind ≡ b
    → lookup node.chip node.side.cache (line_of access.address) ≡ Some held → AccessForms node (line_of access.address) P
    → (if b then store_to access held node held.state else Some (load_hit access held node)) ≡ Some performed → P performed.0
held_forms access node held true performed P changes there forms is = stored_forms access held node held.state performed P changes refl there forms is
held_forms access node held false performed P changes there forms is = subst (λ (p : Performed). P p.0) (same_Some _ performed is) forms.hit

accessed_forms : (access : Pending) (node : Node) (copy : Option Held) (performed : Performed) (P : Node → Type 0)
    → IsCache node.chip node.side.cache
    → lookup node.chip node.side.cache (line_of access.address) ≡ copy → AccessForms node (line_of access.address) P
    → accessed_with access node copy ≡ Some performed → P performed.0
accessed_forms access node None performed P cache absent forms is =
    apart_forms access node (missed access node) performed (P performed.0) (λ apart done.
    missed_forms access node (has_room node.chip node.side.cache (line_of access.address)) performed P cache apart absent refl forms done) is
accessed_forms access node (Some held) performed P cache there forms is =
    held_forms access node held (writes access.kind) performed P refl there forms is

pub access_forms : (access : Pending) (node : Node) (performed : Performed) (P : Node → Type 0)
    → IsCache node.chip node.side.cache
    → AccessForms node (line_of access.address) P → node_after_access access node ≡ Some performed → P performed.0
unfolding node_after_access
access_forms access node performed P cache forms is =
    when_some (not (has_entry node))
    (accessed_with access node (lookup node.chip node.side.cache (line_of access.address))) performed is (λ free done.
    accessed_forms access node (lookup node.chip node.side.cache (line_of access.address)) performed P cache refl forms done)

-- ---- an access is done where no other one waits
pub accessed_free : (access : Pending) (node : Node) (performed : Performed)
    → node_after_access access node ≡ Some performed → node.side.misses.demand ≡ None
unfolding node_after_access
accessed_free access node performed is =
    when_some (not (has_entry node))
    (accessed_with access node (lookup node.chip node.side.cache (line_of access.address))) performed is (λ free done.
    none_stands node.side.misses.demand (not-true (has_entry node) free))

-- ---- a demand that starts
asks_to_write : (kind : AccessKind) → writes kind ≡ true → request_for kind ≡ GetM
asks_to_write Load changes = cc
asks_to_write Store changes = refl
asks_to_write Swap changes = refl
asks_to_write Add changes = refl

apart_from : (line : ℕ) (entry : Option WriteBack) (back : WriteBack) → is_written_back line entry ≡ false → entry ≡ Some back
    → (line == back.line) ≡ false
apart_from line None back apart stands = cc
apart_from line (Some b) back apart stands = subst (λ (x : WriteBack). (line == x.line) ≡ false) (same_Some b back stands) apart

pub SideFits-started : (chip : Chip) (side : CacheSide) (cache : Cache) (access : Pending)
    → is_written_back (line_of access.address) side.misses.back ≡ false
    → ((back : WriteBack) → side.misses.back ≡ Some back → lookup chip cache back.line ≡ None)
    → IsCache chip cache → fits chip cache (line_of access.address) ≡ true
    → is_modified (lookup chip cache (line_of access.address)) ≡ false
    → (request_for access.kind ≡ GetS → lookup chip cache (line_of access.address) ≡ None)
    → SideFits chip (with_demand (Some (started_by access)) (with_cache cache side))
SideFits-started chip side cache access apart gone is fit unmodified absent =
    let fresh : DemandFits chip cache (started_by access) = record {
      asks = refl;
      line = refl;
      room = fit;
      unmodified = unmodified;
      absent = absent;
      unowned = λ ordered. cc;
      unsent = λ unsent. (refl, refl);
      waits = λ ordered. refl;
      unordered = λ unordered. (refl, refl);
      reads = λ read. refl;
      writes = λ write. refl;
      gone = λ ends. cc;
    } in record {
      cache = is;
      demand = λ demand stands. let same : started_by access ≡ demand = cc in
          subst (λ (d : Demand). DemandFits chip cache d) same fresh;
      back = gone;
      apart = λ demand back stands write_back_is. let same : started_by access ≡ demand = cc in
          subst (λ (d : Demand). (d.line == back.line) ≡ false) same
          (apart_from (line_of access.address) side.misses.back back apart write_back_is);
    }

-- ---- a line that is written back
SideFits-put : (chip : Chip) (side : CacheSide) (held : Held) → side.misses.demand ≡ None → SideFits chip side
    → SideFits chip (with_back (Some (new_back held.line held.words)) (with_cache (without_line chip held.line side.cache) side))
SideFits-put chip side held none is = record {
  cache = IsCache-without_line chip side.cache held.line is.cache;
  demand = λ demand stands. absurd (none_some side.misses.demand demand none stands);
  back = λ back stands. let same : new_back held.line held.words ≡ back = cc in
      subst (λ (b : WriteBack). lookup chip (without_line chip held.line side.cache) b.line ≡ None) same
      (grind (arith, nat_tests, lookup-without_line chip side.cache held.line held.line));
  apart = λ demand back stands write_back_is. absurd (none_some side.misses.demand demand none stands);
}

-- ---- a copy that is written
SideFits-wrote : (chip : Chip) (side : CacheSide) (line : ℕ) (held : Held) (words : List ℕ) → side.misses.demand ≡ None
    → lookup chip side.cache line ≡ Some held
    → SideFits chip side → SideFits chip (with_cache (installed chip (record held { words = words }) side.cache) side)
SideFits-wrote chip side line held words no_demand there is =
    let same : held.line ≡ line = lookup-line chip side.cache line held there in
    let at : lookup chip side.cache held.line ≡ Some held = ap (λ (l : ℕ). lookup chip side.cache l) same ∙ there in
    let fit : fits chip side.cache held.line ≡ true = fits_held chip side.cache held.line (ap is_some at) in
    record {
      cache = IsCache-installed chip side.cache (record held { words = words }) fit is.cache;
      demand = λ demand stands. absurd (none_some side.misses.demand demand no_demand stands);
      back = λ back stands. grind (arith, nat_tests, lookup-installed chip side.cache (record held { words = words }) back.line fit, at, is.back back stands);
      apart = λ demand back stands write_back_is. absurd (none_some side.misses.demand demand no_demand stands);
    }

-- without the shared line that makes room the missed line is still absent
absent_still : (chip : Chip) (line : ℕ) (cache new : Cache) → DropsShared chip line cache new → lookup chip cache line ≡ None
    → lookup chip new line ≡ None
absent_still chip line cache new drops absent =
    ap (λ (c : Cache). lookup chip c line) drops.dropped
    ∙ grind (arith, nat_tests, lookup-without_line chip cache drops.was.line line, absent)

cache_still : (chip : Chip) (line : ℕ) (cache new : Cache) → DropsShared chip line cache new → IsCache chip cache → IsCache chip new
cache_still chip line cache new drops is = subst (λ (c : Cache). IsCache chip c) (sym drops.dropped)
    (IsCache-without_line chip cache drops.was.line is)

back_still : (chip : Chip) (side : CacheSide) (line : ℕ) (new : Cache) → DropsShared chip line side.cache new → SideFits chip side
    → (back : WriteBack) → side.misses.back ≡ Some back → lookup chip new back.line ≡ None
back_still chip side line new drops is back stands =
    ap (λ (c : Cache). lookup chip c back.line) drops.dropped
    ∙ grind (arith, nat_tests, lookup-without_line chip side.cache drops.was.line back.line, is.back back stands)

-- an access keeps the shape
pub SideFits-node_after_access : (access : Pending) (node : Node) (performed : Performed)
    → node_after_access access node ≡ Some performed
    → SideFits node.chip node.side → SideFits performed.0.chip performed.0.side
SideFits-node_after_access access node performed done is =
    let free = accessed_free access node performed done in
    let chip = node.chip in
    let cache = node.side.cache in
    let back = node.side.misses.back in
    access_forms access node performed (λ after. SideFits after.chip after.side) is.cache (record {
      hit = is;
      wrote = λ held there modified words. SideFits-wrote chip node.side (line_of access.address) held words free there is;
      missed = λ a line apart absent room. SideFits-started chip node.side cache a
          (ap (λ (l : ℕ). is_written_back l back) line ∙ apart) is.back is.cache
          (fits_room chip cache (line_of a.address) (ap (λ (l : ℕ). has_room chip cache l) line ∙ room))
          (ap (λ (l : ℕ). is_modified (lookup chip cache l)) line ∙ ap is_modified absent)
          (λ read. ap (λ (l : ℕ). lookup chip cache l) line ∙ absent);
      upgraded = λ a line apart changes held there unmodified. SideFits-started chip node.side cache a
          (ap (λ (l : ℕ). is_written_back l back) line ∙ apart) is.back is.cache
          (fits_held chip cache (line_of a.address)
          (ap (λ (l : ℕ). is_some (lookup chip cache l)) line ∙ ap is_some there))
          (ap (λ (l : ℕ). is_modified (lookup chip cache l)) line ∙ ap is_modified there ∙ unmodified)
          (λ read. let both : GetS ≡ GetM = sym read ∙ asks_to_write a.kind changes in cc);
      made_room = λ a line apart absent new drops. let gone = absent_still chip (line_of access.address) cache new drops absent in
          SideFits-started chip node.side new a
          (ap (λ (l : ℕ). is_written_back l back) line ∙ apart)
          (back_still chip node.side (line_of access.address) new drops is)
          (cache_still chip (line_of access.address) cache new drops is.cache)
          (fits_room chip new (line_of a.address) (ap (λ (l : ℕ). has_room chip new l) line ∙ drops.room))
          (ap (λ (l : ℕ). is_modified (lookup chip new l)) line ∙ ap is_modified gone)
          (λ read. ap (λ (l : ℕ). lookup chip new l) line ∙ gone);
      put_back = λ held puts free_queue alone. SideFits-put chip node.side held free is;
    }) done

-- ---- the request is sent
sent_fits : (chip : Chip) (cache : Cache) (demand : Demand) → DemandFits chip cache demand
    → DemandFits chip cache (record demand { sent = true })
sent_fits chip cache demand is =
    staged chip cache demand true demand.once demand.ordered demand.early demand.list is is.unowned (λ unsent. cc) is.waits is.unordered is.reads is.writes is.gone

abbrev pub with_misses : Misses → CacheSide → CacheSide
with_misses misses side = record side { misses = misses }

-- a demand that is sent was one before
pub sent_was : (before : Option Demand) (demand : Demand) → sent_demand before ≡ Some demand
    → (old : Demand) × (before ≡ Some old) × (demand ≡ record old { sent = true })
sent_was None demand is = cc
sent_was (Some old) demand is = (old, refl, sym (same_Some _ demand is))

SideFits-get_sent : (chip : Chip) (side : CacheSide) → SideFits chip side
    → SideFits chip (with_misses (record { demand = sent_demand side.misses.demand; back = side.misses.back }) side)
SideFits-get_sent chip side is = record {
  cache = is.cache;
  demand = λ demand now. let was = sent_was side.misses.demand demand now in
      subst (λ (x : Demand). DemandFits chip side.cache x) (sym was.2) (sent_fits chip side.cache was.0 (is.demand was.0 was.1));
  back = is.back;
  apart = λ demand back now write_back_is. let was = sent_was side.misses.demand demand now in
      subst (λ (x : Demand). (x.line == back.line) ≡ false) (sym was.2) (is.apart was.0 back was.1 write_back_is);
}

SideFits-put_sent : (chip : Chip) (side : CacheSide) (back : WriteBack) → side.misses.back ≡ Some back → SideFits chip side
    → SideFits chip (with_misses (record { demand = side.misses.demand; back = Some (record back { sent = true }) }) side)
SideFits-put_sent chip side back stands is = record {
  cache = is.cache;
  demand = is.demand;
  back = λ b now. let same : record back { sent = true } ≡ b = cc in
      subst (λ (x : WriteBack). lookup chip side.cache x.line ≡ None) same (is.back back stands);
  apart = λ demand b demand_is now. let same : record back { sent = true } ≡ b = cc in
      subst (λ (x : WriteBack). (demand.line == x.line) ≡ false) same (is.apart demand back demand_is stands);
}

pub SideFits-marked_sent : (chip : Chip) (side : CacheSide) → SideFits chip side
    → SideFits chip (with_misses (marked_sent side.misses) side)
unfolding marked_sent
SideFits-marked_sent chip side is = sent_forms side.misses.demand side.misses.back (λ m. SideFits chip (with_misses m side)) (record {
  get = SideFits-get_sent chip side is;
  put = λ back stands. SideFits-put_sent chip side back stands is;
})

-- an access changes the cache side alone
pub accessed_frame : (access : Pending) (node : Node) (performed : Performed)
    → node_after_access access node ≡ Some performed → IsCache node.chip node.side.cache
    → performed.0 ≡ with_side performed.0.side node
accessed_frame access node performed done is = access_forms access node performed
    (λ after. after ≡ with_side after.side node) is (record {
      hit = refl;
      wrote = λ held there modified words. refl;
      missed = λ a at apart absent room. refl;
      upgraded = λ a at apart changes held there unmodified. refl;
      made_room = λ a at apart absent cache drops. refl;
      put_back = λ held puts queue alone. refl;
    }) done
