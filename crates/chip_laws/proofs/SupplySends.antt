-- What a step of a node does to what it has promised a tile: the words in its queue, and the tile's places after its
-- demand and among the waiters of its records. A request of another tile adds a promise where the node owns the line.
use Rattle.std.proofs.Common.{◌≡◌, ℕ, ◌+◌, Bool, true, false, cond, List, [], ◌∷◌, ◌++◌, refl, sym, ◌∙◌, ap, subst, arith, Option, Some, None}
use Rattle.std.specs.Prelude.{◌==◌, ◌&&◌, ◌||◌, not, if◌then◌else◌}
use Rattle.std.specs.List.{count_by}
use Rattle.std.proofs.lemmas.Bool.{cond_both}
use Rattle.std.proofs.lemmas.Bool.Decides.{nat_tests}
use Rattle.std.proofs.lemmas.List.Sums.{sum_by_push}
use Rattle.mesh_gen.specs.declared.kind.Kind.{Kind}
use Rattle.mesh_gen.specs.declared.kind.Kind.TheVariants.{GetS, GetM, PutM}
use Rattle.mesh_gen.specs.declared.request.Request.{Request}
use Rattle.mesh_gen.specs.declared.msg_kind.MsgKind.TheVariants.{Back}
use Rattle.mesh_gen.specs.Ports.{count_if}
use Rattle.report_text.specs.declared.access.AccessKind.{AccessKind}
use Rattle.report_text.specs.declared.access.AccessKind.TheVariants.{Load, Store, Swap, Add}
use Rattle.chip_model.specs.declared.waiting.Waiting.{Waiting}
use Rattle.chip_model.specs.Chip.{Chip, home}
use Rattle.chip_model.specs.Cache.{lookup}
use Rattle.chip_model.specs.Misses.{Demand, WriteBack, is_getm, ends_in_getm, request_for}
use Rattle.chip_model.specs.Snoop.{CacheSide, Outcome, Holding, OwnedCopy, LiveBack, OpenWrite, OpenRead, SharedCopy, Nothing, holding, live_for, ordered_for, snooped_with, data_to, data_to_all, completed, completed_store, completed_load, ordered_with, words_here, own_get, own_put, own_request, written_by}
use Rattle.chip_model.specs.Ownership.{is_owned_copy, is_live_back, is_open_write, owns}
use Rattle.chip_model.specs.NodeShape.{SideFits}
use Rattle.chip_model.specs.Bookkeeping.{is_get, is_get_of}
use Rattle.chip_model.specs.Suppliers.{is_data_for, places_in, places_after, has_early, is_ordered}
use Rattle.snoop_core.specs.Requests.{MeetsDemand, MeetsOwn}
use Rattle.snoop_core.proofs.HoldingCases.{holding_forms, ordered_is, not_live, not_open_none, not_open_ended, holding_open_write, holding_open_read}
use Rattle.snoop_core.proofs.SnoopSteps.{snoop_forms}
use Rattle.chip_laws.proofs.SupplyCounts.{count_by-cons}

-- ---- lists of tiles that wait
pub places_more : (t : ℕ) (list : List Waiting) (last : Waiting) → places_in t (list ++ last ∷ []) ≡ places_in t list + count_if (last.tile == t)
places_more t list last = sum_by_push (λ (waiting : Waiting). cond (waiting.tile == t) 1 0) list last

-- words go to each that waits
pub sent_to_all : (t line : ℕ) (words : List ℕ) (list : List Waiting) → count_by (is_data_for t) (data_to_all line words list) ≡ places_in t list
sent_to_all t line words [] = refl
sent_to_all t line words (first ∷ list) =
    let rest = sent_to_all t line words list in
    omega (
      arith,
      count_by-cons (is_data_for t) (data_to first.tile line words) (data_to_all line words list),
      count_by-cons (λ (waiting : Waiting). waiting.tile == t) first list,
    )

-- ---- what a node holds of a line tells whether it owns it
abbrev pub is_owned_holding : Holding → Bool
is_owned_holding (OwnedCopy words) = true
is_owned_holding (LiveBack words) = true
is_owned_holding (OpenWrite demand) = true
is_owned_holding (OpenRead demand) = false
is_owned_holding SharedCopy = false
is_owned_holding Nothing = false

first_holds : (a b c : Bool) → a ≡ true → (a || b || c) ≡ true
first_holds true b c is = refl
first_holds false b c is = cc

second_holds : (a b c : Bool) → a ≡ false → b ≡ true → (a || b || c) ≡ true
second_holds true b c none is = cc
second_holds false true c none is = refl
second_holds false false c none is = cc

third_counts : (a b c d : Bool) → a ≡ false → b ≡ false → c ≡ d → (a || b || c) ≡ d
third_counts true b c d none none_too is = cc
third_counts false true c d none none_too is = cc
third_counts false false c d none none_too is = is

lives : (line : ℕ) (entry : Option WriteBack) (back : WriteBack) → live_for line entry ≡ Some back → is_live_back line entry ≡ true
lives line None back is = cc
lives line (Some entry) back is = grind (arith, nat_tests)

is_open : (line : ℕ) (entry : Option Demand) (demand : Demand) → ordered_for line entry ≡ Some demand → is_getm demand.kind ≡ true → ends_in_getm demand.list ≡ false
    → is_open_write line entry ≡ true
is_open line None demand is writes goes_on = cc
is_open line (Some entry) demand is writes goes_on = grind (arith, nat_tests)

only_reads : (line : ℕ) (entry : Option Demand) (demand : Demand) → ordered_for line entry ≡ Some demand → is_getm demand.kind ≡ false → is_open_write line entry ≡ false
only_reads line None demand is reads = refl
only_reads line (Some entry) demand is reads = grind (arith, nat_tests)

pub owns_holding : (chip : Chip) (side : CacheSide) (line : ℕ) → owns chip side line ≡ is_owned_holding (holding chip side line)
unfolding owns
owns_holding chip side line =
    let copy = is_owned_copy (lookup chip side.cache line) in
    let back = is_live_back line side.misses.back in
    let write = is_open_write line side.misses.demand in
    holding_forms chip side line (λ h. (copy || back || write) ≡ is_owned_holding h) (record {
      owned = λ held there owned. first_holds copy back write (ap is_owned_copy there ∙ ap not owned);
      live = λ unowned b is. second_holds copy back write unowned (lives line side.misses.back b is);
      write = λ unowned none d is writes goes_on.
          third_counts copy back write true unowned (not_live line side.misses.back none) (is_open line side.misses.demand d is writes goes_on);
      read = λ unowned none d is reads.
          third_counts copy back write false unowned (not_live line side.misses.back none) (only_reads line side.misses.demand d is reads);
      ended = λ unowned none d is writes ends.
          third_counts copy back write false unowned (not_live line side.misses.back none)
          (not_open_ended line side.misses.demand d (ordered_is line side.misses.demand d is).stands ends);
      shared = λ unowned none free.
          third_counts copy back write false unowned (not_live line side.misses.back none) (not_open_none line side.misses.demand free);
      absent = λ unowned none free.
          third_counts copy back write false unowned (not_live line side.misses.back none) (not_open_none line side.misses.demand free);
    })

-- ---- the request of another tile
abbrev pub OnePromise : ℕ → CacheSide → Outcome → ℕ → Type 0
OnePromise t side outcome more = count_by (is_data_for t) outcome.sends + places_after t outcome.side.misses.demand ≡ places_after t side.misses.demand + more

listed : (t : ℕ) (side : CacheSide) (demand : Demand) (waiting : Waiting) → side.misses.demand ≡ Some demand
    → places_after t (Some (record demand { list = demand.list ++ waiting ∷ [] })) ≡ places_after t side.misses.demand + count_if (waiting.tile == t)
listed t side demand waiting stands = places_more t demand.list waiting ∙ ap (λ n. n + count_if (waiting.tile == t)) (sym (ap (places_after t) stands))

put_promises : (t : ℕ) (chip : Chip) (side : CacheSide) (q : Request) (h : Holding) → OnePromise t side (snooped_with chip q side h PutM) (cond (is_owned_holding h) 0 0)
put_promises t chip side q (OwnedCopy words) = omega arith
put_promises t chip side q (LiveBack words) = omega arith
put_promises t chip side q (OpenWrite demand) = omega arith
put_promises t chip side q (OpenRead demand) = omega arith
put_promises t chip side q SharedCopy = omega arith
put_promises t chip side q Nothing = omega arith

read_promises : (t : ℕ) (chip : Chip) (side : CacheSide) (q : Request) (h : Holding) → holding chip side q.line ≡ h
    → OnePromise t side (snooped_with chip q side h GetS) (cond (is_owned_holding h) (count_if (q.source == t)) 0)
read_promises t chip side q (OwnedCopy words) is = omega arith
read_promises t chip side q (LiveBack words) is = omega arith
read_promises t chip side q (OpenWrite demand) is =
    omega (arith, listed t side demand (record { tile = q.source; kind = q.kind }) (holding_open_write chip side q.line demand is).stands)
read_promises t chip side q (OpenRead demand) is = omega arith
read_promises t chip side q SharedCopy is = omega arith
read_promises t chip side q Nothing is = omega arith

write_promises : (t : ℕ) (chip : Chip) (side : CacheSide) (q : Request) (h : Holding) → holding chip side q.line ≡ h
    → OnePromise t side (snooped_with chip q side h GetM) (cond (is_owned_holding h) (count_if (q.source == t)) 0)
write_promises t chip side q (OwnedCopy words) is = omega arith
write_promises t chip side q (LiveBack words) is = omega arith
write_promises t chip side q (OpenWrite demand) is =
    omega (arith, listed t side demand (record { tile = q.source; kind = q.kind }) (holding_open_write chip side q.line demand is).stands)
write_promises t chip side q (OpenRead demand) is = omega (arith, ap (places_after t) (holding_open_read chip side q.line demand is).stands)
write_promises t chip side q SharedCopy is = omega arith
write_promises t chip side q Nothing is = omega arith

kind_promises : (t : ℕ) (chip : Chip) (side : CacheSide) (q : Request) (kind : Kind)
    → OnePromise t side (snooped_with chip q side (holding chip side q.line) kind) (cond (is_owned_holding (holding chip side q.line)) (count_if (is_get kind && (q.source == t))) 0)
kind_promises t chip side q GetS = read_promises t chip side q (holding chip side q.line) refl
kind_promises t chip side q GetM = write_promises t chip side q (holding chip side q.line) refl
kind_promises t chip side q PutM = put_promises t chip side q (holding chip side q.line)

-- one promise more, where the node owns the line
pub other_promises : (t : ℕ) (chip : Chip) (side : CacheSide) (q : Request)
    → OnePromise t side (snooped_with chip q side (holding chip side q.line) q.kind) (cond (owns chip side q.line) (count_if (is_get_of t q)) 0)
other_promises t chip side q =
    kind_promises t chip side q q.kind
    ∙ ap (λ (b : Bool). places_after t side.misses.demand + cond b (count_if (is_get_of t q)) 0) (sym (owns_holding chip side q.line))

-- the same words are early, and the demand is ordered as before
pub record SameOpen (old new : Option Demand) : Type 0 where
  pub early : has_early new ≡ has_early old
  pub ordered : is_ordered new ≡ is_ordered old

pub other_open : (chip : Chip) (side : CacheSide) (q : Request) → SameOpen side.misses.demand (snooped_with chip q side (holding chip side q.line) q.kind).side.misses.demand
other_open chip side q = snoop_forms chip side q (λ outcome. SameOpen side.misses.demand outcome.side.misses.demand) (record {
  put = λ kind. record { early = refl; ordered = refl };
  copy_read = λ kind held there owned. record { early = refl; ordered = refl };
  copy_written = λ kind held there owned. record { early = refl; ordered = refl };
  back_read = λ kind back. record { early = refl; ordered = refl };
  back_written = λ kind copy back stands line. record { early = refl; ordered = refl };
  list_read = λ kind demand meets writes goes_on. record { early = sym (ap has_early meets.stands); ordered = sym (ap is_ordered meets.stands) };
  list_written = λ kind demand meets writes goes_on. record { early = sym (ap has_early meets.stands); ordered = sym (ap is_ordered meets.stands) };
  read = λ kind. record { early = refl; ordered = refl };
  once = λ kind demand meets reads. record { early = sym (ap has_early meets.stands); ordered = sym (ap is_ordered meets.stands) };
  shared_written = λ kind unowned. record { early = refl; ordered = refl };
  nothing_written = λ kind unowned. record { early = refl; ordered = refl };
})

-- ---- a demand that completes: all that wait get its words
pub read_kind : (access : AccessKind) (kind : Kind) → kind ≡ request_for access → is_getm kind ≡ false → kind ≡ GetS
read_kind Load kind is reads = is
read_kind Store kind is reads = let no : true ≡ false = sym (ap is_getm is) ∙ reads in cc
read_kind Swap kind is reads = let no : true ≡ false = sym (ap is_getm is) ∙ reads in cc
read_kind Add kind is reads = let no : true ≡ false = sym (ap is_getm is) ∙ reads in cc

pub completed_promises : (t : ℕ) (chip : Chip) (side : CacheSide) (demand : Demand) (place : ℕ) (words : List ℕ) → SideFits chip side
    → side.misses.demand ≡ Some demand → OnePromise t side (completed chip demand place words side) 0
completed_promises t chip side demand place words fits stands =
    let here : places_after t side.misses.demand ≡ places_in t demand.list = ap (places_after t) stands in
    cond_both (is_getm demand.kind) (completed_store chip demand place words side) (completed_load chip demand place words side) (λ outcome. OnePromise t side outcome 0)
    (λ writes. omega (arith, sent_to_all t demand.line (written_by demand.pending words) demand.list))
    (λ reads.
    let shape = fits.demand demand stands in
    let none : places_in t demand.list ≡ 0 = ap (places_in t) (shape.reads (read_kind demand.pending.kind demand.kind shape.asks reads)) in
    omega arith)

ordered_promises : (t : ℕ) (chip : Chip) (side : CacheSide) (place : ℕ) (demand : Demand) (words : Option (List ℕ)) → SideFits chip side
    → side.misses.demand ≡ Some demand → OnePromise t side (ordered_with chip side place demand words) 0
ordered_promises t chip side place demand (Some words) fits stands = completed_promises t chip side demand place words fits stands
ordered_promises t chip side place demand None fits stands = omega (arith, ap (places_after t) stands)

get_promises : (t : ℕ) (chip : Chip) (side : CacheSide) (place : ℕ) (q : Request) → SideFits chip side → MeetsDemand side q
    → OnePromise t side (own_get chip side place side.misses.demand) 0
get_promises t chip side place q fits (demand, stands, is) =
    subst (λ (entry : Option Demand). OnePromise t side (own_get chip side place entry) 0) (sym stands)
    (ordered_promises t chip side place demand (words_here chip side demand demand.early) fits stands)

back_promises : (t : ℕ) (chip : Chip) (side : CacheSide) (entry : Option WriteBack) → OnePromise t side (own_put chip side entry) 0
back_promises t chip side None = omega arith
back_promises t chip side (Some back) = by back.live where
  by : (live : Bool) → count_by (is_data_for t) (if live then record { to = home chip back.line; kind = Back; line = back.line; words = back.words } ∷ [] else [])
      + places_after t side.misses.demand ≡ places_after t side.misses.demand + 0
  by true = omega arith
  by false = omega arith

-- the own request promises nothing more
pub own_promises : (t : ℕ) (chip : Chip) (side : CacheSide) (place : ℕ) (q : Request) (kind : Kind) → SideFits chip side → MeetsOwn side q kind
    → OnePromise t side (own_request chip side place kind) 0
own_promises t chip side place q GetS fits meets = get_promises t chip side place q fits meets
own_promises t chip side place q GetM fits meets = get_promises t chip side place q fits meets
own_promises t chip side place q PutM fits meets = back_promises t chip side side.misses.back
