-- Who may write the line of a copy, through each step of a node.
use Rattle.std.proofs.Common.{◌≡◌, ℕ, Bool, true, false, cond, refl, sym, ◌∙◌, ap, subst, arith, Option, Some, None, List, [], ◌∷◌}
use Rattle.std.specs.Prelude.{◌==◌, ◌&&◌, ◌||◌, not, is_some}
use Rattle.std.proofs.lemmas.Bool.{cond_both, false≢true, eqb-true, eq-eqb}
use Rattle.std.proofs.lemmas.Bool.Decides.{nat_tests}
use Rattle.mesh_gen.specs.declared.kind.Kind.{Kind}
use Rattle.mesh_gen.specs.declared.kind.Kind.TheVariants.{GetS, GetM, PutM}
use Rattle.mesh_gen.specs.declared.request.Request.{Request}
use Rattle.chip_model.specs.declared.line_state.State.{State}
use Rattle.chip_model.specs.declared.line_state.State.TheVariants.{M, O, S}
use Rattle.chip_model.specs.declared.owner.Owner.{Owner}
use Rattle.chip_model.specs.declared.owner.Owner.TheVariants.{Memory, Tile}
use Rattle.chip_model.specs.declared.pending.Pending.{Pending}
use Rattle.chip_model.specs.declared.waiting.Waiting.{Waiting}
use Rattle.chip_model.specs.Chip.{Chip, line_of}
use Rattle.chip_model.specs.Cache.{Cache, Held, is_shared, lookup, fits, installed, without_line}
use Rattle.chip_model.specs.Misses.{Demand, WriteBack, Misses, is_getm, ends_in_getm, sent_demand, marked_sent}
use Rattle.chip_model.specs.Snoop.{CacheSide, with_demand, with_cache, with_back, completed, completed_load, completed_store, kept_after_store, kept_after_load, words_here, ordered_with, own_get, own_put, own_request, holding, snooped_with, after_snoop, data_at, data_for, after_data, written_by}
use Rattle.chip_model.specs.Node.{Node, Performed, node_after_access}
use Rattle.chip_model.specs.Ownership.{is_tile, written_back, writer_by, writer_after, is_owned_copy}
use Rattle.chip_model.specs.NodeShape.{DemandFits, SideFits}
use Rattle.chip_model.specs.Bookkeeping.{is_get}
use Rattle.chip_model.specs.Writers.{is_ordered_write}
use Rattle.snoop_core.specs.Requests.{IsRequestOf, MeetsDemand, MeetsBack, MeetsOwn, OwnRequestFits}
use Rattle.snoop_core.proofs.CacheMaps.{lookup-line, lookup-without_line, lookup-installed, fits_held}
use Rattle.snoop_core.proofs.Accesses.{access_forms, accessed_free, started_by}
use Rattle.snoop_core.proofs.Sending.{sent_forms}
use Rattle.snoop_core.proofs.OwnRequests.{is_gets, lacks_words}
use Rattle.snoop_core.proofs.SnoopSteps.{snoop_forms}
use Rattle.chip_laws.proofs.WriterCopies.{is_memory, fits_state, fits_copy, FitsWriter, other_orders, write_takes, read_shares}

-- ---- the writer of a line after a request
eqb_sym : (a b : ℕ) → (a == b) ≡ (b == a)
eqb_sym a b = by (b == a) refl where
  by : (x : Bool) → (b == a) ≡ x → (a == b) ≡ x
  by true e = eq-eqb a b (sym (eqb-true b a e))
  by false e = grind (arith, nat_tests, e)

writer_away : (m : ℕ) (w : Owner) (q : Request) → (m == q.line) ≡ false → writer_after m w q ≡ w
unfolding writer_after
writer_away m w q away = ap (λ (b : Bool). cond b (writer_by q.source q.kind w) w) (eqb_sym q.line m ∙ away)

writer_here : (m : ℕ) (w : Owner) (q : Request) (kind : Kind) → q.kind ≡ kind → (m == q.line) ≡ true → writer_after m w q ≡ writer_by q.source kind w
unfolding writer_after
writer_here m w q kind is here =
    ap (λ (b : Bool). cond b (writer_by q.source q.kind w) w) (eqb_sym q.line m ∙ here) ∙ ap (λ (k : Kind). writer_by q.source k w) is

fits_by : (tile : ℕ) (waits still : Bool) (copy now : Option Held) (w v : Owner) → still ≡ waits → now ≡ copy → v ≡ w
    → fits_copy tile waits copy w ≡ true → fits_copy tile still now v ≡ true
fits_by tile waits still copy now w v waits_is copy_is w_is fits =
    ap (λ (b : Bool). fits_copy tile b now v) waits_is ∙ (ap (λ (c : Option Held). fits_copy tile waits c v) copy_is ∙ (ap (fits_copy tile waits copy) w_is ∙ fits))

fits_none : (tile : ℕ) (waits : Bool) (now : Option Held) (w : Owner) → now ≡ None → fits_copy tile waits now w ≡ true
fits_none tile waits now w is = ap (λ (c : Option Held). fits_copy tile waits c w) is

-- ---- a request of another tile
given_fits : (tile source : ℕ) (waits : Bool) (copy : Option Held) (w : Owner) → (source == tile) ≡ false
    → fits_copy tile waits copy w ≡ true → fits_copy tile waits copy (written_back source w) ≡ true
given_fits tile source waits copy Memory other fits = fits
given_fits tile source waits copy (Tile t) other fits = by (t == source) refl where
  by : (b : Bool) → (t == source) ≡ b → fits_copy tile waits copy (cond b Memory (Tile t)) ≡ true
  by false e = fits
  by true e =
      let away : is_tile tile (Tile t) ≡ false = ap (λ (n : ℕ). n == tile) (eqb-true t source e) ∙ other in
      gone copy fits away where
        gone : (c : Option Held) → fits_copy tile waits c (Tile t) ≡ true → is_tile tile (Tile t) ≡ false → fits_copy tile waits c Memory ≡ true
        gone None f a = refl
        gone (Some held) f a = state held.state f a where
          state : (s : State) → fits_state tile waits s (Tile t) ≡ true → is_tile tile (Tile t) ≡ false → fits_state tile waits s Memory ≡ true
          state M f a = absurd (false≢true (sym a ∙ f))
          state O f a = refl
          state S f a = refl

put_same : (chip : Chip) (side : CacheSide) (q : Request) → q.kind ≡ PutM → (snooped_with chip q side (holding chip side q.line) q.kind).side ≡ side
put_same chip side q put = snoop_forms chip side q (λ outcome. outcome.side ≡ side) (record {
  put = λ kind. refl;
  copy_read = λ kind held there owned. absurd (not_gets (sym kind ∙ put));
  copy_written = λ kind held there owned. absurd (not_getm (sym kind ∙ put));
  back_read = λ kind back. refl;
  back_written = λ kind copy back stands same. absurd (not_getm (sym kind ∙ put));
  list_read = λ kind demand meets writes goes_on. absurd (not_gets (sym kind ∙ put));
  list_written = λ kind demand meets writes goes_on. absurd (not_getm (sym kind ∙ put));
  read = λ kind. refl;
  once = λ kind demand meets reads. absurd (not_getm (sym kind ∙ put));
  shared_written = λ kind unowned. absurd (not_getm (sym kind ∙ put));
  nothing_written = λ kind unowned. refl;
}) where
  not_gets : GetS ≡ PutM → ⊥
  not_gets e = cc

  not_getm : GetM ≡ PutM → ⊥
  not_getm e = cc

abbrev Other : Chip → CacheSide → Request → Kind → CacheSide
Other chip side q kind = (snooped_with chip q side (holding chip side q.line) kind).side

other_by : (chip : Chip) (tile : ℕ) (side : CacheSide) (q : Request) (m : ℕ) (w : Owner) (kind : Kind) (here : Bool) → q.kind ≡ kind → (m == q.line) ≡ here
    → SideFits chip side → (q.source == tile) ≡ false → FitsWriter chip tile side m w → FitsWriter chip tile (Other chip side q q.kind) m (writer_after m w q)
other_by chip tile side q m w GetM true kind here fits other law =
    fits_none tile (is_ordered_write m (Other chip side q q.kind).misses.demand) (lookup chip (Other chip side q q.kind).cache m) (writer_after m w q)
    (ap (λ (k : Kind). lookup chip (Other chip side q k).cache m) kind ∙ write_takes chip side q m fits
    ∙ ap (λ (b : Bool). cond b None (lookup chip side.cache m)) here)
other_by chip tile side q m w GetM false kind here fits other law =
    fits_by tile (is_ordered_write m side.misses.demand) (is_ordered_write m (Other chip side q q.kind).misses.demand)
    (lookup chip side.cache m) (lookup chip (Other chip side q q.kind).cache m) w (writer_after m w q)
    (other_orders chip side q m)
    (ap (λ (k : Kind). lookup chip (Other chip side q k).cache m) kind ∙ write_takes chip side q m fits
    ∙ ap (λ (b : Bool). cond b None (lookup chip side.cache m)) here)
    (writer_away m w q here) law
other_by chip tile side q m w GetS true kind here fits other law =
    let waits = is_ordered_write m (Other chip side q q.kind).misses.demand in
    ap (fits_copy tile waits (lookup chip (Other chip side q q.kind).cache m)) (writer_here m w q GetS kind here)
    ∙ ap (λ (k : Kind). fits_copy tile waits (lookup chip (Other chip side q k).cache m) Memory) kind
    ∙ (read_shares chip side q m).here tile waits here
other_by chip tile side q m w GetS false kind here fits other law =
    fits_by tile (is_ordered_write m side.misses.demand) (is_ordered_write m (Other chip side q q.kind).misses.demand)
    (lookup chip side.cache m) (lookup chip (Other chip side q q.kind).cache m) w (writer_after m w q)
    (other_orders chip side q m)
    (ap (λ (k : Kind). lookup chip (Other chip side q k).cache m) kind ∙ (read_shares chip side q m).other here)
    (writer_away m w q here) law
other_by chip tile side q m w PutM here kind here_is fits other law =
    let v = writer_after m w q in
    subst (λ (after : CacheSide). FitsWriter chip tile after m v) (sym (put_same chip side q kind)) (by here here_is) where
      by : (b : Bool) → (m == q.line) ≡ b → FitsWriter chip tile side m (writer_after m w q)
      by true e = ap (fits_copy tile (is_ordered_write m side.misses.demand) (lookup chip side.cache m)) (writer_here m w q PutM kind e)
          ∙ given_fits tile q.source (is_ordered_write m side.misses.demand) (lookup chip side.cache m) w other law
      by false e = ap (fits_copy tile (is_ordered_write m side.misses.demand) (lookup chip side.cache m)) (writer_away m w q e) ∙ law

pub writers_other : (chip : Chip) (tile : ℕ) (side : CacheSide) (q : Request) (m : ℕ) (w : Owner) → SideFits chip side → (q.source == tile) ≡ false
    → FitsWriter chip tile side m w → FitsWriter chip tile (snooped_with chip q side (holding chip side q.line) q.kind).side m (writer_after m w q)
writers_other chip tile side q m w fits other law = other_by chip tile side q m w q.kind (m == q.line) refl refl fits other law

-- ---- a demand completes, where what follows it is known
-- who may write the line of an ordered demand, by what followed it
pub record CompletesFor (tile : ℕ) (demand : Demand) (w : Owner) : Type 0 where
  pub read : is_getm demand.kind ≡ false → demand.once ≡ false → w ≡ Memory
  pub alone : is_getm demand.kind ≡ true → demand.list ≡ [] → w ≡ Tile tile
  pub shared : is_getm demand.kind ≡ true → (first : Waiting) (rest : List Waiting) → demand.list ≡ first ∷ rest → ends_in_getm demand.list ≡ false → w ≡ Memory

-- a copy in S or O that nobody may write, and one in M that its tile may
copy_here : (chip : Chip) (tile : ℕ) (side : CacheSide) (demand : Demand) (state : State) (words : List ℕ) (m : ℕ) (w : Owner) → DemandFits chip side.cache demand
    → (m == demand.line) ≡ true → fits_state tile false state w ≡ true
    → FitsWriter chip tile (with_demand None (with_cache (installed chip (record { line = demand.line; state = state; words = words }) side.cache) side)) m w
copy_here chip tile side demand state words m w fit here fits =
    ap (λ (copy : Option Held). fits_copy tile false copy w)
    (lookup-installed chip side.cache (record { line = demand.line; state = state; words = words }) m fit.room
    ∙ ap (λ (b : Bool). cond b (Some (record { line = demand.line; state = state; words = words })) (lookup chip side.cache m)) here)
    ∙ fits

line_taken : (chip : Chip) (tile : ℕ) (side : CacheSide) (line m : ℕ) (w : Owner) → (m == line) ≡ true
    → FitsWriter chip tile (with_demand None (with_cache (without_line chip line side.cache) side)) m w
line_taken chip tile side line m w here =
    fits_none tile false (lookup chip (without_line chip line side.cache) m) w
    (lookup-without_line chip side.cache line m ∙ ap (λ (b : Bool). cond b None (lookup chip side.cache m)) here)

stored_here : (chip : Chip) (tile : ℕ) (side : CacheSide) (demand : Demand) (words : List ℕ) (list : List Waiting) (m : ℕ) (w : Owner) → DemandFits chip side.cache demand
    → (m == demand.line) ≡ true → is_getm demand.kind ≡ true → demand.list ≡ list → CompletesFor tile demand w
    → FitsWriter chip tile (with_demand None (with_cache (kept_after_store chip demand.line words list side.cache) side)) m w
stored_here chip tile side demand words [] m w fit here writes list told =
    copy_here chip tile side demand M words m w fit here (ap (is_tile tile) (told.alone writes list) ∙ eq-eqb tile tile refl)
stored_here chip tile side demand words (first ∷ rest) m w fit here writes list told =
    cond_both (ends_in_getm (first ∷ rest)) (without_line chip demand.line side.cache) (installed chip (record { line = demand.line; state = O; words = words }) side.cache)
    (λ cache. FitsWriter chip tile (with_demand None (with_cache cache side)) m w)
    (λ ends. line_taken chip tile side demand.line m w here)
    (λ goes_on. copy_here chip tile side demand O words m w fit here (ap is_memory (told.shared writes first rest list (ap ends_in_getm list ∙ goes_on))))

loaded_here : (chip : Chip) (tile : ℕ) (side : CacheSide) (demand : Demand) (words : List ℕ) (m : ℕ) (w : Owner) → DemandFits chip side.cache demand
    → (m == demand.line) ≡ true → is_getm demand.kind ≡ false → CompletesFor tile demand w
    → FitsWriter chip tile (with_demand None (with_cache (kept_after_load chip demand words side.cache) side)) m w
loaded_here chip tile side demand words m w fit here reads told =
    cond_both demand.once side.cache (installed chip (record { line = demand.line; state = S; words = words }) side.cache)
    (λ cache. FitsWriter chip tile (with_demand None (with_cache cache side)) m w)
    (λ once. fits_none tile false (lookup chip side.cache m) w
    (ap (lookup chip side.cache) (eqb-true m demand.line here) ∙ fit.absent (is_gets chip side.cache demand fit reads)))
    (λ kept. copy_here chip tile side demand S words m w fit here (ap (λ (o : Owner). is_memory o || (is_tile tile o && false)) (told.read reads kept)))

completed_here : (chip : Chip) (tile : ℕ) (side : CacheSide) (demand : Demand) (place : ℕ) (words : List ℕ) (m : ℕ) (w : Owner) → DemandFits chip side.cache demand
    → (m == demand.line) ≡ true → CompletesFor tile demand w → FitsWriter chip tile (completed chip demand place words side).side m w
completed_here chip tile side demand place words m w fit here told =
    cond_both (is_getm demand.kind) (completed_store chip demand place words side) (completed_load chip demand place words side)
    (λ outcome. FitsWriter chip tile outcome.side m w)
    (λ writes. stored_here chip tile side demand (written_by demand.pending words) demand.list m w fit here writes refl told)
    (λ reads. loaded_here chip tile side demand words m w fit here reads told)

-- the copies of other lines stay, and none of these waits for the demand
kept_other : (chip : Chip) (cache : Cache) (demand : Demand) (words : List ℕ) (list : List Waiting) (m : ℕ) → DemandFits chip cache demand → (m == demand.line) ≡ false
    → lookup chip (kept_after_store chip demand.line words list cache) m ≡ lookup chip cache m
kept_other chip cache demand words [] m fit away =
    lookup-installed chip cache (record { line = demand.line; state = M; words = words }) m fit.room
    ∙ ap (λ (b : Bool). cond b (Some (record { line = demand.line; state = M; words = words })) (lookup chip cache m)) away
kept_other chip cache demand words (first ∷ rest) m fit away =
    cond_both (ends_in_getm (first ∷ rest)) (without_line chip demand.line cache) (installed chip (record { line = demand.line; state = O; words = words }) cache)
    (λ after. lookup chip after m ≡ lookup chip cache m)
    (λ ends. lookup-without_line chip cache demand.line m ∙ ap (λ (b : Bool). cond b None (lookup chip cache m)) away)
    (λ goes_on. lookup-installed chip cache (record { line = demand.line; state = O; words = words }) m fit.room
    ∙ ap (λ (b : Bool). cond b (Some (record { line = demand.line; state = O; words = words })) (lookup chip cache m)) away)

loaded_other : (chip : Chip) (cache : Cache) (demand : Demand) (words : List ℕ) (m : ℕ) → DemandFits chip cache demand → (m == demand.line) ≡ false
    → lookup chip (kept_after_load chip demand words cache) m ≡ lookup chip cache m
loaded_other chip cache demand words m fit away =
    cond_both demand.once cache (installed chip (record { line = demand.line; state = S; words = words }) cache)
    (λ after. lookup chip after m ≡ lookup chip cache m)
    (λ once. refl)
    (λ kept. lookup-installed chip cache (record { line = demand.line; state = S; words = words }) m fit.room
    ∙ ap (λ (b : Bool). cond b (Some (record { line = demand.line; state = S; words = words })) (lookup chip cache m)) away)

pub completed_other : (chip : Chip) (side : CacheSide) (demand : Demand) (place : ℕ) (words : List ℕ) (m : ℕ) → DemandFits chip side.cache demand → (m == demand.line) ≡ false
    → lookup chip (completed chip demand place words side).side.cache m ≡ lookup chip side.cache m
completed_other chip side demand place words m fit away =
    cond_both (is_getm demand.kind) (completed_store chip demand place words side) (completed_load chip demand place words side)
    (λ outcome. lookup chip outcome.side.cache m ≡ lookup chip side.cache m)
    (λ writes. kept_other chip side.cache demand (written_by demand.pending words) demand.list m fit away)
    (λ reads. loaded_other chip side.cache demand words m fit away)

none_waits : (chip : Chip) (demand : Demand) (place : ℕ) (words : List ℕ) (side : CacheSide) (m : ℕ)
    → is_ordered_write m (completed chip demand place words side).side.misses.demand ≡ false
none_waits chip demand place words side m =
    cond_both (is_getm demand.kind) (completed_store chip demand place words side) (completed_load chip demand place words side)
    (λ outcome. is_ordered_write m outcome.side.misses.demand ≡ false) (λ writes. refl) (λ reads. refl)

other_waits : (demand : Demand) (m : ℕ) → (m == demand.line) ≡ false → is_ordered_write m (Some demand) ≡ false
other_waits demand m away = ap (λ (b : Bool). b && is_getm demand.kind && is_some demand.ordered) (eqb_sym demand.line m ∙ away)

pub writers_completed : (chip : Chip) (tile : ℕ) (side : CacheSide) (demand : Demand) (place : ℕ) (words : List ℕ) (m : ℕ) (w v : Owner) → DemandFits chip side.cache demand
    → side.misses.demand ≡ Some demand → ((m == demand.line) ≡ true → CompletesFor tile demand v) → ((m == demand.line) ≡ false → v ≡ w)
    → FitsWriter chip tile side m w → FitsWriter chip tile (completed chip demand place words side).side m v
writers_completed chip tile side demand place words m w v fit stands told same law = by (m == demand.line) refl where
  by : (b : Bool) → (m == demand.line) ≡ b → FitsWriter chip tile (completed chip demand place words side).side m v
  by true e = completed_here chip tile side demand place words m v fit e (told e)
  by false e = fits_by tile (is_ordered_write m side.misses.demand) (is_ordered_write m (completed chip demand place words side).side.misses.demand)
      (lookup chip side.cache m) (lookup chip (completed chip demand place words side).side.cache m) w v
      (none_waits chip demand place words side m ∙ sym (ap (is_ordered_write m) stands ∙ other_waits demand m e))
      (completed_other chip side demand place words m fit e) (same e) law

-- ---- the node's own request
unordered_waits : (demand : Demand) (m : ℕ) → demand.ordered ≡ None → is_ordered_write m (Some demand) ≡ false
unordered_waits demand m unordered = by (demand.line == m) (is_getm demand.kind) where
  by : (a b : Bool) → (a && b && is_some demand.ordered) ≡ false
  by true true = ap is_some unordered
  by true false = refl
  by false b = refl

-- a demand that is ordered without words: its copy, if there is one, is shared, and waits
waits_here : (chip : Chip) (tile : ℕ) (side : CacheSide) (q : Request) (demand : Demand) (place m : ℕ) (w : Owner) (kind : Kind) → q.kind ≡ kind → is_get kind ≡ true
    → DemandFits chip side.cache demand → IsRequestOf demand q → q.source ≡ tile → is_owned_copy (lookup chip side.cache demand.line) ≡ false → (m == demand.line) ≡ true
    → FitsWriter chip tile (with_demand (Some (record demand { ordered = Some place })) side) m (writer_after m w q)
waits_here chip tile side q demand place m w PutM kind get fit is own unowned here = cc
waits_here chip tile side q demand place m w GetS kind get fit is own unowned here =
    fits_none tile _ (lookup chip side.cache m) (writer_after m w q)
    (ap (lookup chip side.cache) (eqb-true m demand.line here) ∙ fit.absent (is.kind ∙ kind))
waits_here chip tile side q demand place m w GetM kind get fit is own unowned here =
    let waits : is_ordered_write m (Some (record demand { ordered = Some place })) ≡ true =
    ap (λ (b : Bool). b && is_getm demand.kind && true) (eqb_sym demand.line m ∙ here) ∙ ap (λ (k : Kind). is_getm k && true) (is.kind ∙ kind) in
    let now : writer_after m w q ≡ Tile tile =
    writer_here m w q GetM kind (ap (λ (l : ℕ). m == l) (sym is.line) ∙ here) ∙ ap (λ (n : ℕ). Tile n) own in
    ap (λ (b : Bool). fits_copy tile b (lookup chip side.cache m) (writer_after m w q)) waits
    ∙ ap (fits_copy tile true (lookup chip side.cache m)) now
    ∙ shared_waits (lookup chip side.cache m) (ap (λ (l : ℕ). is_owned_copy (lookup chip side.cache l)) (eqb-true m demand.line here) ∙ unowned) where
      shared_waits : (copy : Option Held) → is_owned_copy copy ≡ false → fits_copy tile true copy (Tile tile) ≡ true
      shared_waits None e = refl
      shared_waits (Some held) e = state held.state e where
        state : (s : State) → not (is_shared s) ≡ false → fits_state tile true s (Tile tile) ≡ true
        state M f = absurd (false≢true (sym f))
        state O f = absurd (false≢true (sym f))
        state S f = ap (λ (b : Bool). b && true) (eq-eqb tile tile refl)

getm_is : (kind : Kind) → is_getm kind ≡ true → kind ≡ GetM
getm_is GetS is = cc
getm_is GetM is = refl
getm_is PutM is = cc

own_completes : (chip : Chip) (tile : ℕ) (side : CacheSide) (q : Request) (demand : Demand) (m : ℕ) (w : Owner) → DemandFits chip side.cache demand → IsRequestOf demand q
    → q.source ≡ tile → (m == demand.line) ≡ true → CompletesFor tile demand (writer_after m w q)
own_completes chip tile side q demand m w fit is own here =
    let at : (m == q.line) ≡ true = ap (λ (l : ℕ). m == l) (sym is.line) ∙ here in
    let list : demand.list ≡ [] = (fit.unordered is.unordered).0 in
    record {
      read = λ reads kept. writer_here m w q GetS (sym is.kind ∙ is_gets chip side.cache demand fit reads) at;
      alone = λ writes none. writer_here m w q GetM (sym is.kind ∙ getm_is demand.kind writes) at ∙ ap (λ (n : ℕ). Tile n) own;
      shared = λ writes first rest some goes_on. absurd (nothing first rest (sym list ∙ some));
    } where
      nothing : (first : Waiting) (rest : List Waiting) → [] ≡ first ∷ rest → ⊥
      nothing first rest e = cc

get_ordered : (chip : Chip) (tile : ℕ) (side : CacheSide) (q : Request) (demand : Demand) (place m : ℕ) (w : Owner) (kind : Kind) (words : Option (List ℕ)) → q.kind ≡ kind → is_get kind ≡ true
    → words_here chip side demand demand.early ≡ words → SideFits chip side → side.misses.demand ≡ Some demand → IsRequestOf demand q → q.source ≡ tile
    → FitsWriter chip tile side m w → FitsWriter chip tile (ordered_with chip side place demand words).side m (writer_after m w q)
get_ordered chip tile side q demand place m w kind (Some words) kind_is get here fits stands is own law =
    let fit = fits.demand demand stands in
    writers_completed chip tile side demand place words m w (writer_after m w q) fit stands
    (λ at. own_completes chip tile side q demand m w fit is own at)
    (λ away. writer_away m w q (ap (λ (l : ℕ). m == l) (sym is.line) ∙ away)) law
get_ordered chip tile side q demand place m w kind None kind_is get here fits stands is own law = by (m == demand.line) refl where
  fit : DemandFits chip side.cache demand
  fit = fits.demand demand stands

  by : (b : Bool) → (m == demand.line) ≡ b → FitsWriter chip tile (with_demand (Some (record demand { ordered = Some place })) side) m (writer_after m w q)
  by true e = waits_here chip tile side q demand place m w kind kind_is get fit is own (lacks_words chip side demand fit here).unowned e
  by false e = fits_by tile (is_ordered_write m side.misses.demand) (is_ordered_write m (Some (record demand { ordered = Some place })))
      (lookup chip side.cache m) (lookup chip side.cache m) w (writer_after m w q)
      (other_waits (record demand { ordered = Some place }) m e ∙ sym (ap (is_ordered_write m) stands ∙ other_waits demand m e))
      refl (writer_away m w q (ap (λ (l : ℕ). m == l) (sym is.line) ∙ e)) law

writers_get : (chip : Chip) (tile : ℕ) (side : CacheSide) (q : Request) (place m : ℕ) (w : Owner) → is_get q.kind ≡ true → MeetsDemand side q → q.source ≡ tile → SideFits chip side
    → FitsWriter chip tile side m w → FitsWriter chip tile (own_get chip side place side.misses.demand).side m (writer_after m w q)
writers_get chip tile side q place m w get meets own fits law =
    subst (λ (entry : Option Demand). FitsWriter chip tile (own_get chip side place entry).side m (writer_after m w q)) (sym meets.1)
    (get_ordered chip tile side q meets.0 place m w q.kind (words_here chip side meets.0 meets.0.early) refl get refl fits meets.1 meets.2 own law)

put_absent : (chip : Chip) (side : CacheSide) (q : Request) (m : ℕ) → MeetsBack side q → SideFits chip side → (m == q.line) ≡ true → lookup chip side.cache m ≡ None
put_absent chip side q m meets fits here = ap (lookup chip side.cache) (eqb-true m q.line here ∙ sym meets.2.line) ∙ fits.back meets.0 meets.1

writers_put : (chip : Chip) (tile : ℕ) (side : CacheSide) (q : Request) (m : ℕ) (w : Owner) → MeetsBack side q → SideFits chip side
    → FitsWriter chip tile side m w → FitsWriter chip tile (own_put chip side side.misses.back).side m (writer_after m w q)
writers_put chip tile side q m w meets fits law =
    subst (λ (entry : Option WriteBack). FitsWriter chip tile (own_put chip side entry).side m (writer_after m w q)) (sym meets.1) (by (m == q.line) refl) where
      by : (b : Bool) → (m == q.line) ≡ b → FitsWriter chip tile (with_back None side) m (writer_after m w q)
      by true e = fits_none tile (is_ordered_write m side.misses.demand) (lookup chip side.cache m) (writer_after m w q) (put_absent chip side q m meets fits e)
      by false e = ap (fits_copy tile (is_ordered_write m side.misses.demand) (lookup chip side.cache m)) (writer_away m w q e) ∙ law

own_by : (chip : Chip) (tile : ℕ) (side : CacheSide) (q : Request) (place m : ℕ) (w : Owner) (kind : Kind) → q.kind ≡ kind → MeetsOwn side q kind → q.source ≡ tile → SideFits chip side
    → FitsWriter chip tile side m w → FitsWriter chip tile (own_request chip side place kind).side m (writer_after m w q)
own_by chip tile side q place m w GetS kind meets own fits law = writers_get chip tile side q place m w (ap is_get kind) meets own fits law
own_by chip tile side q place m w GetM kind meets own fits law = writers_get chip tile side q place m w (ap is_get kind) meets own fits law
own_by chip tile side q place m w PutM kind meets own fits law = writers_put chip tile side q m w meets fits law

-- a request is delivered
pub writers_snooped : (chip : Chip) (tile : ℕ) (side : CacheSide) (place : ℕ) (q : Request) (m : ℕ) (w : Owner) → SideFits chip side → OwnRequestFits tile side q
    → FitsWriter chip tile side m w → FitsWriter chip tile (after_snoop chip tile side place q).side m (writer_after m w q)
unfolding after_snoop
writers_snooped chip tile side place q m w fits own law =
    cond_both (q.source == tile) (own_request chip side place q.kind) (snooped_with chip q side (holding chip side q.line) q.kind)
    (λ outcome. FitsWriter chip tile outcome.side m (writer_after m w q))
    (λ same. own_by chip tile side q place m w q.kind refl (own (eqb-true q.source tile same)) (eqb-true q.source tile same) fits law)
    (λ other. writers_other chip tile side q m w fits other law)

-- ---- words come

data_by : (chip : Chip) (tile : ℕ) (side : CacheSide) (words : List ℕ) (demand : Demand) (m : ℕ) (w : Owner) (place : Option ℕ) → SideFits chip side → side.misses.demand ≡ Some demand
    → demand.ordered ≡ place → ((at : ℕ) → demand.ordered ≡ Some at → (m == demand.line) ≡ true → CompletesFor tile demand w)
    → FitsWriter chip tile side m w → FitsWriter chip tile (data_at chip side words demand place).side m w
data_by chip tile side words demand m w (Some place) fits stands ordered told law =
    writers_completed chip tile side demand place words m w w (fits.demand demand stands) stands (told place ordered) (λ away. refl) law
data_by chip tile side words demand m w None fits stands unordered told law =
    ap (λ (b : Bool). fits_copy tile b (lookup chip side.cache m) w) (ap (is_ordered_write m) (sym stands)) ∙ law

data_of : (chip : Chip) (tile : ℕ) (side : CacheSide) (words : List ℕ) (entry : Option Demand) (m : ℕ) (w : Owner) → SideFits chip side → side.misses.demand ≡ entry
    → ((demand : Demand) (place : ℕ) → entry ≡ Some demand → demand.ordered ≡ Some place → (m == demand.line) ≡ true → CompletesFor tile demand w)
    → FitsWriter chip tile side m w → FitsWriter chip tile (data_for chip side words entry).side m w
data_of chip tile side words None m w fits stands told law = law
data_of chip tile side words (Some demand) m w fits stands told law = data_by chip tile side words demand m w demand.ordered fits stands refl (λ at. told demand at refl) law

pub writers_data : (chip : Chip) (tile : ℕ) (side : CacheSide) (words : List ℕ) (m : ℕ) (w : Owner) → SideFits chip side
    → ((demand : Demand) (place : ℕ) → side.misses.demand ≡ Some demand → demand.ordered ≡ Some place → (m == demand.line) ≡ true → CompletesFor tile demand w)
    → FitsWriter chip tile side m w → FitsWriter chip tile (after_data chip side words).side m w
unfolding after_data
writers_data chip tile side words m w fits told law = data_of chip tile side words side.misses.demand m w fits refl told law

-- ---- an access of the core
abbrev FitsNode : ℕ → Owner → Node → Type 0
FitsNode m w node = FitsWriter node.chip node.tile node.side m w

started_fits : (chip : Chip) (tile : ℕ) (side : CacheSide) (cache : Cache) (demand : Demand) (m : ℕ) (w : Owner) → side.misses.demand ≡ None → demand.ordered ≡ None
    → fits_copy tile false (lookup chip cache m) w ≡ true → FitsWriter chip tile (with_demand (Some demand) (with_cache cache side)) m w
started_fits chip tile side cache demand m w free unordered fits =
    ap (λ (b : Bool). fits_copy tile b (lookup chip cache m) w) (unordered_waits demand m unordered) ∙ fits

taken_fits : (chip : Chip) (tile : ℕ) (waits : Bool) (cache : Cache) (line m : ℕ) (w : Owner) → fits_copy tile waits (lookup chip cache m) w ≡ true
    → fits_copy tile waits (lookup chip (without_line chip line cache) m) w ≡ true
taken_fits chip tile waits cache line m w fits = ap (λ (copy : Option Held). fits_copy tile waits copy w) (lookup-without_line chip cache line m) ∙ by (m == line) where
  by : (b : Bool) → fits_copy tile waits (cond b None (lookup chip cache m)) w ≡ true
  by true = refl
  by false = fits

wrote_fits : (chip : Chip) (tile : ℕ) (waits : Bool) (cache : Cache) (line : ℕ) (held : Held) (words : List ℕ) (m : ℕ) (w : Owner) → lookup chip cache line ≡ Some held
    → fits_copy tile waits (lookup chip cache m) w ≡ true → fits_copy tile waits (lookup chip (installed chip (record held { words = words }) cache) m) w ≡ true
wrote_fits chip tile waits cache line held words m w there law =
    ap (λ (copy : Option Held). fits_copy tile waits copy w) (lookup-installed chip cache (record held { words = words }) m room) ∙ by (m == held.line) refl where
      at : lookup chip cache held.line ≡ Some held
      at = ap (lookup chip cache) (lookup-line chip cache line held there) ∙ there

      room : fits chip cache held.line ≡ true
      room = fits_held chip cache held.line (ap is_some at)

      by : (b : Bool) → (m == held.line) ≡ b → fits_copy tile waits (cond b (Some (record held { words = words })) (lookup chip cache m)) w ≡ true
      by true e = ap (λ (copy : Option Held). fits_copy tile waits copy w) (sym (ap (lookup chip cache) (eqb-true m held.line e) ∙ at)) ∙ law
      by false e = law

pub writers_accessed : (access : Pending) (node : Node) (step : Performed) (m : ℕ) (w : Owner) → node_after_access access node ≡ Some step → SideFits node.chip node.side
    → FitsWriter node.chip node.tile node.side m w → FitsWriter step.0.chip step.0.tile step.0.side m w
writers_accessed access node step m w done fits law =
    let free = accessed_free access node step done in
    let alone : fits_copy node.tile false (lookup node.chip node.side.cache m) w ≡ true =
    ap (λ (b : Bool). fits_copy node.tile b (lookup node.chip node.side.cache m) w) (sym (ap (is_ordered_write m) free)) ∙ law in
    access_forms access node step (FitsNode m w) fits.cache (record {
      hit = law;
      wrote = λ held there modified words. wrote_fits node.chip node.tile (is_ordered_write m node.side.misses.demand) node.side.cache (line_of access.address) held words m w there law;
      missed = λ a at apart absent room. started_fits node.chip node.tile node.side node.side.cache (started_by a) m w free refl alone;
      upgraded = λ a at apart changes held there unmodified. started_fits node.chip node.tile node.side node.side.cache (started_by a) m w free refl alone;
      made_room = λ a at apart absent cache drops. started_fits node.chip node.tile node.side cache (started_by a) m w free refl
          (ap (λ (c : Cache). fits_copy node.tile false (lookup node.chip c m) w) drops.dropped
          ∙ taken_fits node.chip node.tile false node.side.cache drops.was.line m w alone);
      put_back = λ held puts queue none. taken_fits node.chip node.tile (is_ordered_write m node.side.misses.demand) node.side.cache held.line m w law;
    }) done

-- ---- the request is sent
sent_waits : (m : ℕ) (entry : Option Demand) → is_ordered_write m (sent_demand entry) ≡ is_ordered_write m entry
sent_waits m None = refl
sent_waits m (Some demand) = refl

pub sent_orders : (m : ℕ) (misses : Misses) → is_ordered_write m (marked_sent misses).demand ≡ is_ordered_write m misses.demand
unfolding marked_sent
sent_orders m misses = sent_forms misses.demand misses.back (λ after. is_ordered_write m after.demand ≡ is_ordered_write m misses.demand) (record {
  get = sent_waits m misses.demand;
  put = λ back stands. refl;
})
