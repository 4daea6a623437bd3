-- Words that were written back come to their line's home: the record has them, and each tile that waits there gets them. They have
-- the value that the line had where it was written back last, and no tile has come to write it since. All values stay.
use Rattle.std.proofs.Common.{◌≡◌, ◌≢◌, ℕ, ◌+◌, ◌-◌, ◌<◌, ◌≤◌, Bool, true, false, cond, refl, sym, ◌∙◌, ap, subst, arith, inl, inr, Option, Some, None, List, [], ◌++◌, take, length}
use Rattle.std.specs.Prelude.{◌==◌, ◌&&◌, filter, slice_get, slice_index_or}
use Rattle.std.proofs.lemmas.Bool.{both_ways, cases_lt, cases_eq, eqb-true, eq-eqb, and_parts}
use Rattle.std.proofs.lemmas.Option.{same_Some, slice_get_within}
use Rattle.mesh_gen.specs.declared.kind.Kind.TheVariants.{GetM}
use Rattle.mesh_gen.specs.declared.request.Request.{Request}
use Rattle.mesh_gen.specs.declared.msg.Msg.{Msg}
use Rattle.mesh_gen.specs.declared.msg_kind.MsgKind.TheVariants.{Data}
use Rattle.vc_bank.specs.Places.{at as stands_at}
use Rattle.report_text.specs.declared.access.Access.{Access}
use Rattle.doc_text.specs.Doc.{Doc}
use Rattle.chip_model.specs.declared.owner.Owner.{Owner}
use Rattle.chip_model.specs.declared.owner.Owner.TheVariants.{Memory, Tile}
use Rattle.chip_model.specs.declared.waiting.Waiting.{Waiting}
use Rattle.chip_model.specs.Chip.{chip_of, home}
use Rattle.chip_model.specs.Cache.{lookup}
use Rattle.chip_model.specs.Misses.{is_getm}
use Rattle.chip_model.specs.Records.{LineRecord, returned, returned_at, back_arrived}
use Rattle.chip_model.specs.Snoop.{data_to}
use Rattle.chip_model.specs.Node.{Node, back_came}
use Rattle.chip_model.specs.Units.{UnitState}
use Rattle.chip_model.specs.ChipState.{ChipState}
use Rattle.chip_model.specs.NodeShape.{is_modified}
use Rattle.chip_model.specs.Ownership.{owner, delivered_to}
use Rattle.chip_model.specs.Bookkeeping.{is_get, between, up_to_getm, waiting_for}
use Rattle.chip_model.specs.Suppliers.{count_of, delivered_at, supplier, writes_back, last_written_back, next_written_back, has_reached_memory, waiters_after}
use Rattle.chip_model.specs.Witness.{line_value}
use Rattle.chip_model.specs.Values.{HasValue, MessageHasValue, RecordHasValue, ComesFromWriteBack, place_of_shared, NodeHasValues, ValuesHold}
use Rattle.chip_model.specs.ChipInvariant.{ProtocolHolds}
use Rattle.chip_laws.specs.DocLaws.{DocLaws}
use Rattle.chip_laws.specs.EventSteps.{ChangesUnit}
use Rattle.chip_laws.proofs.Options.{none_some}
use Rattle.chip_laws.proofs.OrderFrames.{known_of}
use Rattle.chip_laws.proofs.RequestsInside.{tile_of, source_inside}
use Rattle.chip_laws.proofs.SuppliedEvents.{unit_holds}
use Rattle.supply_laws.specs.OpenGets.{NoneWritesBackBefore}
use Rattle.supply_laws.proofs.GetPlaces.{get_of}
use Rattle.supply_laws.proofs.LaterBacks.{none_after_open}
use Rattle.supply_laws.proofs.LastPlaces.{LastIs, IsLastOf, NextIs}
use Rattle.supply_laws.proofs.OneToComes.{to_come_by}
use Rattle.supply_laws.proofs.OwnerGets.{back_of}
use Rattle.supply_laws.proofs.ReachedWords.{not_reached}
use Rattle.supply_laws.proofs.WordsDue.{due}
use Rattle.supply_laws.proofs.WriteBackPlaces.{last_of_all, next_after}
use Rattle.value_laws.proofs.AnsweredValues.{is_set, home_is}
use Rattle.value_laws.proofs.OwnDeliveries.{of_append}
use Rattle.value_laws.proofs.OwnersOn.{none_may_write, memory_after_back, memory_owned, first_write}
use Rattle.value_laws.proofs.PlacesOn.{value_until}
use Rattle.value_laws.proofs.SettledSteps.{OrdersNothing, now}
use Rattle.value_laws.proofs.StepValues.{KeepsSettled, quiet_keeps, value_on, itself_copy_on, message_on, early_on, record_on, values_on}
use Rattle.value_laws.proofs.WaitersOf.{WaitsAtPlace, waits_at_place, of_map}

-- ---- at a home, from the order
module _ (d : Doc) (s : ChipState) (fits : DocLaws d) (holds : ProtocolHolds d s) (none : NoneWritesBackBefore s) (t : ℕ) (unit : UnitState)
    (at : slice_get s.units t ≡ Some unit)
    (line : ℕ) (here : home (chip_of d) line ≡ t) where
  abbrev ordered : List Request
  ordered = s.network.ordered

  -- a GetM that this home is to supply is not complete, so that nobody writes its line back later
  none_beyond : (g place : ℕ) (get : Request) → unit.node.delivered ≤ g → slice_get ordered g ≡ Some get → get.kind ≡ GetM → get.line ≡ line
      → owner line (take g ordered) ≡ Memory
      → g < place → writes_back line ordered place ≡ false
  none_beyond g place get beyond there kind same owned before =
      let tile = tile_of d s get.source holds (source_inside d s g get fits holds there) in
      let supplies : supplier (chip_of d) get.line (owner get.line (take g ordered)) ≡ t =
      ap (λ (l : ℕ). supplier (chip_of d) l (owner l (take g ordered))) same ∙ ap (supplier (chip_of d) line) owned ∙ here in
      let count : delivered_at s (supplier (chip_of d) get.line (owner get.line (take g ordered))) ≡ unit.node.delivered =
      ap (delivered_at s) supplies ∙ ap count_of at in
      none_after_open d s line g fits holds none (record {
        get = get;
        at = there;
        kind = kind;
        same = same;
        unit = tile.unit;
        unit_at = tile.unit_at;
        waits =
            tile.holds.serves.one g (to_come_by (chip_of d) s get.source g get there (get_of get.source get (ap is_get kind) refl)
            (omega (arith, count, beyond)));
      }) place before

  -- so from a place on that the home has not passed, at which the memory owns the line, nobody writes it back
  no_back_from : (from place : ℕ) → unit.node.delivered ≤ from → owner line (take from ordered) ≡ Memory → from ≤ place
      → writes_back line ordered place ≡ true → ⊥
  no_back_from from place beyond owned later writes =
      let back = back_of line place ordered writes in
      let sum : from + (place - from) ≡ place = omega (arith, later) in
      let within = slice_get_within ordered place back.put back.at in
      elim (first_write line from (place - from) ordered (omega (arith, sum, within)) owned) [
        | inl still ↦ (
            let clash : Memory ≡ Tile back.put.source = sym still ∙ (ap (λ (k : ℕ). owner line (take k ordered)) sum ∙ back.owned) in
            absurd (cc))
        | inr first ↦ absurd (both_ways (writes_back line ordered place)
            (none_beyond first.place place first.get (omega (arith, beyond, first.beyond)) first.at first.kind first.same first.owned
            (omega (arith, first.before, sum))) writes)
      ]

  -- ---- words that were written back last
  module _ (place : ℕ) (words : List ℕ) (put : last_written_back line ordered ≡ Some place) (has : HasValue d s line place words) where
    last : IsLastOf (writes_back line ordered) 0 (length ordered) place
    last = subst (LastIs (writes_back line ordered) 0 (length ordered)) put (last_of_all line ordered)

    -- where the memory owns the line at home, they have its value there
    memory_value : owner line (take unit.node.delivered ordered) ≡ Memory → HasValue d s line unit.node.delivered words
    memory_value owned = elim (cases_lt place unit.node.delivered) [
      | inl before ↦
          value_until d s line place unit.node.delivered words holds before (λ k above below.
          none_may_write line (take k ordered)
          (memory_owned line k unit.node.delivered ordered (omega (arith, below)) (known_of d s holds t unit at).within owned (λ j from to.
          last.after j (omega (arith, above, from)) (omega (arith, to, (known_of d s holds t unit at).within))))) has
      | inr later ↦ absurd (no_back_from unit.node.delivered place (omega arith) owned later last.passes)
    ]

    -- where a tile owns it, the next request that writes it back is that one
    next_value : (next : ℕ) → next_written_back s line unit.node.delivered ≡ Some next → HasValue d s line next words
    next_value next is = elim (cases_eq place next) [
      | inl same ↦ subst (λ (k : ℕ). HasValue d s line k words) same has
      | inr away ↦ (
          let found = subst (NextIs (writes_back line ordered) (length ordered) unit.node.delivered) is (next_after line unit.node.delivered ordered) in
          by found away)
    ]
      where
        by : NextIs (writes_back line ordered) (length ordered) unit.node.delivered (Some next) → place ≢ next → HasValue d s line next words
        by found away = elim (cases_lt place next) [
          | inl earlier ↦ absurd (both_ways (writes_back line ordered next) (last.after next earlier (omega (arith, found.below))) found.passes)
          | inr later ↦
              absurd (no_back_from (next + 1) place (omega (arith, found.beyond)) (memory_after_back line next ordered found.passes)
              (omega (arith, later, away)) last.passes)
        ]

    record_value : (r : LineRecord) (o : Owner) → r.words ≡ words → o ≡ owner line (take unit.node.delivered ordered) → RecordHasValue d s unit.node line r o
    record_value r Memory same owned = subst (HasValue d s line unit.node.delivered) (sym same) (memory_value (sym owned))
    record_value r (Tile u) same owned = λ next is. subst (HasValue d s line next) (sym same) (next_value next is)

    -- ---- those that wait
    abbrev counts : Request → Bool
    counts q = is_get q.kind && (q.line == line)

    counts_of : (q : Request) → q.kind ≡ GetM → q.line ≡ line → counts q ≡ true
    counts_of q kind same = ap (λ (b : Bool). b && (q.line == line)) (ap is_get kind) ∙ eq-eqb q.line line same

    -- up to the get of one that waits no tile has asked to write the line
    owned_until : (below : ℕ) (w : Waiting) (waits : WaitsAtPlace counts ordered place below w) (k : ℕ) → place < k → k < waits.place + 1
        → owner line (take k ordered) ≡ Memory
    owned_until below w waits k above less =
        let sum : place + 1 + (k - (place + 1)) ≡ k = omega (arith, above) in
        let within = slice_get_within ordered waits.place waits.get waits.at in
        elim (first_write line (place + 1) (k - (place + 1)) ordered (omega (arith, sum, less, within)) (memory_after_back line place ordered last.passes)) [
          | inl still ↦ subst (λ (m : ℕ). owner line (take m ordered) ≡ Memory) sum still
          | inr first ↦ absurd (both_ways (is_getm first.get.kind)
              (waits.first first.place first.get (omega (arith, first.beyond)) (omega (arith, first.before, sum, less)) first.at
              (counts_of first.get first.kind first.same))
              (ap is_getm first.kind))
        ]

    -- the words answer the get of one that waits
    answers_waiting : 0 < due s line → (below : ℕ) (w : Waiting) → WaitsAtPlace counts ordered place below w
        → MessageHasValue d s (data_to w.tile line words) Data
    answers_waiting some below w waits other there =
        let tile : w.tile ≡ waits.get.source = ap (λ (v : Waiting). v.tile) waits.is in
        let parts = and_parts (is_get waits.get.kind) (waits.get.line == line) waits.passes in
        let same : waits.get.line ≡ line = eqb-true waits.get.line line parts.1 in
        record {
          place = waits.place;
          request = waits.get;
          get =
              (holds.wait line).after_back place waits.place waits.get some put waits.beyond waits.at parts.0 same other
              (ap (slice_get s.units) (sym tile) ∙ there);
          at = waits.at;
          line_is = same;
          value =
              value_until d s line place waits.place words holds waits.beyond
              (λ k above below_k. none_may_write line (take k ordered) (owned_until below w waits k above below_k)) has;
        }

    -- who waits at the record stands for a get after the place at which the words were written back
    waits_after : (list : List Waiting) (o : Option ℕ) → list ≡ waiters_after s unit.node line o → (i : ℕ) (w : Waiting) → slice_get list i ≡ Some w
        → WaitsAtPlace counts ordered place unit.node.delivered w
    waits_after list None is i w stands = none_some w (ap (λ (xs : List Waiting). slice_get xs i) (sym is) ∙ stands)
    waits_after list (Some p) is i w stands = by (has_reached_memory s line p) refl (ap (λ (xs : List Waiting). slice_get xs i) (sym is) ∙ stands) where
      by : (reached : Bool) → has_reached_memory s line p ≡ reached
          → slice_get (cond {A = List Waiting} (has_reached_memory s line p) []
          (waiting_for (up_to_getm (filter counts (between p unit.node.delivered ordered))))) i ≡ Some w
          → WaitsAtPlace counts ordered place unit.node.delivered w
      by true reached x =
          none_some w (sym (ap (λ (b : Bool). slice_get
          (cond {A = List Waiting} b [] (waiting_for (up_to_getm (filter counts (between p unit.node.delivered ordered))))) i) reached) ∙ x)
      by false late x =
          let same : p ≡ place = same_Some p place (sym (not_reached s line p late).last ∙ put) in
          subst (λ (k : ℕ). WaitsAtPlace counts ordered k unit.node.delivered w) same
          (waits_at_place counts ordered p unit.node.delivered i w
          (sym (ap (λ (b : Bool). slice_get (cond {A = List Waiting} b []
          (waiting_for (up_to_getm (filter counts (between p unit.node.delivered ordered))))) i) late) ∙ x))

    waits_there : (r : LineRecord) → slice_index_or unit.node.records line None ≡ Some r → (i : ℕ) (w : Waiting) → slice_get r.waiters i ≡ Some w
        → WaitsAtPlace counts ordered place unit.node.delivered w
    waits_there r there i w stands =
        let waiters = (unit_holds d s t unit holds at).holds.serves.waiters line r there in
        by r.fresh waiters
      where
        by : (fresh : Bool)
            → r.waiters ≡ cond {A = List Waiting} fresh [] (waiters_after s unit.node line (last_written_back line (delivered_to ordered unit.node)))
            → WaitsAtPlace counts ordered place unit.node.delivered w
        by true is = none_some w (ap (λ (xs : List Waiting). slice_get xs i) (sym is) ∙ stands)
        by false is = waits_after r.waiters (last_written_back line (delivered_to ordered unit.node)) is i w stands

-- ---- the step
module _ (d : Doc) (s new : ChipState) (e : OrdersNothing d s new) (values : ValuesHold d s) (fits : DocLaws d) (none : NoneWritesBackBefore s) (t : ℕ)
    (unit after : UnitState)
    (c : ChangesUnit s new t unit after) (accesses : new.accesses ≡ s.accesses) (line : ℕ) (words : List ℕ) (inside : line < (chip_of d).lines)
    (some : 0 < due s line)
    (comes : ComesFromWriteBack d s line words) (node : after.node ≡ back_came unit.node line words) where
  was : NodeHasValues d s unit.node
  was = values.nodes t unit c.at

  here : (r : LineRecord) → slice_index_or unit.node.records line None ≡ Some r → home (chip_of d) line ≡ t
  here r there = home_is d s t unit line r e.before c.at inside there

  count : after.node.delivered ≡ unit.node.delivered
  count = ap (λ (x : Node). x.delivered) node

  demand : after.node.side.misses.demand ≡ unit.node.side.misses.demand
  demand = ap (λ (x : Node). x.side.misses.demand) node

  keeps : KeepsSettled d s new unit after
  keeps = quiet_keeps d s new e t unit after c accesses (λ m only. ap (λ (x : Node). is_modified (lookup x.chip x.side.cache m)) (sym node) ∙ only)

  shared : (m : ℕ) → place_of_shared after.node m ≡ place_of_shared unit.node m
  shared m = ap (λ (x : Node). place_of_shared x m) node

  sends : (i : ℕ) (msg : Msg) → slice_get (back_arrived line words unit.node.records).sends i ≡ Some msg → MessageHasValue d s msg msg.kind
  unfolding back_arrived
  sends i msg sent = by (slice_index_or unit.node.records line None) refl sent where
    by : (entry : Option LineRecord) → slice_index_or unit.node.records line None ≡ entry
        → slice_get (returned_at line words unit.node.records entry).sends i ≡ Some msg
        → MessageHasValue d s msg msg.kind
    by None there x = none_some msg x
    by (Some r) there x =
        let (w, at, is) = of_map (λ (waiting : Waiting). data_to waiting.tile line words) r.waiters i msg x in
        subst (λ (m : Msg). MessageHasValue d s m m.kind) is
        (answers_waiting d s fits e.before none t unit c.at line (here r there) comes.place words comes.put comes.value some unit.node.delivered w
        (waits_there d s fits e.before none t unit c.at line (here r there) comes.place words comes.put comes.value r there i w at))

  records : (m : ℕ) (r : LineRecord) → slice_index_or (back_arrived line words unit.node.records).records m None ≡ Some r → r.fresh ≡ true
      → RecordHasValue d s unit.node m r r.owner
  unfolding back_arrived
  records m r there fresh = by (slice_index_or unit.node.records line None) refl there where
    by : (entry : Option LineRecord) → slice_index_or unit.node.records line None ≡ entry
        → slice_index_or (returned_at line words unit.node.records entry).records m None ≡ Some r
        → RecordHasValue d s unit.node m r r.owner
    by None at x = was.records m r x fresh
    by (Some old) at x = elim (is_set unit.node.records line m old (returned words old) r at x) [
      | inl same ↦
          subst (λ (k : ℕ). RecordHasValue d s unit.node k r r.owner) (sym same.0)
          (record_value d s fits e.before none t unit c.at line (here old at) comes.place words comes.put comes.value r r.owner
          (ap (λ (y : LineRecord). y.words) same.1)
          (ap (λ (y : LineRecord). y.owner) same.1 ∙ (unit_holds d s t unit e.before c.at).holds.serves.owns.records line old at))
      | inr away ↦ was.records m r away fresh
    ]

  sent : (i : ℕ) (msg : Msg) → slice_get (unit.node.out ++ (back_arrived line words unit.node.records).sends) i ≡ Some msg → MessageHasValue d s msg msg.kind
  sent i msg at = elim (of_append unit.node.out (back_arrived line words unit.node.records).sends i msg at) [
    | inl queued ↦ was.out i msg queued
    | inr waits ↦ sends waits.0 msg waits.1
  ]

  node_values : NodeHasValues d new after.node
  node_values = record {
    copies = λ m held there.
        itself_copy_on d s new e t unit after c keeps m held held.state count (shared m)
        (λ only. ap (λ (xs : List Access). line_value d xs m unit.node.delivered) accesses)
        (was.copies m held (ap (λ (x : Node). lookup x.chip x.side.cache m) (sym node) ∙ there));
    back = λ back there live.
        subst (λ (k : ℕ). HasValue d new back.line k back.words) (sym count)
        (value_on d s new e t unit after c keeps back.line unit.node.delivered back.words
        (was.back back (ap (λ (x : Node). x.side.misses.back) (sym node) ∙ there) live));
    early = λ x ws there early.
        early_on d s new e t unit after c keeps t unit after x ws c.at (now d s new e t unit after c) there early (was.early x ws (sym demand ∙ there) early);
    out = λ i msg there.
        message_on d s new e t unit after c keeps msg (λ is_data. e.answers.queued t i after msg (now d s new e t unit after c) there is_data)
        (sent i msg (ap (λ (x : Node). slice_get x.out i) (sym node) ∙ there));
    records = λ m r there fresh.
        record_on d s new e t unit after c keeps unit.node after.node m r r.owner count
        (records m r (ap (λ (x : Node). slice_index_or x.records m None) (sym node) ∙ there) fresh);
  }

  returned_from : ((router port slot : ℕ) (msg : Msg) → stands_at new.replies router port slot ≡ Some msg → stands_at s.replies router port slot ≡ Some msg)
      → ValuesHold d new
  returned_from left =
      values_on d s new e t unit after c keeps values node_values
      (λ router port slot msg there. values.channels router port slot msg (left router port slot msg there))

-- words that were written back and come home keep all values
pub returned_values : (d : Doc) (s new : ChipState) → OrdersNothing d s new → ValuesHold d s → DocLaws d → NoneWritesBackBefore s
    → (t : ℕ) (unit after : UnitState)
    → ChangesUnit s new t unit after → (line : ℕ) (words : List ℕ) → line < (chip_of d).lines → 0 < due s line → ComesFromWriteBack d s line words
    → after.node ≡ back_came unit.node line words → new.accesses ≡ s.accesses
    → ((router port slot : ℕ) (msg : Msg) → stands_at new.replies router port slot ≡ Some msg → stands_at s.replies router port slot ≡ Some msg)
    → ValuesHold d new
returned_values d s new e values fits none t unit after c line words inside some comes node accesses left =
    returned_from d s new e values fits none t unit after c accesses line words inside some comes node left
