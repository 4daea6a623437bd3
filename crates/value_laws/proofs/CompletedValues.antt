-- A demand completes: what its node has of lines afterwards, and the words for the tiles that waited, have their values.
use Rattle.std.proofs.Common.{◌≡◌, ◌≢◌, ℕ, ◌<◌, ◌≤◌, Bool, true, false, cond, refl, sym, ◌∙◌, ap, subst, arith, inl, inr, ◌⊎◌, Option, Some, None, List}
use Rattle.std.specs.Prelude.{◌==◌, ◌&&◌, not, slice_get, slice_index_or}
use Rattle.std.proofs.lemmas.Bool.{false≢true, and_parts, eqb-true}
use Rattle.mesh_gen.specs.declared.kind.Kind.TheVariants.{GetM}
use Rattle.mesh_gen.specs.declared.msg.Msg.{Msg}
use Rattle.doc_text.specs.Doc.{Doc}
use Rattle.chip_model.specs.declared.waiting.Waiting.{Waiting}
use Rattle.chip_model.specs.Chip.{Chip}
use Rattle.chip_model.specs.Cache.{Held, lookup}
use Rattle.chip_model.specs.Misses.{Misses, Demand, WriteBack, is_getm, ends_in_getm}
use Rattle.chip_model.specs.Records.{LineRecord}
use Rattle.chip_model.specs.Snoop.{CacheSide, data_to, completed, completed_load, completed_store, written_by}
use Rattle.chip_model.specs.Units.{UnitState}
use Rattle.chip_model.specs.ChipState.{ChipState}
use Rattle.chip_model.specs.NodeShape.{is_modified}
use Rattle.chip_model.specs.Bookkeeping.{is_get}
use Rattle.chip_model.specs.Suppliers.{place_of_get}
use Rattle.chip_model.specs.Writers.{IsSettled, is_ordered_write}
use Rattle.chip_model.specs.Values.{HasValue, HasOwnValue, CopyHasValue, place_of_demand, place_of_shared, AnswersGet, MessageHasValue, RecordHasValue, NodeHasValues}
use Rattle.chip_laws.specs.EventSteps.{ChangesUnit}
use Rattle.chip_laws.proofs.Options.{none_some}
use Rattle.chip_laws.proofs.SuppliedEvents.{unit_holds}
use Rattle.chip_laws.proofs.UnderWay.{completed_none}
use Rattle.value_laws.specs.Sequences.{AreSucceeding}
use Rattle.value_laws.proofs.Completion.{Completion, fits, write_asks, value_elsewhere}
use Rattle.value_laws.proofs.CompletedCopies.{CopyLeft, IsLeft, loaded, stored, shared, asks_write, copies_left}
use Rattle.value_laws.proofs.SettledSteps.{OrdersNothing, now, still_at, settled_on}
use Rattle.value_laws.proofs.StepValues.{KeepsSettled, with_itself, waits_place, place_on, message_on}
use Rattle.value_laws.proofs.StoredWords.{is_of_others, loaded_value, stored_value, reads_after_store, asks_before}
use Rattle.value_laws.proofs.WaitersOf.{WaitsAtPlace, waits_at_place, of_map}

module _ (d : Doc) (s new : ChipState) (e : OrdersNothing d s new) (t : ℕ) (unit after : UnitState) (c : ChangesUnit s new t unit after)
    (is : Completion d s new t unit after)
    (turn : AreSucceeding s.accesses) where
  -- ---- the node afterwards
  chip : after.node.chip ≡ unit.node.chip
  chip = (unit_holds d new t after e.behind (now d s new e t unit after c)).holds.node.chip ∙ sym (unit_holds d s t unit e.before c.at).holds.node.chip

  misses : after.node.side.misses ≡ record unit.node.side.misses { demand = None }
  misses = ap (λ (side : CacheSide). side.misses) is.side ∙ completed_none unit.node.chip is.demand is.place is.words unit.node.side

  pub idle : after.node.side.misses.demand ≡ None
  idle = ap (λ (m : Misses). m.demand) misses

  pub back_stood : (back : WriteBack) → after.node.side.misses.back ≡ Some back → unit.node.side.misses.back ≡ Some back
  back_stood back stands = ap (λ (m : Misses). m.back) (sym misses) ∙ stands

  left : (line : ℕ) (held : Held) → lookup after.node.chip after.node.side.cache line ≡ Some held
      → IsLeft unit.node.chip unit.node.side.cache is.demand is.words line held
  left line held there =
      copies_left unit.node.chip unit.node.side is.demand is.place is.words line held (fits d s new t unit after e.before is)
      (ap (λ (side : CacheSide). lookup unit.node.chip side.cache line) (sym is.side) ∙
      (ap (λ (x : Chip). lookup x after.node.side.cache line) (sym chip) ∙ there))

  -- it waits for nothing, so its shared copies have their value at its count
  pub shared_at : (line : ℕ) → place_of_shared after.node line ≡ after.node.delivered
  shared_at line = ap (λ (o : Option Demand). cond (is_ordered_write line o) (place_of_demand o after.node.delivered) after.node.delivered) idle

  -- ---- what was settled stays so
  modified : (line p : ℕ) (held : Held) → IsSettled s.network.ordered unit.node line p
      → IsLeft unit.node.chip unit.node.side.cache is.demand is.words line held → is_modified (Some held) ≡ true
      → (is_modified (lookup unit.node.chip unit.node.side.cache line) ≡ true) ⊎ (p < after.node.delivered)
  modified line p held settled (inl other) only = inl (ap is_modified other.1 ∙ only)
  modified line p held settled (inr (here, loaded kind kept copy)) only = absurd (false≢true (sym (ap (λ (x : Held). is_modified (Some x)) copy) ∙ only))
  modified line p held settled (inr (here, stored kind alone copy)) only =
      let early = is.late kind p (subst (λ (l : ℕ). IsSettled s.network.ordered unit.node l p) here settled) in inr (omega (arith, early, is.reached))
  modified line p held settled (inr (here, shared kind goes_on copy)) only = absurd (false≢true (sym (ap (λ (x : Held). is_modified (Some x)) copy) ∙ only))

  pub completion_keeps : KeepsSettled d s new unit after
  completion_keeps = record {
    settled = λ line p settled. settled_on d s new e t unit after c line p (by line p settled (lookup after.node.chip after.node.side.cache line) refl) settled;
    value = λ line p settled. value_elsewhere d s new t unit after e.before is line p (λ write same.
        is.late (asks_write is.demand.kind (sym (write_asks d s new t unit after e.before is) ∙ write)) p
        (subst (λ (l : ℕ). IsSettled s.network.ordered unit.node l p) same settled));
  }
    where
      by : (line p : ℕ) → IsSettled s.network.ordered unit.node line p → (copy : Option Held) → lookup after.node.chip after.node.side.cache line ≡ copy
          → is_modified (lookup after.node.chip after.node.side.cache line) ≡ true
          → (is_modified (lookup unit.node.chip unit.node.side.cache line) ≡ true) ⊎ (p < after.node.delivered)
      by line p settled None there only = absurd (false≢true (sym (ap is_modified there) ∙ only))
      by line p settled (Some held) there only = modified line p held settled (left line held there) (sym (ap is_modified there) ∙ only)

  -- the tile itself has no write to come, where it has not the only copy
  itself_settled_at : (p : ℕ) → p ≤ after.node.delivered → is_modified (lookup after.node.chip after.node.side.cache is.demand.line) ≡ false
      → IsSettled new.network.ordered after.node is.demand.line p
  itself_settled_at p less unmodified = record {
    delivered = λ g q before at same kind source. omega (arith, before, less);
    demand = λ x g stands ordered kind same. none_some x (sym idle ∙ stands);
    modified = λ only. absurd (false≢true (sym unmodified ∙ only));
  }

  -- ---- the copy of its line
  left_value : (line : ℕ) (held : Held) → lookup after.node.chip after.node.side.cache line ≡ Some held → line ≡ is.demand.line
      → CopyLeft is.demand is.words held
      → CopyHasValue d new after.node line held held.state
  left_value line held there here (loaded kind kept copy) =
      subst (λ (x : Held). CopyHasValue d new after.node line x x.state) (sym copy)
      (subst (λ (k : ℕ). HasValue d new line k is.words) (sym (shared_at line))
      (subst (λ (l : ℕ). HasValue d new l after.node.delivered is.words) (sym here) (loaded_value d s new e t unit after c is completion_keeps kind kept)))
  left_value line held there here (stored kind alone copy) =
      let tile : after.node.tile ≡ t = (unit_holds d new t after e.behind (now d s new e t unit after c)).holds.node.agrees.tile in
      subst (λ (x : Held). CopyHasValue d new after.node line x x.state) (sym copy)
      (subst (λ (u : ℕ). HasOwnValue d new u line after.node.delivered (written_by is.demand.pending is.words)) (sym tile)
      (subst (λ (l : ℕ). HasOwnValue d new t l after.node.delivered (written_by is.demand.pending is.words)) (sym here)
      (stored_value d s new e t unit after c is completion_keeps kind turn after.node.delivered is.reached (omega arith)
      (reads_after_store d s new e t unit after c is completion_keeps kind (ap ends_in_getm alone)))))
  left_value line held there here (shared kind goes_on copy) =
      let unmodified : is_modified (lookup after.node.chip after.node.side.cache is.demand.line) ≡ false =
      ap (λ (l : ℕ). is_modified (lookup after.node.chip after.node.side.cache l)) (sym here) ∙
      (ap is_modified there ∙ ap (λ (x : Held). is_modified (Some x)) copy) in
      subst (λ (x : Held). CopyHasValue d new after.node line x x.state) (sym copy)
      (subst (λ (l : ℕ). HasValue d new l after.node.delivered (written_by is.demand.pending is.words)) (sym here)
      (with_itself d s new e t unit after c completion_keeps is.demand.line after.node.delivered (written_by is.demand.pending is.words)
      (itself_settled_at after.node.delivered (omega arith) unmodified)
      (stored_value d s new e t unit after c is completion_keeps kind turn after.node.delivered is.reached (omega arith)
      (reads_after_store d s new e t unit after c is completion_keeps kind goes_on))))

  -- ---- the words for those that waited
  -- where some wait, no copy is the only one
  unmodified_list : (first : Waiting) (i : ℕ) → slice_get is.demand.list i ≡ Some first
      → is_modified (lookup after.node.chip after.node.side.cache is.demand.line) ≡ false
  unmodified_list first i waits = by (lookup after.node.chip after.node.side.cache is.demand.line) refl where
    of_left : (held : Held) → IsLeft unit.node.chip unit.node.side.cache is.demand is.words is.demand.line held → is_modified (Some held) ≡ false
    of_left held (inl other) = absurd (other.0 refl)
    of_left held (inr (here, loaded kind kept copy)) = ap (λ (x : Held). is_modified (Some x)) copy
    of_left held (inr (here, stored kind alone copy)) = none_some first (ap (λ (list : List Waiting). slice_get list i) (sym alone) ∙ waits)
    of_left held (inr (here, shared kind goes_on copy)) = ap (λ (x : Held). is_modified (Some x)) copy

    by : (copy : Option Held) → lookup after.node.chip after.node.side.cache is.demand.line ≡ copy
        → is_modified (lookup after.node.chip after.node.side.cache is.demand.line) ≡ false
    by None there = ap is_modified there
    by (Some held) there = ap is_modified there ∙ of_left held (left is.demand.line held there)

  answers_waiting : is.demand.kind ≡ GetM → (w : Waiting) (i : ℕ) → slice_get is.demand.list i ≡ Some w
      → (waits : WaitsAtPlace (is_of_others t is.demand.line) s.network.ordered is.place after.node.delivered w) → (other : UnitState)
      → slice_get new.units w.tile ≡ Some other
      → (k : ℕ) × (place_of_get new other.node ≡ Some k) → AnswersGet d new other.node is.demand.line (written_by is.demand.pending is.words)
  answers_waiting kind w i listed waits other there some =
      let tile : w.tile ≡ waits.get.source = ap (λ (v : Waiting). v.tile) waits.is in
      let others = and_parts (is_get waits.get.kind && (waits.get.line == is.demand.line)) (not (waits.get.source == t)) waits.passes in
      let parts = and_parts (is_get waits.get.kind) (waits.get.line == is.demand.line) others.0 in
      let same : waits.get.line ≡ is.demand.line = eqb-true waits.get.line is.demand.line parts.1 in
      let old = e.places.units w.tile other there in
      record {
        place = waits.place;
        request = waits.get;
        get = place_on d s new e t unit after c completion_keeps w.tile waits.place old.0 other old.1 there some
            ((e.before.wait is.demand.line).after_write is.place waits.place is.get waits.get unit waits.beyond is.at (is.kind ∙ kind) is.line
            (ap (slice_get s.units) is.source ∙ c.at) is.waits waits.at parts.0 same old.0 (ap (slice_get s.units) (sym tile) ∙ old.1));
        at = still_at d s new e waits.place waits.get waits.at;
        line_is = same;
        value = with_itself d s new e t unit after c completion_keeps is.demand.line waits.place (written_by is.demand.pending is.words)
            (itself_settled_at waits.place (omega (arith, waits.before)) (unmodified_list w i listed))
            (stored_value d s new e t unit after c is completion_keeps kind turn waits.place waits.beyond (omega (arith, waits.before))
            (asks_before d s new e t unit after c is completion_keeps w waits));
      }

  sends_value : (i j : ℕ) (msg : Msg) → slice_get after.node.out i ≡ Some msg
      → slice_get (completed unit.node.chip is.demand is.place is.words unit.node.side).sends j ≡ Some msg
      → MessageHasValue d new msg msg.kind
  sends_value i j msg queued sent = by (is_getm is.demand.kind) refl sent where
    by : (b : Bool) → is_getm is.demand.kind ≡ b
        → slice_get (cond b (completed_store unit.node.chip is.demand is.place is.words unit.node.side)
        (completed_load unit.node.chip is.demand is.place is.words unit.node.side)).sends j ≡ Some msg
        → MessageHasValue d new msg msg.kind
    by false reads x = none_some msg x
    by true writes x =
        let kind = asks_write is.demand.kind writes in
        let (w, listed, same) =
        of_map (λ (waiting : Waiting). data_to waiting.tile is.demand.line (written_by is.demand.pending is.words)) is.demand.list j msg x in
        let waits =
        waits_at_place (is_of_others t is.demand.line) s.network.ordered is.place after.node.delivered j w
        (ap (λ (list : List Waiting). slice_get list j) (sym (is.list kind)) ∙ listed) in
        subst (λ (m : Msg). MessageHasValue d new m m.kind) same (λ other there.
        answers_waiting kind w j listed waits other there
        (waits_place new w.tile is.demand.line other there
        (e.answers.queued t i after (data_to w.tile is.demand.line (written_by is.demand.pending is.words)) (now d s new e t unit after c)
        (queued ∙ ap (λ (m : Msg). Some m) (sym same)) refl)))

  -- ---- all that the node has
  module _ (other_copy : (line : ℕ) (held : Held) → line ≢ is.demand.line → lookup unit.node.chip unit.node.side.cache line ≡ Some held
      → lookup after.node.chip after.node.side.cache line ≡ Some held
      → CopyHasValue d new after.node line held held.state)
      (back : (back : WriteBack) → after.node.side.misses.back ≡ Some back → back.live ≡ true → HasValue d new back.line after.node.delivered back.words)
      (queued : (i : ℕ) (msg : Msg) → slice_get after.node.out i ≡ Some msg
      → MessageHasValue d s msg msg.kind ⊎ ((j : ℕ) × (slice_get (completed unit.node.chip is.demand is.place is.words unit.node.side).sends j ≡ Some msg)))
      (records : (line : ℕ) (r : LineRecord) → slice_index_or after.node.records line None ≡ Some r → r.fresh ≡ true
      → RecordHasValue d new after.node line r r.owner) where
    copy : (line : ℕ) (held : Held) → lookup after.node.chip after.node.side.cache line ≡ Some held
        → IsLeft unit.node.chip unit.node.side.cache is.demand is.words line held
        → CopyHasValue d new after.node line held held.state
    copy line held there (inl other) = other_copy line held other.0 other.1 there
    copy line held there (inr here) = left_value line held there here.0 here.1

    message : (i : ℕ) (msg : Msg) → slice_get after.node.out i ≡ Some msg → MessageHasValue d new msg msg.kind
    message i msg there = elim (queued i msg there) [
      | inl had ↦
          message_on d s new e t unit after c completion_keeps msg (λ kind. e.answers.queued t i after msg (now d s new e t unit after c) there kind) had
      | inr sent ↦ sends_value i sent.0 msg there sent.1
    ]

    pub completed_node : NodeHasValues d new after.node
    completed_node = record {
      copies = λ line held there. copy line held there (left line held there);
      back = back;
      early = λ demand words stands early. none_some demand (sym idle ∙ stands);
      out = message;
      records = records;
    }
