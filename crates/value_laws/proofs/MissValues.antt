-- An access that misses performs nothing: it starts a demand, before which a shared copy may leave, or it writes a line back.
-- All values stay.
use Rattle.std.proofs.Common.{◌≡◌, ℕ, Bool, true, false, cond, refl, sym, ◌∙◌, ap, subst, inl, inr, ◌⊎◌, Option, Some, None, List}
use Rattle.std.specs.Prelude.{◌==◌, ◌&&◌, not, is_some, slice_get, slice_index_or}
use Rattle.std.proofs.lemmas.Bool.{false≢true}
use Rattle.std.proofs.lemmas.Option.{same_Some}
use Rattle.mesh_gen.specs.declared.msg.Msg.{Msg}
use Rattle.vc_bank.specs.Places.{Network, at as stands_at}
use Rattle.report_text.specs.Accesses.{writes}
use Rattle.report_text.specs.declared.access.Access.{Access}
use Rattle.doc_text.specs.Doc.{Doc}
use Rattle.chip_model.specs.declared.done.Done.{Done}
use Rattle.chip_model.specs.declared.pending.Pending.{Pending}
use Rattle.chip_model.specs.declared.line_state.State.{State}
use Rattle.chip_model.specs.declared.line_state.State.TheVariants.{M, O, S}
use Rattle.chip_model.specs.Chip.{Chip, line_of}
use Rattle.chip_model.specs.Cache.{Cache, Held, is_shared, lookup, without_line}
use Rattle.chip_model.specs.Misses.{Demand, WriteBack, is_getm, new_back}
use Rattle.chip_model.specs.Snoop.{with_demand, with_back, with_cache}
use Rattle.chip_model.specs.Node.{Node, Performed, with_side, has_entry, load_hit, store_to, unless_written_back, demand_started, accessed_with, node_after_access}
use Rattle.chip_model.specs.Units.{UnitState}
use Rattle.chip_model.specs.ChipState.{ChipState}
use Rattle.chip_model.specs.NodeShape.{IsCache, is_modified}
use Rattle.chip_model.specs.Witness.{line_value}
use Rattle.chip_model.specs.Writers.{is_ordered_write}
use Rattle.chip_model.specs.Values.{HasValue, HasOwnValue, CopyHasValue, place_of_demand, place_of_shared, NodeHasValues, ValuesHold}
use Rattle.snoop_core.proofs.Accesses.{started_by, access_forms, accessed_free, accessed_frame}
use Rattle.snoop_core.proofs.CacheMaps.{lookup-without_line}
use Rattle.chip_laws.specs.EventSteps.{ChangesUnit}
use Rattle.chip_laws.proofs.Options.{none_some, when_some}
use Rattle.chip_laws.proofs.SuppliedEvents.{unit_holds}
use Rattle.value_laws.proofs.SettledSteps.{OrdersNothing, now}
use Rattle.value_laws.proofs.StepValues.{KeepsSettled, quiet_keeps, value_on, itself_on, itself_copy_on, with_itself, message_on, record_on, values_on}

-- a line is written back: its owned copy has left
record PutBack (node : Node) (back : WriteBack) : Type 0 where
  pub held : Held
  pub there : lookup node.chip node.side.cache back.line ≡ Some held
  pub owned : is_shared held.state ≡ false
  pub words : back.words ≡ held.words

-- what an access that performs nothing leaves of the cache side
record MissLeaves (node after : Node) : Type 0 where
  pub copies : (line : ℕ) (held : Held) → lookup node.chip after.side.cache line ≡ Some held → lookup node.chip node.side.cache line ≡ Some held
  pub demand : (demand : Demand) → after.side.misses.demand ≡ Some demand → (demand.ordered ≡ None) × (demand.early ≡ None)
  pub back : (back : WriteBack) → after.side.misses.back ≡ Some back → (node.side.misses.back ≡ Some back) ⊎ PutBack node back

-- ---- what it leaves
kept_copy : (chip : Chip) (cache : Cache) (line m : ℕ) (held : Held) → lookup chip (without_line chip line cache) m ≡ Some held
    → lookup chip cache m ≡ Some held
kept_copy chip cache line m held at = by (m == line) (sym (lookup-without_line chip cache line m) ∙ at) where
  by : (b : Bool) → cond {A = Option Held} b None (lookup chip cache m) ≡ Some held → lookup chip cache m ≡ Some held
  by true is = none_some held is
  by false is = is

started : (node : Node) (cache : Cache) (access : Pending)
    → ((line : ℕ) (held : Held) → lookup node.chip cache line ≡ Some held → lookup node.chip node.side.cache line ≡ Some held)
    → MissLeaves node (with_side (with_demand (Some (started_by access)) (with_cache cache node.side)) node)
started node cache access copies = record {
  copies = copies;
  demand = λ demand is. (
    ap (λ (x : Demand). x.ordered) (sym (same_Some (started_by access) demand is)),
    ap (λ (x : Demand). x.early) (sym (same_Some (started_by access) demand is)),
  );
  back = λ back is. inl is;
}

put_back : (node : Node) (held : Held) → node.side.misses.demand ≡ None → lookup node.chip node.side.cache held.line ≡ Some held → is_shared held.state ≡ false
    → MissLeaves node (with_side (with_back (Some (new_back held.line held.words))
    (with_cache (without_line node.chip held.line node.side.cache) node.side)) node)
put_back node held free there owned = record {
  copies = λ line copy at. kept_copy node.chip node.side.cache held.line line copy at;
  demand = λ demand is. none_some demand (sym free ∙ is);
  back = λ back is.
      let same : new_back held.line held.words ≡ back = same_Some (new_back held.line held.words) back is in
      inr (subst (PutBack node) same (record { held = held; there = there; owned = owned; words = refl }));
}

-- of a line that is not in the cache
absent_leaves : (access : Pending) (node : Node) (step : Performed) → IsCache node.chip node.side.cache
    → lookup node.chip node.side.cache (line_of access.address) ≡ None
    → node_after_access access node ≡ Some step → MissLeaves node step.0
absent_leaves access node step cache absent is =
    let free = accessed_free access node step is in
    access_forms access node step (λ after. MissLeaves node after) cache (record {
      hit = record {
        copies = λ line held at. at;
        demand = λ demand stands. none_some demand (sym free ∙ stands);
        back = λ back stands. inl stands;
      };
      wrote = λ held there only words. none_some held (sym absent ∙ there);
      missed = λ a at apart none room. started node node.side.cache a (λ line held there. there);
      upgraded = λ a at apart changes held there shared. none_some held (sym absent ∙ there);
      made_room = λ a at apart none left drops.
          started node left a (λ line held there. kept_copy node.chip node.side.cache drops.was.line line held
          (ap (λ (x : Cache). lookup node.chip x line) (sym drops.dropped) ∙ there));
      put_back = λ held puts queue alone. put_back node held free puts.there puts.owned;
    }) is

-- of a line that is there, to write it
upgrade_leaves : (access : Pending) (node : Node) (step : Performed)
    → unless_written_back access node (Some (demand_started access node.side node)) ≡ Some step → MissLeaves node step.0
upgrade_leaves access node step is =
    when_some _ (Some (demand_started access node.side node)) step is (λ apart done.
    subst (λ (p : Performed). MissLeaves node p.0) (same_Some (demand_started access node.side node) step done)
    (started node node.side.cache access (λ line held there. there)))

store_leaves : (access : Pending) (held : Held) (node : Node) (state : State) (step : Performed) → step.1 ≡ None
    → store_to access held node state ≡ Some step → MissLeaves node step.0
store_leaves access held node M step nothing is =
    let performs : ◌≡◌ {A = Option Done} (Some _) None = ap (λ (p : Performed). p.1) (same_Some _ step is) ∙ nothing in cc
store_leaves access held node O step nothing is = upgrade_leaves access node step is
store_leaves access held node S step nothing is = upgrade_leaves access node step is

there_leaves : (access : Pending) (node : Node) (held : Held) (step : Performed) → step.1 ≡ None → accessed_with access node (Some held) ≡ Some step
    → MissLeaves node step.0
there_leaves access node held step nothing is = by (writes access.kind) is where
  by : (changes : Bool) → cond {A = Option Performed} changes (store_to access held node held.state) (Some (load_hit access held node)) ≡ Some step
      → MissLeaves node step.0
  by true e = store_leaves access held node held.state step nothing e
  by false e = let performs : ◌≡◌ {A = Option Done} (Some _) None = ap (λ (p : Performed). p.1) (same_Some (load_hit access held node) step e) ∙ nothing in cc

miss_leaves : (access : Pending) (node : Node) (step : Performed) → IsCache node.chip node.side.cache → step.1 ≡ None
    → node_after_access access node ≡ Some step → MissLeaves node step.0
unfolding node_after_access
miss_leaves access node step cache nothing is = by (lookup node.chip node.side.cache (line_of access.address)) refl where
  by : (copy : Option Held) → lookup node.chip node.side.cache (line_of access.address) ≡ copy → MissLeaves node step.0
  by None absent = absent_leaves access node step cache absent is
  by (Some held) there =
      when_some (not (has_entry node)) (accessed_with access node (lookup node.chip node.side.cache (line_of access.address))) step is (λ free done.
      there_leaves access node held step nothing (ap (accessed_with access node) (sym there) ∙ done))

-- ---- the values of the node
-- a demand that is not ordered asks for no place
unordered_write : (line : ℕ) (entry : Option Demand) → ((demand : Demand) → entry ≡ Some demand → demand.ordered ≡ None) → is_ordered_write line entry ≡ false
unordered_write line None none = refl
unordered_write line (Some demand) none =
    ap (λ (o : Option ℕ). (demand.line == line) && is_getm demand.kind && is_some o) (none demand refl) ∙ by
    ((demand.line == line) && is_getm demand.kind) where
      by : (b : Bool) → (b && false) ≡ false
      by true = refl
      by false = refl

-- so a copy in S has its value at the count
pub shared_at_count : (node : Node) (line : ℕ) → ((demand : Demand) → node.side.misses.demand ≡ Some demand → demand.ordered ≡ None)
    → place_of_shared node line ≡ node.delivered
shared_at_count node line none =
    ap (λ (b : Bool). cond b (place_of_demand node.side.misses.demand node.delivered) node.delivered) (unordered_write line node.side.misses.demand none)

module _ (d : Doc) (s new : ChipState) (e : OrdersNothing d s new) (values : ValuesHold d s) (t : ℕ) (unit : UnitState) (after : UnitState)
    (c : ChangesUnit s new t unit after)
    (accesses : new.accesses ≡ s.accesses) (frame : after.node ≡ with_side after.node.side unit.node) (free : unit.node.side.misses.demand ≡ None)
    (leaves : MissLeaves unit.node after.node) where
  chip : after.node.chip ≡ unit.node.chip
  chip = ap (λ (n : Node). n.chip) frame

  count : after.node.delivered ≡ unit.node.delivered
  count = ap (λ (n : Node). n.delivered) frame

  here : unit.node.tile ≡ t
  here = (unit_holds d s t unit e.before c.at).holds.node.agrees.tile

  was : NodeHasValues d s unit.node
  was = values.nodes t unit c.at

  stood : (line : ℕ) (held : Held) → lookup after.node.chip after.node.side.cache line ≡ Some held → lookup unit.node.chip unit.node.side.cache line ≡ Some held
  stood line held there = leaves.copies line held (ap (λ (x : Chip). lookup x after.node.side.cache line) (sym chip) ∙ there)

  unmodified : (line : ℕ) → is_modified (lookup after.node.chip after.node.side.cache line) ≡ true
      → is_modified (lookup unit.node.chip unit.node.side.cache line) ≡ true
  unmodified line only = by (lookup after.node.chip after.node.side.cache line) refl only where
    by : (copy : Option Held) → lookup after.node.chip after.node.side.cache line ≡ copy → is_modified copy ≡ true
        → is_modified (lookup unit.node.chip unit.node.side.cache line) ≡ true
    by None at is = absurd (false≢true is)
    by (Some held) at is = ap is_modified (stood line held at) ∙ is

  keeps : KeepsSettled d s new unit after
  keeps = quiet_keeps d s new e t unit after c accesses unmodified

  value : (line : ℕ) (words : List ℕ) → HasValue d s line unit.node.delivered words → HasValue d new line after.node.delivered words
  value line words has = subst (λ (n : ℕ). HasValue d new line n words) (sym count) (value_on d s new e t unit after c keeps line unit.node.delivered words has)

  own_value : (line : ℕ) (words : List ℕ) → HasOwnValue d s unit.node.tile line unit.node.delivered words → HasOwnValue d new t line after.node.delivered words
  own_value line words has =
      subst (λ (n : ℕ). HasOwnValue d new t line n words) (sym count)
      (itself_on d s new e t unit after c keeps line unit.node.delivered words (ap (λ (xs : List Access). line_value d xs line unit.node.delivered) accesses)
      (subst (λ (u : ℕ). HasOwnValue d s u line unit.node.delivered words) here has))

  shared : (line : ℕ) → place_of_shared after.node line ≡ place_of_shared unit.node line
  shared line =
      shared_at_count after.node line (λ demand stands. (leaves.demand demand stands).0)
      ∙ count
      ∙ sym (shared_at_count unit.node line (λ demand stands. none_some demand (sym free ∙ stands)))

  -- the words of a line that is written back now are those of its copy
  put_value : (back : WriteBack) (held : Held) (state : State) → after.node.side.misses.back ≡ Some back → is_shared state ≡ false
      → CopyHasValue d s unit.node back.line held state
      → HasValue d new back.line after.node.delivered held.words
  put_value back held M stands owned has =
      with_itself d s new e t unit after c keeps back.line after.node.delivered held.words (record {
        delivered = λ g q less at same kind source. less;
        demand = λ demand g stands_demand ordered kind same. none_some g (sym (leaves.demand demand stands_demand).0 ∙ ordered);
        modified = λ only.
            absurd (false≢true (sym (ap is_modified ((unit_holds d new t after e.behind
            (now d s new e t unit after c)).holds.node.fits.side.back back stands)) ∙ only));
      }) (own_value back.line held.words has)
  put_value back held O stands owned has = value back.line held.words has
  put_value back held S stands owned has = absurd (false≢true (sym owned))

  back_value : (back : WriteBack) → after.node.side.misses.back ≡ Some back → back.live ≡ true
      → (unit.node.side.misses.back ≡ Some back) ⊎ PutBack unit.node back
      → HasValue d new back.line after.node.delivered back.words
  back_value back stands live (inl stood) = value back.line back.words (was.back back stood live)
  back_value back stands live (inr puts) =
      subst (λ (words : List ℕ). HasValue d new back.line after.node.delivered words) (sym puts.words)
      (put_value back puts.held puts.held.state stands puts.owned (was.copies back.line puts.held puts.there))

  node_values : NodeHasValues d new after.node
  node_values = record {
    copies = λ line held there.
        itself_copy_on d s new e t unit after c keeps line held held.state count (shared line)
        (λ only. ap (λ (xs : List Access). line_value d xs line unit.node.delivered) accesses)
        (was.copies line held (stood line held there));
    back = λ back stands live. back_value back stands live (leaves.back back stands);
    early = λ demand words stands early. none_some words (sym (leaves.demand demand stands).1 ∙ early);
    out = λ place msg there.
        message_on d s new e t unit after c keeps msg (λ kind. e.answers.queued t place after msg (now d s new e t unit after c) there kind)
        (was.out place msg (ap (λ (n : Node). slice_get n.out place) (sym frame) ∙ there));
    records = λ line r there fresh.
        record_on d s new e t unit after c keeps unit.node after.node line r r.owner count
        (was.records line r (ap (λ (n : Node). slice_index_or n.records line None) (sym frame) ∙ there) fresh);
  }

  miss_values_from : new.replies ≡ s.replies → ValuesHold d new
  miss_values_from replies =
      values_on d s new e t unit after c keeps values node_values
      (λ router port slot msg there. values.channels router port slot msg (ap (λ (net : Network Msg). stands_at net router port slot) (sym replies) ∙ there))

-- an access that performs nothing keeps all values
pub miss_values : (d : Doc) (s new : ChipState) → OrdersNothing d s new → ValuesHold d s → (t : ℕ) (unit after : UnitState) → ChangesUnit s new t unit after
    → (access : Pending) (step : Performed) → node_after_access access unit.node ≡ Some step → step.1 ≡ None → after.node ≡ step.0
    → new.accesses ≡ s.accesses → new.replies ≡ s.replies → ValuesHold d new
miss_values d s new e values t unit after c access step is nothing node accesses replies =
    let cache = (unit_holds d s t unit e.before c.at).holds.node.fits.side.cache in
    miss_values_from d s new e values t unit after c accesses
    (subst (λ (n : Node). n ≡ with_side n.side unit.node) (sym node) (accessed_frame access unit.node step is cache))
    (accessed_free access unit.node step is)
    (subst (MissLeaves unit.node) (sym node) (miss_leaves access unit.node step cache nothing is)) replies
