-- An access that hits keeps all values: a write's copy has the line's value with the word changed.
use Rattle.std.proofs.Common.{◌≡◌, ◌≢◌, ℕ, ◌<◌, ◌≤◌, Bool, true, false, ◌==◌, ◌&&◌, Option, Some, None, List, [], ◌∷◌, ◌++◌, sym, ap, ◌∙◌, refl, subst, inl, inr, ◌⊎◌, eq-eqb, eqb-true, arith}
use Rattle.std.specs.Prelude.{nat_le, slice_get, slice_index_or, is_some, if◌then◌else◌}
use Rattle.std.specs.List.{AllByRecursion}
use Rattle.std.proofs.lemmas.Bool.{false≢true, false_from_ne_true, and_parts, and_from, leb-true, le-leb}
use Rattle.std.proofs.lemmas.Option.{same_Some}
use Rattle.mesh_gen.specs.declared.msg.Msg.{Msg}
use Rattle.vc_bank.specs.Places.{Network, at as stands_at}
use Rattle.report_text.specs.declared.access.Access.{Access}
use Rattle.report_text.specs.Accesses.{writes}
use Rattle.doc_text.specs.Doc.{Doc}
use Rattle.chip_model.specs.declared.pending.Pending.{Pending}
use Rattle.chip_model.specs.declared.line_state.State.{State}
use Rattle.chip_model.specs.declared.line_state.State.TheVariants.{M}
use Rattle.chip_model.specs.Chip.{Chip, line_of}
use Rattle.chip_model.specs.Cache.{Cache, Held, lookup, installed}
use Rattle.chip_model.specs.Misses.{Misses}
use Rattle.chip_model.specs.Snoop.{written_by, done_by}
use Rattle.chip_model.specs.Node.{Node, Performed, store_hit}
use Rattle.chip_model.specs.Units.{UnitState}
use Rattle.chip_model.specs.ChipState.{ChipState}
use Rattle.chip_model.specs.BehaviourLaws.{numbered}
use Rattle.chip_model.specs.NodeShape.{is_modified}
use Rattle.chip_model.specs.Witness.{is_write, writes_by, with_write, line_value}
use Rattle.chip_model.specs.Writers.{IsSettled}
use Rattle.chip_model.specs.Values.{HasValue, HasOwnValue, CopyHasValue, place_of_shared, NodeHasValues, ValuesHold}
use Rattle.snoop_core.proofs.CacheMaps.{lookup-line, lookup-installed, fits_held}
use Rattle.chip_laws.specs.EventSteps.{ChangesUnit}
use Rattle.chip_laws.proofs.Each.{each_at, each_from}
use Rattle.chip_laws.proofs.SuppliedEvents.{unit_holds}
use Rattle.chip_laws.proofs.UnitFrames.{each_unit}
use Rattle.value_laws.specs.Sequences.{Succeeds, AreSucceeding}
use Rattle.value_laws.proofs.LineValues.{value_kept, value_written}
use Rattle.value_laws.proofs.SettledSteps.{OrdersNothing, now, settled_on, settled_still}
use Rattle.value_laws.proofs.StepValues.{KeepsSettled, value_on, itself_copy_on, message_on, early_on, record_on, values_on}
use Rattle.value_laws.proofs.Acting.{ActsOn}
use Rattle.value_laws.proofs.HitAccesses.{Hit, modified_copy, hit_acts}

-- the only copy of a line comes in for another one of it: no other copy changes
lookup_written : (chip : Chip) (cache : Cache) (held : Held) (words : List ℕ) (line m : ℕ) → lookup chip cache line ≡ Some held
    → lookup chip (installed chip (record held { words = words }) cache) m ≡ (if m == line then Some (record held { words = words }) else lookup chip cache m)
lookup_written chip cache held words line m there =
    let same : held.line ≡ line = lookup-line chip cache line held there in
    let at : lookup chip cache held.line ≡ Some held = ap (lookup chip cache) same ∙ there in
    lookup-installed chip cache (record held { words = words }) m (fits_held chip cache held.line (ap is_some at))
    ∙ ap (λ (l : ℕ). if m == l then Some (record held { words = words }) else lookup chip cache m) same

module _ (d : Doc) (s new : ChipState) (e : OrdersNothing d s new) (values : ValuesHold d s) (turn : AreSucceeding s.accesses) (t : ℕ)
    (unit after : UnitState)
    (c : ChangesUnit s new t unit after) (access : Pending) (step : Performed) (hit : Hit access unit.node step) (number : ℕ) (node : after.node ≡ step.0)
    (follows : AllByRecursion (λ b. Succeeds b (numbered unit (done_by access unit.node.delivered hit.held.words) number)) s.accesses)
    (accesses : new.accesses ≡ s.accesses ++ numbered unit (done_by access unit.node.delivered hit.held.words) number ∷ []) where
  abbrev a : Access
  a = numbered unit (done_by access unit.node.delivered hit.held.words) number

  abbrev line : ℕ
  line = line_of access.address

  was : NodeHasValues d s unit.node
  was = values.nodes t unit c.at

  tile : unit.node.tile ≡ t
  tile = (unit_holds d s t unit e.before c.at).holds.node.agrees.tile

  acts : ActsOn d s t unit a unit.node.delivered hit.held.words
  acts = hit_acts d s t unit e.before values c.at access step hit number follows

  -- ---- the node afterwards

  abbrev written : Held
  written = record hit.held { words = written_by access hit.held.words }

  frame : after.node ≡ record unit.node { side = record unit.node.side { cache = after.node.side.cache } }
  frame = elim hit.left [
    | inl read ↦ subst (λ (x : Node). x ≡ record unit.node { side = record unit.node.side { cache = x.side.cache } }) (sym (node ∙ read.1)) refl
    | inr stores ↦ subst (λ (x : Node). x ≡ record unit.node { side = record unit.node.side { cache = x.side.cache } }) (sym (node ∙ stores.2)) refl
  ]

  chip : after.node.chip ≡ unit.node.chip
  chip = ap (λ (n : Node). n.chip) frame

  count : after.node.delivered ≡ unit.node.delivered
  count = ap (λ (n : Node). n.delivered) frame

  misses : after.node.side.misses ≡ unit.node.side.misses
  misses = ap (λ (n : Node). n.side.misses) frame

  -- a copy stands as it did, or is the one that was written
  copy_is : (m : ℕ) (held : Held) → lookup after.node.chip after.node.side.cache m ≡ Some held
      → ((lookup unit.node.chip unit.node.side.cache m ≡ Some held) × (writes access.kind ≡ true → m ≢ line))
      ⊎ ((writes access.kind ≡ true) × (hit.held.state ≡ M) × (m ≡ line) × (held ≡ written))
  copy_is m held there = elim hit.left [
    | inl read ↦ inl (ap (λ (n : Node). lookup n.chip n.side.cache m) (sym (node ∙ read.1)) ∙ there, λ write. absurd (clash write read.0))
    | inr stores ↦ by (m == line) refl stores (sym (lookup_written unit.node.chip unit.node.side.cache hit.held
        (written_by access hit.held.words) line m hit.at)
        ∙ (ap (λ (n : Node). lookup n.chip n.side.cache m) (sym (node ∙ stores.2)) ∙ there))
  ]
    where
      clash : writes access.kind ≡ true → writes access.kind ≡ false → ⊥
      clash one other = let e : true ≡ false = sym one ∙ other in cc

      by : (b : Bool) → (m == line) ≡ b → (writes access.kind ≡ true) × (hit.held.state ≡ M) × (step.0 ≡ (store_hit access hit.held unit.node).0)
          → (if b then Some written else lookup unit.node.chip unit.node.side.cache m) ≡ Some held
          → ((lookup unit.node.chip unit.node.side.cache m ≡ Some held) × (writes access.kind ≡ true → m ≢ line))
          ⊎ ((writes access.kind ≡ true) × (hit.held.state ≡ M) × (m ≡ line) × (held ≡ written))
      by true test stores is = inr (stores.0, stores.1, eqb-true m line test, sym (same_Some written held is))
      by false test stores is = inl (is, λ write same. false≢true (sym test ∙ eq-eqb m line same))

  modified : (m : ℕ) → is_modified (lookup after.node.chip after.node.side.cache m) ≡ true → is_modified (lookup unit.node.chip unit.node.side.cache m) ≡ true
  modified m only = by (lookup after.node.chip after.node.side.cache m) refl only where
    by : (copy : Option Held) → lookup after.node.chip after.node.side.cache m ≡ copy → is_modified copy ≡ true
        → is_modified (lookup unit.node.chip unit.node.side.cache m) ≡ true
    by None at is = absurd (false≢true is)
    by (Some held) at is = elim (copy_is m held at) [
      | inl stood ↦ ap is_modified stood.0 ∙ is
      | inr stores ↦ modified_copy (lookup unit.node.chip unit.node.side.cache m) hit.held (ap (lookup unit.node.chip unit.node.side.cache) stores.2
          ∙ hit.at) stores.1
    ]

  -- ---- values

  value_elsewhere : (m p : ℕ) → (writes access.kind ≡ true → m ≡ line → p < unit.node.delivered) → line_value d new.accesses m p ≡ line_value d s.accesses m p
  value_elsewhere m p apart =
      ap (λ (xs : List Access). line_value d xs m p) accesses
      ∙ value_kept d s.accesses a m p follows (false_from_ne_true (writes_by m p a) (λ counts.
      let both = and_parts (is_write a && (line_of a.address == m)) (nat_le a.time p) counts in
      let first = and_parts (is_write a) (line_of a.address == m) both.0 in
      let early : unit.node.delivered ≤ p = leb-true a.time p both.1 in
      let late = apart first.0 (sym (eqb-true line m first.1)) in
      absurd (omega (arith, early, late))))

  pub hit_keeps : KeepsSettled d s new unit after
  hit_keeps = record {
    settled = λ m p is. settled_on d s new e t unit after c m p (λ only. inl (modified m only)) is;
    value = λ m p is. value_elsewhere m p (λ write same. acts.late write p (subst (λ (l : ℕ). IsSettled s.network.ordered unit.node l p) same is));
  }

  -- the words of the written copy
  written_value : writes access.kind ≡ true → written_by access hit.held.words ≡ line_value d new.accesses line unit.node.delivered
  written_value write = sym (
      ap (λ (xs : List Access). line_value d xs line unit.node.delivered) accesses
      ∙ value_written d s.accesses a line unit.node.delivered turn follows counted (each_from _ s.accesses (λ i b at counts.
      let both = and_parts (is_write b && (line_of b.address == line)) (nat_le b.time unit.node.delivered) counts in
      let first = and_parts (is_write b) (line_of b.address == line) both.0 in
      each_at _ s.accesses i b acts.counts at first.0 (eqb-true (line_of b.address) line first.1) ∙ both.1))
      ∙ ap (λ (words : List ℕ). with_write words a) (sym acts.value))
    where
      counted : writes_by line unit.node.delivered a ≡ true
      counted =
          and_from (is_write a && (line_of a.address == line)) (nat_le a.time unit.node.delivered)
          (and_from (is_write a) (line_of a.address == line) write (eq-eqb line line refl)) (le-leb unit.node.delivered unit.node.delivered (omega arith))

  written_copy : writes access.kind ≡ true → hit.held.state ≡ M → CopyHasValue d new after.node line written written.state
  written_copy write state =
      let has = subst (λ (x : State). CopyHasValue d s unit.node line hit.held x) state (was.copies line hit.held hit.at) in
      let here : after.node.tile ≡ t = ap (λ (n : Node). n.tile) frame ∙ tile in
      subst (λ (x : State). CopyHasValue d new after.node line written x) (sym state)
      (subst (λ (u : ℕ). HasOwnValue d new u line after.node.delivered written.words) (sym here)
      (subst (λ (k : ℕ). HasOwnValue d new t line k written.words) (sym count) (record {
        value = written_value write;
        settled = each_unit (λ v x. v ≢ t → IsSettled new.network.ordered x.node line unit.node.delivered) s new t unit after c (λ apart. absurd (apart refl))
            (λ v other far at apart. settled_still d s new e other.node line unit.node.delivered (has.settled v other at (λ same. apart (same ∙ tile))));
      })))

  copies_hold : (m : ℕ) (held : Held) → lookup after.node.chip after.node.side.cache m ≡ Some held → CopyHasValue d new after.node m held held.state
  copies_hold m held there = elim (copy_is m held there) [
    | inl stood ↦
        itself_copy_on d s new e t unit after c hit_keeps m held held.state count
        (ap (λ (n : Node). place_of_shared n m) frame)
        (λ only. value_elsewhere m unit.node.delivered (λ write same. absurd (stood.1 write same)))
        (was.copies m held stood.0)
    | inr stores ↦
        subst (λ (x : Held). CopyHasValue d new after.node m x x.state) (sym stores.3)
        (subst (λ (l : ℕ). CopyHasValue d new after.node l written written.state) (sym stores.2) (written_copy stores.0 stores.1))
  ]

  node_values : NodeHasValues d new after.node
  node_values = record {
    copies = copies_hold;
    back = λ back stands live.
        subst (λ (k : ℕ). HasValue d new back.line k back.words) (sym count)
        (value_on d s new e t unit after c hit_keeps back.line unit.node.delivered back.words
        (was.back back (ap (λ (x : Misses). x.back) (sym misses) ∙ stands) live));
    early = λ demand words stands early.
        early_on d s new e t unit after c hit_keeps t unit after demand words c.at (now d s new e t unit after c) stands early
        (was.early demand words (ap (λ (x : Misses). x.demand) (sym misses) ∙ stands) early);
    out = λ place msg there.
        message_on d s new e t unit after c hit_keeps msg (λ kind. e.answers.queued t place after msg (now d s new e t unit after c) there kind)
        (was.out place msg (ap (λ (n : Node). slice_get n.out place) (sym frame) ∙ there));
    records = λ m r there fresh.
        record_on d s new e t unit after c hit_keeps unit.node after.node m r r.owner count
        (was.records m r (ap (λ (n : Node). slice_index_or n.records m None) (sym frame) ∙ there) fresh);
  }

  pub hit_values : new.replies ≡ s.replies → ValuesHold d new
  hit_values replies =
      values_on d s new e t unit after c hit_keeps values node_values
      (λ router port slot msg there. values.channels router port slot msg (ap (λ (net : Network Msg). stands_at net router port slot) (sym replies) ∙ there))
