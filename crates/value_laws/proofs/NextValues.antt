-- A tile delivers a request: the values of what it keeps, at its count, which is one place on.
use Rattle.std.proofs.Common.{◌≡◌, ℕ, ◌+◌, ◌<◌, ◌≤◌, Bool, true, false, cond, refl, sym, ◌∙◌, ap, subst, arith, inl, inr, Option, Some, None, List, take}
use Rattle.std.specs.Prelude.{◌==◌, ◌&&◌, ◌||◌, is_some}
use Rattle.std.proofs.lemmas.Bool.{false≢true, both_ways, eq-eqb}
use Rattle.mesh_gen.specs.declared.request.Request.{Request}
use Rattle.doc_text.specs.Doc.{Doc}
use Rattle.chip_model.specs.declared.line_state.State.{State}
use Rattle.chip_model.specs.declared.line_state.State.TheVariants.{M, O, S}
use Rattle.chip_model.specs.declared.owner.Owner.TheVariants.{Memory, Tile}
use Rattle.chip_model.specs.Chip.{Chip}
use Rattle.chip_model.specs.Cache.{Held, lookup}
use Rattle.chip_model.specs.Misses.{Demand, WriteBack, is_getm}
use Rattle.chip_model.specs.Snoop.{CacheSide}
use Rattle.chip_model.specs.Node.{Node}
use Rattle.chip_model.specs.Units.{UnitState}
use Rattle.chip_model.specs.ChipState.{ChipState}
use Rattle.chip_model.specs.NodeShape.{is_modified, SideFits}
use Rattle.chip_model.specs.Ownership.{owner, owns, writer, is_owned_copy, is_live_back, is_open_write}
use Rattle.chip_model.specs.Witness.{line_value}
use Rattle.chip_model.specs.Writers.{is_ordered_write, time_of_place, time_of_demand, latest_time, writer_for_state, IsSettled}
use Rattle.chip_model.specs.Values.{HasValue, HasOwnValue, CopyHasValue, place_of_demand, place_of_shared}
use Rattle.snoop_core.proofs.CacheMaps.{lookup-line}
use Rattle.chip_laws.specs.EventSteps.{ChangesUnit}
use Rattle.chip_laws.proofs.OwnerFolds.{writer_owns}
use Rattle.chip_laws.proofs.SuppliedEvents.{unit_holds}
use Rattle.supply_laws.proofs.OwnerGets.{is_owner}
use Rattle.value_laws.proofs.Passing.{value_passes, own_value_passes}
use Rattle.value_laws.proofs.SettledSteps.{OrdersNothing, now}
use Rattle.value_laws.proofs.StepValues.{KeepsSettled, value_on, itself_on, with_itself}

-- a node has performed accesses up to its count at most
pub latest_within : (node : Node)
    → ((demand : Demand) (place : ℕ) → node.side.misses.demand ≡ Some demand → demand.ordered ≡ Some place → place < node.delivered)
    → latest_time node ≤ node.delivered
latest_within node before = by node.side.misses.demand refl where
  at : (demand : Demand) (o : Option ℕ) → node.side.misses.demand ≡ Some demand → demand.ordered ≡ o → time_of_place o node.delivered ≤ node.delivered
  at demand None stands is = omega arith
  at demand (Some place) stands is = (let less = before demand place stands is in omega (arith, less))

  by : (entry : Option Demand) → node.side.misses.demand ≡ entry → time_of_demand entry node.delivered ≤ node.delivered
  by None stands = omega arith
  by (Some demand) stands = at demand demand.ordered stands refl

-- where a copy in S has its value: at the place of the node's own ordered demand to write the line, which stays, or at the count
pub record KeepsShared (old node : Node) (line : ℕ) : Type 0 where
  pub asks : is_ordered_write line node.side.misses.demand ≡ true → place_of_shared node line ≡ place_of_shared old line
  pub free : is_ordered_write line node.side.misses.demand ≡ false → place_of_shared old line ≡ old.delivered

-- the place of an ordered demand is the same whatever the count is
place_of_write : (line a b : ℕ) (entry : Option Demand) → is_ordered_write line entry ≡ true → place_of_demand entry a ≡ place_of_demand entry b
place_of_write line a b None is = absurd (false≢true is)
place_of_write line a b (Some demand) is = by demand.ordered is where
  by : (place : Option ℕ) → ((demand.line == line) && is_getm demand.kind && is_some place) ≡ true → time_of_place place a ≡ time_of_place place b
  by (Some place) test = refl
  by None test = absurd (none ((demand.line == line) && is_getm demand.kind) test) where
    none : (c : Bool) → (c && false) ≡ true → ⊥
    none true x = false≢true x
    none false x = false≢true x

-- the demand stays
pub same_shared : (old node : Node) (line : ℕ) → node.side.misses.demand ≡ old.side.misses.demand → KeepsShared old node line
same_shared old node line same = record {
  asks = λ is.
      let was : is_ordered_write line old.side.misses.demand ≡ true = ap (is_ordered_write line) (sym same) ∙ is in
      ap (λ (b : Bool). cond b (place_of_demand node.side.misses.demand node.delivered) node.delivered) is
      ∙ ap (λ (o : Option Demand). place_of_demand o node.delivered) same
      ∙ place_of_write line node.delivered old.delivered old.side.misses.demand was
      ∙ sym (ap (λ (b : Bool). cond b (place_of_demand old.side.misses.demand old.delivered) old.delivered) was);
  free = λ is. ap (λ (b : Bool). cond b (place_of_demand old.side.misses.demand old.delivered) old.delivered) (ap (is_ordered_write line) (sym same) ∙ is);
}

-- a line under a live write-back is owned
middle : (a b c : Bool) → b ≡ true → (a || b || c) ≡ true
middle true b c is = refl
middle false true c is = refl
middle false false c is = absurd (false≢true is)

pub back_owned : (chip : Chip) (side : CacheSide) (back : WriteBack) → side.misses.back ≡ Some back → back.live ≡ true → owns chip side back.line ≡ true
unfolding owns
back_owned chip side back stands live =
    let is : is_live_back back.line side.misses.back ≡ true =
    ap (is_live_back back.line) stands ∙ (ap (λ (b : Bool). b && back.live) (eq-eqb back.line back.line refl) ∙ live) in
    middle (is_owned_copy (lookup chip side.cache back.line)) (is_live_back back.line side.misses.back) (is_open_write back.line side.misses.demand) is

module _ (d : Doc) (s new : ChipState) (e : OrdersNothing d s new) (t : ℕ) (unit after : UnitState) (c : ChangesUnit s new t unit after)
    (keeps : KeepsSettled d s new unit after)
    (count : after.node.delivered ≡ unit.node.delivered + 1) where
  abbrev n : ℕ
  n = unit.node.delivered

  here : unit.node.tile ≡ t
  here = (unit_holds d s t unit e.before c.at).holds.node.agrees.tile

  there : after.node.tile ≡ t
  there = (unit_holds d new t after e.behind (now d s new e t unit after c)).holds.node.agrees.tile

  latest : latest_time unit.node ≤ n
  latest = latest_within unit.node (λ demand place stands is. ((unit_holds d s t unit e.before c.at).holds.node.agrees.demand demand place stands is).before)

  -- what holds of the order after the tile's new count holds of the old order after one request more
  at_count : (P : List Request → Type 0) → P (take after.node.delivered new.network.ordered) → P (take (n + 1) s.network.ordered)
  at_count P is =
      subst (λ (rs : List Request). P (take (n + 1) rs)) e.places.order
      (subst (λ (k : ℕ). P (take k new.network.ordered)) count is)

  -- where no tile may write after the request
  pub passes : (line : ℕ) (words : List ℕ) → writer line (take (n + 1) s.network.ordered) ≡ Memory → HasValue d s line n words
      → HasValue d new line after.node.delivered words
  passes line words none has =
      subst (λ (k : ℕ). HasValue d new line k words) (sym count)
      (value_on d s new e t unit after c keeps line (n + 1) words (value_passes d s line n words e.before none has))

  -- where the tile itself may
  pub own_passes : (line : ℕ) (words : List ℕ) → writer line (take (n + 1) s.network.ordered) ≡ Tile t
      → line_value d new.accesses line (n + 1) ≡ line_value d s.accesses line (n + 1)
      → HasOwnValue d s t line n words → HasOwnValue d new t line after.node.delivered words
  own_passes line words own same has =
      subst (λ (k : ℕ). HasOwnValue d new t line k words) (sym count)
      (itself_on d s new e t unit after c keeps line (n + 1) words same (own_value_passes d s t line n unit words e.before c.at own latest has))

  -- ---- a copy that stays
  shared_next : (line : ℕ) (held : Held) → held.line ≡ line → KeepsShared unit.node after.node line
      → writer_for_state after.node held S (writer line (take (n + 1) s.network.ordered))
      → HasValue d s line (place_of_shared unit.node line) held.words → HasValue d new line (place_of_shared after.node line) held.words
  shared_next line held of_line shared may has = by (is_ordered_write line after.node.side.misses.demand) refl where
    by : (b : Bool) → is_ordered_write line after.node.side.misses.demand ≡ b → HasValue d new line (place_of_shared after.node line) held.words
    by true asks =
        subst (λ (k : ℕ). HasValue d new line k held.words) (sym (shared.asks asks))
        (value_on d s new e t unit after c keeps line (place_of_shared unit.node line) held.words has)
    by false free = elim may [
      | inl none ↦
          subst (λ (k : ℕ). HasValue d new line k held.words)
          (sym (ap (λ (b : Bool). cond b (place_of_demand after.node.side.misses.demand after.node.delivered) after.node.delivered) free))
          (passes line held.words none (subst (λ (k : ℕ). HasValue d s line k held.words) (shared.free free) has))
      | inr own ↦
          absurd (both_ways (is_ordered_write line after.node.side.misses.demand) free
          (ap (λ (l : ℕ). is_ordered_write l after.node.side.misses.demand) (sym of_line) ∙ own.1))
    ]

  copy_by : (line : ℕ) (held : Held) (state : State) → held.line ≡ line → KeepsShared unit.node after.node line
      → (state ≡ M → line_value d new.accesses line (n + 1) ≡ line_value d s.accesses line (n + 1))
      → writer_for_state after.node held state (writer line (take (n + 1) s.network.ordered))
      → CopyHasValue d s unit.node line held state → CopyHasValue d new after.node line held state
  copy_by line held M of_line shared same may has =
      subst (λ (u : ℕ). HasOwnValue d new u line after.node.delivered held.words) (sym there)
      (own_passes line held.words (may ∙ ap Tile there) (same refl) (subst (λ (u : ℕ). HasOwnValue d s u line n held.words) here has))
  copy_by line held O of_line shared same may has = passes line held.words may has
  copy_by line held S of_line shared same may has = shared_next line held of_line shared may has

  pub copy_next : (line : ℕ) (held : Held) → lookup after.node.chip after.node.side.cache line ≡ Some held → KeepsShared unit.node after.node line
      → (held.state ≡ M → line_value d new.accesses line (n + 1) ≡ line_value d s.accesses line (n + 1))
      → CopyHasValue d s unit.node line held held.state → CopyHasValue d new after.node line held held.state
  copy_next line held at shared same has =
      copy_by line held held.state (lookup-line after.node.chip after.node.side.cache line held at) shared same
      (at_count (λ (rs : List Request). writer_for_state after.node held held.state (writer line rs))
      ((unit_holds d new t after e.behind (now d s new e t unit after c)).holds.serves.writers line held at)) has

  -- ---- a write-back that stays
  back_settled : (back : WriteBack) → after.node.side.misses.back ≡ Some back → IsSettled new.network.ordered after.node back.line after.node.delivered
  back_settled back stands =
      let side : SideFits after.node.chip after.node.side = (unit_holds d new t after e.behind (now d s new e t unit after c)).holds.node.fits.side in
      record {
        delivered = λ g q less at same kind source. less;
        demand = λ demand g stands_demand ordered kind same.
            absurd (both_ways (demand.line == back.line) (side.apart demand back stands_demand stands) (eq-eqb demand.line back.line same));
        modified = λ only. absurd (false≢true (sym (ap is_modified (side.back back stands)) ∙ only));
      }

  pub back_next : (back : WriteBack) → after.node.side.misses.back ≡ Some back → back.live ≡ true
      → line_value d new.accesses back.line (n + 1) ≡ line_value d s.accesses back.line (n + 1)
      → HasValue d s back.line n back.words → HasValue d new back.line after.node.delivered back.words
  back_next back stands live same has = elim (writer_owns back.line (take (n + 1) s.network.ordered)) [
    | inl none ↦ passes back.line back.words none has
    | inr owned ↦
        with_itself d s new e t unit after c keeps back.line after.node.delivered back.words (back_settled back stands)
        (own_passes back.line back.words (owned ∙ is_own) same (record { value = has.value; settled = λ u other at away. has.settled u other at }))
  ]
    where
      is_own : owner back.line (take (n + 1) s.network.ordered) ≡ Tile t
      is_own =
          let holds = (unit_holds d new t after e.behind (now d s new e t unit after c)).holds in
          at_count (λ (rs : List Request). owner back.line rs ≡ Tile t)
          (is_owner after.node.tile (owner back.line (take after.node.delivered new.network.ordered))
          (sym (holds.serves.owns.lines back.line) ∙ back_owned after.node.chip after.node.side back stands live) ∙ ap Tile there)
