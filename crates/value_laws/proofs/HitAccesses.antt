-- An access that hits: it is served by the copy of its line, and stands on the value of the line at the node's count.
use Rattle.std.proofs.Common.{◌≡◌, ℕ, ◌<◌, Bool, true, false, cond, Option, Some, None, sym, ap, ◌∙◌, refl, subst, inl, inr, ◌⊎◌, take, arith}
use Rattle.std.specs.Prelude.{slice_get, not}
use Rattle.std.specs.List.{AllByRecursion}
use Rattle.std.proofs.lemmas.Option.{same_Some}
use Rattle.report_text.specs.declared.access.Access.{Access}
use Rattle.report_text.specs.Accesses.{writes}
use Rattle.doc_text.specs.Doc.{Doc}
use Rattle.chip_model.specs.declared.done.Done.{Done}
use Rattle.chip_model.specs.declared.pending.Pending.{Pending}
use Rattle.chip_model.specs.declared.line_state.State.{State}
use Rattle.chip_model.specs.declared.line_state.State.TheVariants.{M, O, S}
use Rattle.chip_model.specs.declared.owner.Owner.{Owner}
use Rattle.chip_model.specs.declared.owner.Owner.TheVariants.{Tile}
use Rattle.chip_model.specs.Chip.{line_of}
use Rattle.chip_model.specs.Cache.{Held, lookup}
use Rattle.chip_model.specs.Snoop.{done_by}
use Rattle.chip_model.specs.Node.{Node, Performed, has_entry, load_hit, store_hit, store_to, missed, unless_written_back, demand_started, accessed_with, node_after_access}
use Rattle.chip_model.specs.Units.{UnitState}
use Rattle.chip_model.specs.ChipState.{ChipState}
use Rattle.chip_model.specs.BehaviourLaws.{numbered}
use Rattle.chip_model.specs.NodeShape.{is_modified}
use Rattle.chip_model.specs.Ownership.{writer}
use Rattle.chip_model.specs.Witness.{is_before, is_write, line_value}
use Rattle.chip_model.specs.Writers.{writer_for_state, IsSettled, OthersSettled}
use Rattle.chip_model.specs.Values.{CopyHasValue, place_of_shared, ValuesHold}
use Rattle.chip_model.specs.ChipInvariant.{ProtocolHolds}
use Rattle.chip_laws.proofs.Each.{each_at, each_from}
use Rattle.chip_laws.proofs.Options.{none_some, when_some}
use Rattle.chip_laws.proofs.SuppliedEvents.{unit_holds}
use Rattle.snoop_core.proofs.Accesses.{accessed_free}
use Rattle.value_laws.specs.Sequences.{Succeeds}
use Rattle.value_laws.proofs.LineValues.{Counts}
use Rattle.value_laws.proofs.Passing.{wrote}
use Rattle.value_laws.proofs.MissValues.{shared_at_count}
use Rattle.value_laws.proofs.Acting.{ActsOn, counts_here, received_word}

-- ---- what a hit is

-- the copy that serves an access, which reads and leaves the node as it is, or writes the only copy
pub record Hit (access : Pending) (node : Node) (step : Performed) : Type 0 where
  pub free : node.side.misses.demand ≡ None
  pub held : Held
  pub at : lookup node.chip node.side.cache (line_of access.address) ≡ Some held
  pub done : step.1 ≡ Some (done_by access node.delivered held.words)
  pub left : ((writes access.kind ≡ false) × (step.0 ≡ node)) ⊎ ((writes access.kind ≡ true) × (held.state ≡ M) × (step.0 ≡ (store_hit access held node).0))

-- a miss performs nothing
missed_performs : (access : Pending) (node : Node) (step : Performed) (one : Done) → missed access node ≡ Some step → step.1 ≡ Some one → ⊥
missed_performs access node step one e done = grind (arith, e, done)

started_performs : (access : Pending) (node : Node) (step : Performed) (one : Done)
    → unless_written_back access node (Some (demand_started access node.side node)) ≡ Some step
    → step.1 ≡ Some one → ⊥
started_performs access node step one e done = grind (arith, e, done)

stored : (access : Pending) (node : Node) (held : Held) (state : State) (step : Performed) (one : Done) → node.side.misses.demand ≡ None
    → writes access.kind ≡ true
    → held.state ≡ state → lookup node.chip node.side.cache (line_of access.address) ≡ Some held → store_to access held node state ≡ Some step
    → step.1 ≡ Some one
    → Hit access node step
stored access node held M step one free write state at e done =
    let is : store_hit access held node ≡ step = same_Some (store_hit access held node) step e in
    record {
      free = free;
      held = held;
      at = at;
      done = ap (λ (p : Performed). p.1) (sym is);
      left = inr (write, state, ap (λ (p : Performed). p.0) (sym is));
    }
stored access node held O step one free write state at e done = absurd (started_performs access node step one e done)
stored access node held S step one free write state at e done = absurd (started_performs access node step one e done)

served : (access : Pending) (node : Node) (copy : Option Held) (step : Performed) (one : Done) → node.side.misses.demand ≡ None
    → lookup node.chip node.side.cache (line_of access.address) ≡ copy → accessed_with access node copy ≡ Some step → step.1 ≡ Some one → Hit access node step
served access node None step one free at e done =
    when_some _ (missed access node) step e (λ apart miss. absurd (missed_performs access node step one miss done))
served access node (Some held) step one free at e done = by (writes access.kind) refl e where
  by : (write : Bool) → writes access.kind ≡ write → cond {A = Option Performed} write (store_to access held node held.state) (Some
      (load_hit access held node)) ≡ Some step → Hit access node step
  by true write x = stored access node held held.state step one free write refl at x done
  by false write x =
      let is : load_hit access held node ≡ step = same_Some (load_hit access held node) step x in
      record {
        free = free;
        held = held;
        at = at;
        done = ap (λ (p : Performed). p.1) (sym is);
        left = inl (write, ap (λ (p : Performed). p.0) (sym is));
      }

-- an access that performs something hits
pub hit_of : (access : Pending) (node : Node) (step : Performed) (one : Done) → node_after_access access node ≡ Some step → step.1 ≡ Some one
    → Hit access node step
unfolding node_after_access
hit_of access node step one e done =
    when_some (not (has_entry node)) (accessed_with access node (lookup node.chip node.side.cache (line_of access.address))) step e (λ free tried.
    served access node (lookup node.chip node.side.cache (line_of access.address)) step one (accessed_free access node step e) refl tried done)

-- ---- what it stands on

-- a copy of a node that waits for nothing may be written by its tile alone
only_writer : (node : Node) (held : Held) (state : State) (w : Owner) (u : ℕ) → node.side.misses.demand ≡ None → writer_for_state node held state w
    → w ≡ Tile u → u ≡ node.tile
only_writer node held M w u free may is = cc
only_writer node held O w u free may is = cc
only_writer node held S w u free (inl may) is = cc
only_writer node held S w u free (inr may) is = let e = may.0 in cc

copy_words : (d : Doc) (s : ChipState) (node : Node) (line : ℕ) (held : Held) (state : State) → place_of_shared node line ≡ node.delivered
    → CopyHasValue d s node line held state
    → held.words ≡ line_value d s.accesses line node.delivered
copy_words d s node line held M same has = has.value
copy_words d s node line held O same has = has.value
copy_words d s node line held S same has = has.value ∙ ap (line_value d s.accesses line) same

copy_settled : (d : Doc) (s : ChipState) (node : Node) (line : ℕ) (held : Held) (state : State) → place_of_shared node line ≡ node.delivered
    → CopyHasValue d s node line held state
    → OthersSettled s line node.delivered node.tile
copy_settled d s node line held M same has u unit at away = has.settled u unit at away
copy_settled d s node line held O same has u unit at away = has.settled u unit at
copy_settled d s node line held S same has u unit at away = subst (λ (p : ℕ). IsSettled s.network.ordered unit.node line p) same (has.settled u unit at)

pub modified_copy : (copy : Option Held) (held : Held) → copy ≡ Some held → held.state ≡ M → is_modified copy ≡ true
modified_copy copy held at state = ap is_modified at ∙ ap (λ (x : State). is_modified (Some (record held { state = x }))) state

module _ (d : Doc) (s : ChipState) (t : ℕ) (unit : UnitState) (holds : ProtocolHolds d s) (values : ValuesHold d s) (at_unit : slice_get s.units t ≡ Some unit)
    (access : Pending) (step : Performed) (hit : Hit access unit.node step) (number : ℕ)
    (follows : AllByRecursion (λ b. Succeeds b (numbered unit (done_by access unit.node.delivered hit.held.words) number)) s.accesses) where
  abbrev pub hit_access : Access
  hit_access = numbered unit (done_by access unit.node.delivered hit.held.words) number

  abbrev line : ℕ
  line = line_of access.address

  tile : unit.node.tile ≡ t
  tile = (unit_holds d s t unit holds at_unit).holds.node.agrees.tile

  shared : place_of_shared unit.node line ≡ unit.node.delivered
  shared = shared_at_count unit.node line (λ demand stands. none_some demand (sym hit.free ∙ stands))

  has : CopyHasValue d s unit.node line hit.held hit.held.state
  has = (values.nodes t unit at_unit).copies line hit.held hit.at

  own_writes : (i : ℕ) (b : Access) → slice_get s.accesses i ≡ Some b → is_write b ≡ true → line_of b.address ≡ line → b.time ≡ unit.node.delivered
      → b.tile ≡ unit.node.tile
  own_writes i b at write same then_ =
      only_writer unit.node hit.held hit.held.state (writer line (take unit.node.delivered s.network.ordered)) b.tile hit.free
      ((unit_holds d s t unit holds at_unit).holds.serves.writers line hit.held hit.at) (wrote d s line unit.node.delivered i b holds at write same then_)

  write_is_last : writes access.kind ≡ true → (p : ℕ) → IsSettled s.network.ordered unit.node line p → p < unit.node.delivered
  write_is_last write p settled = elim hit.left [
    | inl read ↦ absurd (clash write read.0)
    | inr stores ↦ settled.modified (modified_copy (lookup unit.node.chip unit.node.side.cache line) hit.held hit.at stores.1)
  ]
    where
      clash : writes access.kind ≡ true → writes access.kind ≡ false → ⊥
      clash yes_ no_ = let e : true ≡ false = sym yes_ ∙ no_ in cc

  pub hit_acts : ActsOn d s t unit hit_access unit.node.delivered hit.held.words
  hit_acts = record {
    tile = tile;
    follows = follows;
    counts = each_from (Counts line unit.node.delivered (λ b. is_before b hit_access)) s.accesses (λ i b at.
        counts_here line hit_access b (each_at (λ x. Succeeds x hit_access) s.accesses i b follows at) (own_writes i b at));
    value = copy_words d s unit.node line hit.held hit.held.state shared has;
    reads = λ reads_it. received_word access access.kind unit unit.node.delivered number hit.held.words refl reads_it;
    settled = λ u other at away. copy_settled d s unit.node line hit.held hit.held.state shared has u other at (λ same. away (same ∙ tile));
    late = write_is_last;
  }
