-- Every event of a chip of in-order cores keeps that each core is what its own accesses make of a new core.
use Rattle.std.proofs.Common.{◌≡◌, ◌≢◌, ℕ, ◌*◌, true, false, refl, sym, ◌∙◌, ap, subst, Option, Some, None, List, [], ◌∷◌, ◌++◌}
use Rattle.std.specs.Prelude.{unwrap_or, not, ◌||◌}
use Rattle.std.proofs.lemmas.Bool.{false≢true, not-true, or_parts}
use Rattle.std.proofs.lemmas.Option.{same_Some}
use Rattle.mesh_gen.specs.declared.port.Port.{Port}
use Rattle.core_isa.specs.Core.{Effect, Becomes, Loads, Stores, Swaps, Adds, Halts, new_core}
use Rattle.report_text.specs.declared.access.Access.{Access}
use Rattle.report_text.specs.declared.access.AccessKind.{AccessKind}
use Rattle.report_text.specs.declared.access.AccessKind.TheVariants.{Load, Store, Swap, Add}
use Rattle.report_text.specs.declared.event.Event.{Event}
use Rattle.report_text.specs.declared.event.Event.TheVariants.{Tick, Core, Inject, Post, Take, Eject, Send, Hop, DataHop, DataEject}
use Rattle.doc_text.specs.Doc.{Doc}
use Rattle.flat_ref.specs.Consistency.{accesses_of, run_alone}
use Rattle.chip_model.specs.declared.done.Done.{Done}
use Rattle.chip_model.specs.declared.pending.Pending.{Pending}
use Rattle.chip_model.specs.Chip.{Chip, chip_of, address_in}
use Rattle.chip_model.specs.Snoop.{word_in}
use Rattle.chip_model.specs.Node.{Node, has_entry, node_after_access, node_after_request, node_after_message, after_request_sent, after_message_sent}
use Rattle.chip_model.specs.Units.{UnitState, Acted, core_after, access_of, performed, access_tried, executed, core_event, in_order}
use Rattle.chip_model.specs.ChipState.{ChipState}
use Rattle.chip_model.specs.Events.{with_access}
use Rattle.chip_model.specs.UnitShape.{IsAccess}
use Rattle.chip_model.specs.ChipInvariant.{CoresInOrder, ProtocolHolds}
use Rattle.chip_laws.specs.InOrderUnits.{next_effect}
use Rattle.chip_laws.specs.EventSteps.{ChangesUnit, CoreWorks, RequestEnters, RequestComes, MessageEnters, MessageComes, EventDoes}
use Rattle.chip_laws.proofs.Options.{none_some, when_some, option_map_some}
use Rattle.chip_laws.proofs.UnitFrames.{each_unit, same_units}
use Rattle.chip_laws.proofs.StepAccesses.{Was, StepGoesOn, delivered_goes, arrived_goes, access_goes}
use Rattle.chip_laws.proofs.InOrderCores.{IsNextAccess, is_next}
use Rattle.chip_laws.proofs.InOrderEvents.{unit_is, own_tile, core_tile, event_of}
use Rattle.value_laws.specs.CoreRuns.{CoreRuns, CoresRun}
use Rattle.value_laws.proofs.CoreSteps.{DoesAccess, makes_next, runs_register, runs_access, own_push, other_push}

-- ---- a unit goes on with a step of its node

-- the access of what was done
does_access : (unit : UnitState) (done : Done) → (was : Was (IsNextAccess unit) done) → DoesAccess was.access (access_of unit done)
does_access unit done was = record {
  word = word_in was.words was.access.address;
  kind = ap (λ (one : Done). one.kind) was.by;
  address = ap (λ (one : Done). one.address) was.by;
  value = ap (λ (one : Done). one.value) was.by;
  old = ap (λ (one : Done). one.old) was.by;
}

-- the same chip
chip_runs : (accesses : List Access) (t : ℕ) (unit : UnitState) (node : Node) → node.chip ≡ unit.node.chip → CoreRuns accesses t unit
    → CoreRuns accesses t (record unit { node = node })
chip_runs accesses t unit node chip is = record {
  runs = ap (λ (c : Chip). run_alone (4 * c.lines) unit.program (new_core t) (accesses_of t accesses) unit.core.steps) chip ∙ is.runs;
  halts = is.halts;
}

step_runs : (accesses : List Access) (t : ℕ) (unit : UnitState) (node : Node) (done : Option Done) → unit.node.tile ≡ t → CoreRuns accesses t unit
    → StepGoesOn (IsNextAccess unit) unit.node (node, done)
    → CoreRuns (with_access (performed unit (node, done)).1 accesses) t (performed unit (node, done)).0
step_runs accesses t unit node None tile is step = chip_runs accesses t unit node step.chip is
step_runs accesses t unit node (Some done) tile is step =
    let access = access_of unit done in
    let core = core_after unit.program access unit.core in
    let was = step.goes.was done refl in
    let makes = makes_next unit.node.chip unit.program unit.core was.access access (does_access unit done was) was.is.1 in
    let runs = runs_access (4 * unit.node.chip.lines) unit.program (new_core t) unit.core core (accesses_of t accesses) access is.runs refl makes in
    record {
      runs = ap (λ (xs : List Access). run_alone (4 * node.chip.lines) unit.program (new_core t) xs core.steps) (own_push t accesses access tile)
          ∙ ap (λ (c : Chip). run_alone (4 * c.lines) unit.program (new_core t) (accesses_of t accesses ++ access ∷ []) core.steps) step.chip
          ∙ runs;
      halts = λ halted. absurd (false≢true (sym was.is.0 ∙ halted));
    }

-- an access of another tile
other_runs : (accesses : List Access) (t u : ℕ) (o : Option Access) (other : UnitState) → u ≢ t → ((a : Access) → o ≡ Some a → a.tile ≡ t)
    → CoreRuns accesses u other
    → CoreRuns (with_access o accesses) u other
other_runs accesses t u None other away tile is = is
other_runs accesses t u (Some a) other away tile is = record {
  runs = ap (λ (xs : List Access). run_alone (4 * other.node.chip.lines) other.program (new_core u) xs other.core.steps)
      (other_push u accesses a (λ own. away (sym own ∙ tile a refl))) ∙ is.runs;
  halts = is.halts;
}

-- ---- a core event
abbrev ActedRuns : List Access → ℕ → Acted → Type 0
ActedRuns accesses t acted = CoreRuns (with_access acted.1 accesses) t acted.0

tried_runs : (accesses : List Access) (t : ℕ) (unit : UnitState) (kind : AccessKind) (sum value : ℕ) (effect : Effect) (acted : Acted) → unit.node.tile ≡ t
    → CoreRuns accesses t unit
    → unit.halted ≡ false → next_effect unit ≡ effect
    → IsAccess unit.node.chip (record { kind = kind; address = address_in unit.node.chip sum; value = value }) effect
    → access_tried unit kind sum value ≡ Some acted → ActedRuns accesses t acted
tried_runs accesses t unit kind sum value effect acted tile is running next here e =
    let access : Pending = record { kind = kind; address = address_in unit.node.chip sum; value = value } in
    let next_is : IsNextAccess unit access = (running, is_next unit access effect next here) in
    option_map_some (performed unit) (node_after_access access unit.node) acted e (λ step tried same.
    subst (ActedRuns accesses t) same (step_runs accesses t unit step.0 step.1 tile is (access_goes (IsNextAccess unit) access unit.node step next_is tried)))

executed_runs : (accesses : List Access) (t : ℕ) (unit : UnitState) (effect : Effect) (acted : Acted) → unit.node.tile ≡ t → CoreRuns accesses t unit
    → unit.halted ≡ false
    → next_effect unit ≡ effect → executed unit effect ≡ Some acted → ActedRuns accesses t acted
executed_runs accesses t unit (Becomes core) acted tile is running next e =
    subst (ActedRuns accesses t) (same_Some {A = Acted} (record unit { core = core }, None) acted e) (record {
      runs = runs_register (4 * unit.node.chip.lines) unit.program (new_core t) unit.core core (accesses_of t accesses) is.runs next;
      halts = λ halted. absurd (false≢true (sym running ∙ halted));
    })
executed_runs accesses t unit Halts acted tile is running next e =
    subst (ActedRuns accesses t) (same_Some {A = Acted} (record unit { halted = true }, None) acted e) (record { runs = is.runs; halts = λ halted. next })
executed_runs accesses t unit (Loads register sum) acted tile is running next e =
    tried_runs accesses t unit Load sum 0 (Loads register sum) acted tile is running next (refl, refl) e
executed_runs accesses t unit (Stores sum value) acted tile is running next e =
    tried_runs accesses t unit Store sum value (Stores sum value) acted tile is running next (refl, refl, refl) e
executed_runs accesses t unit (Swaps register sum value) acted tile is running next e =
    tried_runs accesses t unit Swap sum value (Swaps register sum value) acted tile is running next (refl, refl, refl) e
executed_runs accesses t unit (Adds register sum value) acted tile is running next e =
    tried_runs accesses t unit Add sum value (Adds register sum value) acted tile is running next (refl, refl, refl) e

core_runs : (accesses : List Access) (t : ℕ) (unit : UnitState) (acted : Acted) → unit.node.tile ≡ t → CoreRuns accesses t unit → core_event unit ≡ Some acted
    → ActedRuns accesses t acted
unfolding core_event
core_runs accesses t unit acted tile is e =
    when_some (not (unit.halted || has_entry unit.node)) (executed unit (next_effect unit)) acted e (λ free does.
    let parts = or_parts unit.halted (has_entry unit.node) (not-true (unit.halted || has_entry unit.node) free) in
    executed_runs accesses t unit (next_effect unit) acted tile is parts.0 refl does)

-- ---- one unit changed
one_runs : (s new : ChipState) (t : ℕ) (unit after : UnitState) (o : Option Access) → CoresRun s → ChangesUnit s new t unit after
    → new.accesses ≡ with_access o s.accesses
    → ((a : Access) → o ≡ Some a → a.tile ≡ t) → CoreRuns (with_access o s.accesses) t after → CoresRun new
one_runs s new t unit after o is changes accesses tile here =
    each_unit (λ u other. CoreRuns new.accesses u other) s new t unit after changes (subst (λ (xs : List Access). CoreRuns xs t after) (sym accesses) here)
    (λ u other away at. subst (λ (xs : List Access). CoreRuns xs u other) (sym accesses) (other_runs s.accesses t u o other away tile (is u other at)))

same_run : (s new : ChipState) → CoresRun s → new.units ≡ s.units → new.accesses ≡ s.accesses → CoresRun new
same_run s new is units accesses =
    same_units (λ u other. CoreRuns new.accesses u other) s new units
    (λ u other at. subst (λ (xs : List Access). CoreRuns xs u other) (sym accesses) (is u other at))

node_runs : (s new : ChipState) (t : ℕ) (unit : UnitState) (node : Node) → CoresRun s → ChangesUnit s new t unit (record unit { node = node })
    → new.accesses ≡ s.accesses
    → node.chip ≡ unit.node.chip → CoresRun new
node_runs s new t unit node is changes accesses chip =
    one_runs s new t unit (record unit { node = node }) None is changes accesses (λ a e. none_some a e)
    (chip_runs s.accesses t unit node chip (is t unit changes.at))

-- ---- the events
work_runs : (d : Doc) (s new : ChipState) (t : ℕ) → ProtocolHolds d s → CoresRun s → CoreWorks in_order s new t → CoresRun new
unfolding in_order
work_runs d s new t holds is does =
    let acted = unwrap_or (core_event does.unit) (does.unit, None) in
    let tile = (unit_is d s t does.unit holds does.changes.at).tile in
    let event = event_of does.unit (core_event does.unit) does.ready in
    one_runs s new t does.unit acted.0 acted.1 is does.changes does.accesses (core_tile t does.unit acted tile event)
    (core_runs s.accesses t does.unit acted tile (is t does.unit does.changes.at) event)

eject_runs : (d : Doc) (s new : ChipState) (chip : Chip) (t : ℕ) → ProtocolHolds d s → CoresInOrder s → CoresRun s → RequestComes in_order chip s new t
    → CoresRun new
unfolding in_order
eject_runs d s new chip t holds order is does =
    let step = node_after_request does.request does.unit.node in
    let tile = (unit_is d s t does.unit holds does.changes.at).tile in
    let waits = (order t does.unit does.changes.at).waits in
    one_runs s new t does.unit (performed does.unit step).0 (performed does.unit step).1 is does.changes does.accesses (own_tile t does.unit step tile)
    (step_runs s.accesses t does.unit step.0 step.1 tile (is t does.unit does.changes.at)
    (delivered_goes (IsNextAccess does.unit) does.request does.unit.node waits))

data_runs : (d : Doc) (s new : ChipState) (t : ℕ) (port : Port) (slot : ℕ) → ProtocolHolds d s → CoresInOrder s → CoresRun s
    → MessageComes in_order s new t port slot → CoresRun new
unfolding in_order
data_runs d s new t port slot holds order is does =
    let step = node_after_message does.msg does.unit.node in
    let tile = (unit_is d s t does.unit holds does.changes.at).tile in
    let waits = (order t does.unit does.changes.at).waits in
    one_runs s new t does.unit (performed does.unit step).0 (performed does.unit step).1 is does.changes does.accesses (own_tile t does.unit step tile)
    (step_runs s.accesses t does.unit step.0 step.1 tile (is t does.unit does.changes.at) (arrived_goes (IsNextAccess does.unit) does.msg does.unit.node waits))

inject_runs : (s new : ChipState) (chip : Chip) (t : ℕ) → CoresRun s → RequestEnters chip s new t → CoresRun new
unfolding after_request_sent
inject_runs s new chip t is does = node_runs s new t does.unit (after_request_sent does.unit.node) is does.changes does.accesses refl

send_runs : (s new : ChipState) (t : ℕ) → CoresRun s → MessageEnters s new t → CoresRun new
unfolding after_message_sent
send_runs s new t is does = node_runs s new t does.unit (after_message_sent does.unit.node) is does.changes does.accesses refl

pub cores_run_after : (d : Doc) (s new : ChipState) (event : Event) → ProtocolHolds d s → CoresInOrder s → CoresRun s
    → EventDoes in_order (chip_of d) s new event → CoresRun new
cores_run_after d s new Tick holds order is does = same_run s new is does.units does.accesses
cores_run_after d s new (Core t) holds order is does = work_runs d s new t holds is does
cores_run_after d s new (Inject t) holds order is does = inject_runs s new (chip_of d) t is does
cores_run_after d s new (Post t) holds order is does = same_run s new is does.units does.accesses
cores_run_after d s new (Take t) holds order is does = same_run s new is does.units does.accesses
cores_run_after d s new (Eject t) holds order is does = eject_runs d s new (chip_of d) t holds order is does
cores_run_after d s new (Send t) holds order is does = send_runs s new t is does
cores_run_after d s new (Hop r port slot out) holds order is does = same_run s new is does.units does.accesses
cores_run_after d s new (DataHop r port slot) holds order is does = same_run s new is does.units does.accesses
cores_run_after d s new (DataEject r port slot) holds order is does = data_runs d s new r port slot holds order is does
