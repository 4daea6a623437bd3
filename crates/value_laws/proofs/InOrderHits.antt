-- An in-order core that answers an access has tried it at its node.
use Rattle.std.proofs.Common.{◌≡◌, ℕ, ◌*◌, ◌%◌, ◌<◌, true, false, Option, Some, None, sym, ap, ◌∙◌, refl, subst, inl, inr, arith}
use Rattle.std.specs.Prelude.{◌||◌, not, unwrap_or, IfSome}
use Rattle.std.proofs.lemmas.Option.{same_Some}
use Rattle.core_isa.specs.Core.{Effect, Becomes, Loads, Stores, Swaps, Adds, Halts, effect_of, instr_at}
use Rattle.report_text.specs.declared.access.Access.{Access}
use Rattle.report_text.specs.declared.access.AccessKind.{AccessKind}
use Rattle.report_text.specs.declared.access.AccessKind.TheVariants.{Load, Store, Swap, Add}
use Rattle.report_text.specs.Accesses.{writes}
use Rattle.doc_text.specs.Doc.{Doc}
use Rattle.chip_model.specs.declared.done.Done.{Done}
use Rattle.chip_model.specs.declared.pending.Pending.{Pending}
use Rattle.chip_model.specs.Chip.{Chip, address_in}
use Rattle.chip_model.specs.Node.{Node, Performed, has_entry, node_after_access}
use Rattle.chip_model.specs.Units.{UnitState, Acted, access_of, performed, access_tried, executed, core_event, in_order}
use Rattle.chip_model.specs.ChipState.{ChipState}
use Rattle.chip_model.specs.BehaviourLaws.{KeepsLaws, IsOfCore, SameUnit, GoesOn, WorksAlone, TriesAccess, Works}
use Rattle.chip_model.specs.ChipInvariant.{ProtocolHolds}
use Rattle.chip_laws.specs.DocFits.{DocFits}
use Rattle.chip_laws.specs.Meetings.{UnitsFit}
use Rattle.chip_laws.proofs.InOrderEvents.{event_of}
use Rattle.chip_laws.proofs.Options.{none_some, when_some, option_map_some}
use Rattle.chip_laws.proofs.SuppliedEvents.{unit_holds}
use Rattle.value_laws.proofs.EventReads.{TriesAll}

-- the access that a core event tries
record TriedBy (unit : UnitState) (acted : Acted) : Type 0 where
  access : Pending
  step : Performed
  address : access.address < 4 * unit.node.chip.lines
  tried : node_after_access access unit.node ≡ Some step
  acts : performed unit step ≡ acted

tried_at : (unit : UnitState) (kind : AccessKind) (sum value : ℕ) (acted : Acted) → 0 < unit.node.chip.lines → access_tried unit kind sum value ≡ Some acted
    → TriedBy unit acted
tried_at unit kind sum value acted some e =
    let access : Pending = record { kind = kind; address = address_in unit.node.chip sum; value = value } in
    option_map_some (performed unit) (node_after_access access unit.node) acted e (λ step tried same.
    record { access = access; step = step; address = below sum unit.node.chip.lines some; tried = tried; acts = same })
  where
    below : (n lines : ℕ) → 0 < lines → n % (4 * lines) < 4 * lines
    below n lines some_lines = omega arith

executed_tries : (unit : UnitState) (effect : Effect) (acted : Acted) (a : Access) → 0 < unit.node.chip.lines → executed unit effect ≡ Some acted
    → acted.1 ≡ Some a → TriedBy unit acted
executed_tries unit (Becomes core) acted a some e answers =
    none_some a (ap (λ (x : Acted). x.1) (same_Some {A = Acted} (record unit { core = core }, None) acted e) ∙ answers)
executed_tries unit Halts acted a some e answers =
    none_some a (ap (λ (x : Acted). x.1) (same_Some {A = Acted} (record unit { halted = true }, None) acted e) ∙ answers)
executed_tries unit (Loads register sum) acted a some e answers = tried_at unit Load sum 0 acted some e
executed_tries unit (Stores sum value) acted a some e answers = tried_at unit Store sum value acted some e
executed_tries unit (Swaps register sum value) acted a some e answers = tried_at unit Swap sum value acted some e
executed_tries unit (Adds register sum value) acted a some e answers = tried_at unit Add sum value acted some e

core_tries : (unit : UnitState) (acted : Acted) (a : Access) → 0 < unit.node.chip.lines → core_event unit ≡ Some acted → acted.1 ≡ Some a → TriedBy unit acted
unfolding core_event
core_tries unit acted a some e answers =
    when_some (not (unit.halted || has_entry unit.node)) (executed unit (effect_of (instr_at unit.program unit.core.place) unit.core)) acted e (λ free does.
    executed_tries unit (effect_of (instr_at unit.program unit.core.place) unit.core) acted a some does answers)

-- what a step of the node leaves of the unit
performed_goes : (unit : UnitState) (node : Node) (done : Option Done) (a : Access) → (performed unit (node, done)).1 ≡ Some a
    → SameUnit unit (performed unit (node, done)).0
    → IsOfCore unit (performed unit (node, done)).0 a → GoesOn unit (node, done) (performed unit (node, done))
performed_goes unit node None a answers same of = none_some a answers
performed_goes unit node (Some done) a answers same of =
    let is : access_of unit done ≡ a = same_Some (access_of unit done) a answers in
    record {
      same = same;
      node = refl;
      answers = (unit.core.steps, refl, subst (IsOfCore unit (performed unit (node, Some done)).0) (sym is) of);
    }

-- the access that a core answers without its node is of the core
alone_of : (unit : UnitState) (acted : Acted) (a : Access) → WorksAlone unit acted → acted.1 ≡ Some a → IsOfCore unit acted.0 a
alone_of unit acted a alone some = by acted.1 some alone.reads where
  Reads : Access → Type 0
  Reads x = (writes x.kind ≡ false) × (x.tile ≡ unit.node.tile) × (x.time ≡ unit.node.delivered) × IsOfCore unit acted.0 x

  by : (answer : Option Access) → answer ≡ Some a → IfSome answer (λ x. Reads x) → IsOfCore unit acted.0 a
  by None is reads_it = none_some a is
  by (Some b) is reads_it = subst (IsOfCore unit acted.0) (same_Some b a is) reads_it.3

works_tries : (unit : UnitState) (acted : Acted) (a : Access) → TriedBy unit acted → acted.1 ≡ Some a → Works unit acted → TriesAccess unit acted
works_tries unit acted a by some (inr tries) = tries
works_tries unit acted a by some (inl alone) = record {
  access = by.access;
  left = by.step;
  address = by.address;
  tried = by.tried;
  goes_on = subst (GoesOn unit by.step) by.acts (performed_goes unit by.step.0 by.step.1 a (ap (λ (x : Acted). x.1) by.acts ∙ some)
      (subst (λ (x : Acted). SameUnit unit x.0) (sym by.acts) alone.same)
      (subst (λ (x : Acted). IsOfCore unit x.0 a) (sym by.acts) (alone_of unit acted a alone some)));
}

-- an in-order core that answers an access has tried it
pub in_order_tries : (laws : KeepsLaws in_order) (d : Doc) (s new : ChipState) → DocFits d → ProtocolHolds d s → UnitsFit in_order laws s
    → TriesAll in_order s new
unfolding in_order
in_order_tries laws d s new fits holds fit t does a some =
    let unit = does.unit in
    let law = (laws.stepped does.unit (fit t does.unit does.changes.at) does.ready).1 in
    let lines : 0 < does.unit.node.chip.lines =
    subst (λ (chip : Chip). 0 < chip.lines) (sym (unit_holds d s t does.unit holds does.changes.at).holds.node.chip) fits.chip.lines in
    works_tries does.unit (unwrap_or (core_event does.unit) (does.unit, None)) a
    (core_tries does.unit (unwrap_or (core_event does.unit) (does.unit, None)) a lines (event_of does.unit (core_event does.unit) does.ready) some) some law
