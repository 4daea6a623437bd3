-- What an event does to units and nodes: it changes those of one tile at most, by one step.
use Rattle.std.proofs.Common.{◌≡◌, ◌≢◌, ℕ, true, Some, List, slice_get, refl, sym, ap, ◌∙◌, subst, ◌⊎◌, inl, inr, arith}
use Rattle.std.proofs.lemmas.Bool.{cases_eq}
use Rattle.std.proofs.lemmas.Option.{same_Some}
use Rattle.report_text.specs.declared.event.Event.{Event}
use Rattle.report_text.specs.declared.event.Event.TheVariants.{Tick, Core, Inject, Post, Take, Eject, Send, Hop, DataHop, DataEject}
use Rattle.doc_text.specs.Doc.{Doc}
use Rattle.chip_model.specs.Chip.{Chip, chip_of}
use Rattle.chip_model.specs.Node.{Node, after_request_sent, after_message_sent}
use Rattle.chip_model.specs.Units.{UnitState, Acted, Behaviour}
use Rattle.chip_model.specs.ChipState.{ChipState}
use Rattle.chip_model.specs.Events.{step}
use Rattle.chip_model.specs.BehaviourLaws.{KeepsLaws, SameUnit, Works}
use Rattle.chip_laws.specs.Meetings.{UnitsFit, UnitsKeepShape}
use Rattle.chip_laws.specs.EventSteps.{ChangesUnit, EventDoes, NodeStep, node_stays, request_leaves, message_leaves, request_comes, message_comes, node_accesses}
use Rattle.chip_laws.proofs.Options.{slice_get-set_same, slice_get-set_other}
use Rattle.chip_laws.proofs.EventSteps.{event_does}

-- the unit of the tile that changed, and those of the others
pub changed_unit : (s new : ChipState) (t : ℕ) (unit after : UnitState) → ChangesUnit s new t unit after → slice_get new.units t ≡ Some after
changed_unit s new t unit after c = ap (λ (units : List UnitState). slice_get units t) c.units ∙ slice_get-set_same s.units t unit after c.at

pub other_unit : (s new : ChipState) (t u : ℕ) (unit after : UnitState) → ChangesUnit s new t unit after → u ≢ t → slice_get new.units u ≡ slice_get s.units u
other_unit s new t u unit after c away = ap (λ (units : List UnitState). slice_get units u) c.units ∙ slice_get-set_other s.units u t after away

-- a unit is the one that changed, or another one that was there
pub unit_cases : (s new : ChipState) (t u : ℕ) (unit after other : UnitState) → ChangesUnit s new t unit after → slice_get new.units u ≡ Some other
    → ((u ≡ t) × (after ≡ other)) ⊎ ((u ≢ t) × (slice_get s.units u ≡ Some other))
unit_cases s new t u unit after other c is = elim (cases_eq u t) [
  | inl same ↦ inl (same, same_Some after other (sym (changed_unit s new t unit after c) ∙ (ap (slice_get new.units) (sym same) ∙ is)))
  | inr away ↦ inr (away, sym (other_unit s new t u unit after c away) ∙ is)
]

-- what holds of the new unit, and of each other one that was there, holds of each unit
pub each_unit : (P : ℕ → UnitState → Type 0) (s new : ChipState) (t : ℕ) (unit after : UnitState) → ChangesUnit s new t unit after
    → P t after → ((u : ℕ) (other : UnitState) → u ≢ t → slice_get s.units u ≡ Some other → P u other)
    → (u : ℕ) (other : UnitState) → slice_get new.units u ≡ Some other → P u other
each_unit P s new t unit after c here others u other is = elim (unit_cases s new t u unit after other c is) [
  | inl changed ↦ subst (λ (n : ℕ). P n other) (sym changed.0) (subst (P t) changed.1 here)
  | inr was ↦ others u other was.0 was.1
]

-- what holds of each unit that was there holds of each unit, where none changes
pub same_units : (P : ℕ → UnitState → Type 0) (s new : ChipState) → new.units ≡ s.units
    → ((u : ℕ) (other : UnitState) → slice_get s.units u ≡ Some other → P u other)
    → (u : ℕ) (other : UnitState) → slice_get new.units u ≡ Some other → P u other
same_units P s new same holds u other is = holds u other (ap (λ (units : List UnitState). slice_get units u) (sym same) ∙ is)

-- a core event leaves the node, or tries an access
pub core_steps : (unit : UnitState) (acted : Acted) → Works unit acted → NodeStep unit.node acted.0.node
core_steps unit acted works = elim works [
  | inl alone ↦ node_stays alone.node
  | inr tries ↦ node_accesses tries.access tries.left tries.tried tries.address tries.goes_on.node
]

-- a core event keeps what no step changes
core_same : (unit : UnitState) (acted : Acted) → Works unit acted → SameUnit unit acted.0
core_same unit acted works = elim works [ inl alone ↦ alone.same | inr tries ↦ tries.goes_on.same ]

same_unit : (unit : UnitState) (node : Node) → SameUnit unit (record unit { node = node })
same_unit unit node = record { program = refl; tile = refl; registers = refl; steps = omega arith }

-- the unit of each tile before and after an event, whose node made one step
pub record UnitStep (s : ChipState) (t : ℕ) (after : UnitState) : Type 0 where
  pub unit : UnitState
  pub at : slice_get s.units t ≡ Some unit
  pub node : NodeStep unit.node after.node
  pub same : SameUnit unit after

-- a unit steps, and is one that such cores come to
pub record FitStep (b : Behaviour) (laws : KeepsLaws b) (s : ChipState) (t : ℕ) (after : UnitState) : Type 0 where
  pub step : UnitStep s t after
  pub fits : laws.fits after ≡ true

one_changes : (b : Behaviour) (laws : KeepsLaws b) (s new : ChipState) (t : ℕ) (unit after : UnitState) → UnitsFit b laws s
    → ChangesUnit s new t unit after → NodeStep unit.node after.node → SameUnit unit after → laws.fits after ≡ true
    → (u : ℕ) (other : UnitState) → slice_get new.units u ≡ Some other → FitStep b laws s u other
one_changes b laws s new t unit after fit c steps same fits = each_unit (FitStep b laws s) s new t unit after c
    (record { step = record { unit = unit; at = c.at; node = steps; same = same }; fits = fits })
    (λ u other away is. record { step = record { unit = other; at = is; node = node_stays refl; same = same_unit other other.node }; fits = fit u other is })

none_changes : (b : Behaviour) (laws : KeepsLaws b) (s new : ChipState) → UnitsFit b laws s → new.units ≡ s.units
    → (u : ℕ) (other : UnitState) → slice_get new.units u ≡ Some other → FitStep b laws s u other
none_changes b laws s new fit same = same_units (FitStep b laws s) s new same
    (λ u other is. record { step = record { unit = other; at = is; node = node_stays refl; same = same_unit other other.node }; fits = fit u other is })

unit_steps : (b : Behaviour) (laws : KeepsLaws b) (chip : Chip) (s new : ChipState) (event : Event) → UnitsFit b laws s → EventDoes b chip s new event
    → (u : ℕ) (other : UnitState) → slice_get new.units u ≡ Some other → FitStep b laws s u other
unit_steps b laws chip s new Tick fit does = none_changes b laws s new fit does.units
unit_steps b laws chip s new (Core t) fit does =
    let law = laws.stepped does.unit (fit t does.unit does.changes.at) does.ready in
    one_changes b laws s new t does.unit (b.stepped does.unit).0 fit does.changes (core_steps does.unit (b.stepped does.unit) law.1) (core_same does.unit (b.stepped does.unit) law.1) law.0
unit_steps b laws chip s new (Inject t) fit does =
    one_changes b laws s new t does.unit (record does.unit { node = after_request_sent does.unit.node }) fit does.changes
    (request_leaves refl) (same_unit does.unit (after_request_sent does.unit.node)) (laws.asked does.unit (fit t does.unit does.changes.at))
unit_steps b laws chip s new (Post t) fit does = none_changes b laws s new fit does.units
unit_steps b laws chip s new (Take t) fit does = none_changes b laws s new fit does.units
unit_steps b laws chip s new (Eject t) fit does =
    let law = laws.delivered does.request does.unit (fit t does.unit does.changes.at) in
    one_changes b laws s new t does.unit (b.delivered does.request does.unit).0 fit does.changes (request_comes does.request law.1.goes_on.node) law.1.goes_on.same law.0
unit_steps b laws chip s new (Send t) fit does =
    one_changes b laws s new t does.unit (record does.unit { node = after_message_sent does.unit.node }) fit does.changes
    (message_leaves refl) (same_unit does.unit (after_message_sent does.unit.node)) (laws.sent does.unit (fit t does.unit does.changes.at))
unit_steps b laws chip s new (Hop r port slot out) fit does = none_changes b laws s new fit does.units
unit_steps b laws chip s new (DataHop r port slot) fit does = none_changes b laws s new fit does.units
unit_steps b laws chip s new (DataEject r port slot) fit does =
    let law = laws.received does.msg does.unit (fit r does.unit does.changes.at) in
    one_changes b laws s new r does.unit (b.received does.msg does.unit).0 fit does.changes (message_comes does.msg law.1.goes_on.node) law.1.goes_on.same law.0

-- each unit after an event is that of its tile before, whose node made at most one step
pub each_steps : (b : Behaviour) (laws : KeepsLaws b) (chip : Chip) (s new : ChipState) (event : Event) → UnitsFit b laws s → step b chip s event ≡ Some new
    → (u : ℕ) (other : UnitState) → slice_get new.units u ≡ Some other → UnitStep s u other
each_steps b laws chip s new event fit e u other is = (unit_steps b laws chip s new event fit (event_does b chip s new event e) u other is).step

-- each unit goes on being one that such cores come to
pub units_fit : (b : Behaviour) (laws : KeepsLaws b) (chip : Chip) (s new : ChipState) (event : Event) → UnitsFit b laws s → step b chip s event ≡ Some new
    → UnitsFit b laws new
units_fit b laws chip s new event fit e u other is = (unit_steps b laws chip s new event fit (event_does b chip s new event e) u other is).fits

-- each unit goes on running its tile's program on eight registers
pub shapes_kept : (b : Behaviour) (laws : KeepsLaws b) (d : Doc) (s new : ChipState) (event : Event) → UnitsFit b laws s → UnitsKeepShape d s
    → step b (chip_of d) s event ≡ Some new → UnitsKeepShape d new
shapes_kept b laws d s new event fit shapes e u after is =
    let made = each_steps b laws (chip_of d) s new event fit e u after is in
    let was = shapes u made.unit made.at in
    record { program = made.same.program ∙ was.program; tile = made.same.tile ∙ was.tile; registers = made.same.registers ∙ was.registers }
