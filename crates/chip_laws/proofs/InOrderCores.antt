-- In-order cores: a demand waits for the access that comes next, and accesses come in the order of the program.
use Rattle.std.proofs.Common.{◌≡◌, ◌≢◌, ◌⊎◌, ℕ, zero, suc, ◌+◌, ◌<◌, ◌≤◌, true, false, refl, sym, ◌∙◌, ap, subst, inl, inr, arith, Option, Some, None, List, [], ◌∷◌, ◌++◌, length, slice_get}
use Rattle.std.specs.Prelude.{not, ◌||◌}
use Rattle.std.proofs.lemmas.Bool.{false≢true, not-true, or_parts}
use Rattle.std.proofs.lemmas.Option.{same_Some, slice_get_within}
use Rattle.core_isa.specs.Core.{Effect, Becomes, Loads, Stores, Swaps, Adds, Halts, instr_at}
use Rattle.report_text.specs.declared.access.Access.{Access}
use Rattle.report_text.specs.declared.access.AccessKind.{AccessKind}
use Rattle.report_text.specs.declared.access.AccessKind.TheVariants.{Load, Store, Swap, Add}
use Rattle.report_text.specs.Accesses.{reads}
use Rattle.chip_model.specs.declared.done.Done.{Done}
use Rattle.chip_model.specs.declared.pending.Pending.{Pending}
use Rattle.chip_model.specs.Chip.{Chip, address_in}
use Rattle.chip_model.specs.Node.{Node, Performed, has_entry, node_after_access}
use Rattle.chip_model.specs.Units.{UnitState, Acted, core_after, access_of, performed, access_tried, executed, core_event}
use Rattle.chip_model.specs.ChipState.{ChipState}
use Rattle.chip_model.specs.Events.{with_access}
use Rattle.chip_model.specs.UnitShape.{IsAccess, InOrderHolds}
use Rattle.chip_laws.specs.InOrderUnits.{next_effect, takes_word}
use Rattle.chip_laws.proofs.Options.{none_some, when_some, option_map_some}
use Rattle.chip_laws.proofs.StepAccesses.{Waits, StepGoesOn, free_of, access_goes}
use Rattle.chip_laws.proofs.InOrder.{access_core, becomes_goes}

-- the access of the next instruction of a core that has not halted
abbrev pub IsNextAccess : UnitState → Pending → Type 0
IsNextAccess unit access = (unit.halted ≡ false) × IsAccess unit.node.chip access (next_effect unit)

reads_next : (chip : Chip) (access : Pending) (effect : Effect) → IsAccess chip access effect → reads access.kind ≡ true → takes_word effect ≡ true
reads_next chip access (Loads register sum) is read = refl
reads_next chip access (Swaps register sum value) is read = refl
reads_next chip access (Adds register sum value) is read = refl
reads_next chip access (Stores sum value) is read = absurd (false≢true (sym (ap reads is.0) ∙ read))
reads_next chip access (Becomes core) is read = absurd is
reads_next chip access Halts is read = absurd is

-- ---- the accesses with one more
last_access : (xs : List Access) (a x : Access) (place : ℕ) → slice_get (xs ++ a ∷ []) place ≡ Some x → (slice_get xs place ≡ Some x) ⊎ ((place ≡ length xs) × (a ≡ x))
last_access [] a x zero at = inr (refl, same_Some a x at)
last_access [] a x (suc place) at = none_some x at
last_access (y ∷ xs) a x zero at = inl at
last_access (y ∷ xs) a x (suc place) at = elim (last_access xs a x place at) [
  | inl before ↦ inl before
  | inr last ↦ inr (ap (λ (n : ℕ). suc n) last.0, last.1)
]

-- of the accesses of a tile: fewer instructions than the core has done, and rising
pub record AreInOrder (accesses : List Access) (t steps : ℕ) : Type 0 where
  pub numbers : (place : ℕ) (access : Access) → slice_get accesses place ≡ Some access → access.tile ≡ t → access.number < steps
  pub rising : (before after : ℕ) (first second : Access) → before < after → slice_get accesses before ≡ Some first → slice_get accesses after ≡ Some second
      → first.tile ≡ t → second.tile ≡ t → (first.number < second.number) × (first.time ≤ second.time)

order_of : (s : ChipState) (t : ℕ) (unit : UnitState) → InOrderHolds s t unit → AreInOrder s.accesses t unit.core.steps
order_of s t unit holds = record { numbers = holds.numbers; rising = holds.rising }

-- the core has done as many instructions or more
more_steps : (accesses : List Access) (t old new : ℕ) → old ≤ new → AreInOrder accesses t old → AreInOrder accesses t new
more_steps accesses t old new more is = record {
  numbers = λ place access at own. omega (arith, is.numbers place access at own);
  rising = is.rising;
}

-- one more access of the tile, with the number of the next instruction, and not before the others
one_more : (accesses : List Access) (t steps : ℕ) (a : Access) → a.number ≡ steps
    → ((place : ℕ) (access : Access) → slice_get accesses place ≡ Some access → access.tile ≡ t → access.time ≤ a.time)
    → AreInOrder accesses t steps → AreInOrder (accesses ++ a ∷ []) t (steps + 1)
one_more accesses t steps a number late is = record {
  numbers = λ place access at own. elim (last_access accesses a access place at) [
    | inl before ↦ omega (arith, is.numbers place access before own)
    | inr last ↦ (let same : access.number ≡ a.number = ap (λ (x : Access). x.number) (sym last.1) in omega (arith, same, number))
  ];
  rising = λ before after first second less at_first at_second own_first own_second.
      rising before after first second less own_first own_second (last_access accesses a first before at_first) (last_access accesses a second after at_second);
}
  where
    rising : (before after : ℕ) (first second : Access) → before < after → first.tile ≡ t → second.tile ≡ t
        → (slice_get accesses before ≡ Some first) ⊎ ((before ≡ length accesses) × (a ≡ first))
        → (slice_get accesses after ≡ Some second) ⊎ ((after ≡ length accesses) × (a ≡ second))
        → (first.number < second.number) × (first.time ≤ second.time)
    rising before after first second less own_first own_second (inl at_first) (inl at_second) = is.rising before after first second less at_first at_second own_first own_second
    rising before after first second less own_first own_second (inl at_first) (inr last) =
        let below = is.numbers before first at_first own_first in
        let time = late before first at_first own_first in
        let same_number : second.number ≡ a.number = ap (λ (x : Access). x.number) (sym last.1) in
        let same_time : second.time ≡ a.time = ap (λ (x : Access). x.time) (sym last.1) in
        (omega (arith, below, same_number, number), omega (arith, time, same_time))
    rising before after first second less own_first own_second (inr last) (inl at_second) = absurd (omega (arith, less, last.0, slice_get_within accesses after second at_second))
    rising before after first second less own_first own_second (inr last) (inr also) = absurd (omega (arith, less, last.0, also.0))

holds_by : (new : ChipState) (t : ℕ) (unit : UnitState) (accesses : List Access) → new.accesses ≡ accesses → unit.buffered ≡ [] → AreInOrder accesses t unit.core.steps
    → Waits (IsNextAccess unit) unit.node.side.misses.demand → InOrderHolds new t unit
holds_by new t unit accesses same unbuffered is waits =
    let now = subst (λ (xs : List Access). AreInOrder xs t unit.core.steps) (sym same) is in
    record { waits = waits; numbers = now.numbers; rising = now.rising; unbuffered = unbuffered }

-- ---- a unit goes on with a step of its node
abbrev pub IsLate : ChipState → ℕ → Option Done → Type 0
IsLate s t done = (one : Done) → done ≡ Some one → (place : ℕ) (access : Access) → slice_get s.accesses place ≡ Some access → access.tile ≡ t → access.time ≤ one.time

no_access : (unit : UnitState) (node : Node) → node.side.misses.demand ≡ None → Waits (IsNextAccess unit) node.side.misses.demand
no_access unit node none demand stands = none_some demand (sym none ∙ stands)

chip_still : (unit : UnitState) (node : Node) → node.chip ≡ unit.node.chip → Waits (IsNextAccess unit) node.side.misses.demand → Waits (IsNextAccess (record unit { node = node })) node.side.misses.demand
chip_still unit node chip waits demand stands =
    let is = waits demand stands in
    (is.0, subst (λ (c : Chip). IsAccess c demand.pending (next_effect unit)) (sym chip) is.1)

pub step_in_order : (s new : ChipState) (t : ℕ) (unit : UnitState) (node : Node) (done : Option Done) → InOrderHolds s t unit → StepGoesOn (IsNextAccess unit) unit.node (node, done) → IsLate s t done
    → new.accesses ≡ with_access (performed unit (node, done)).1 s.accesses → InOrderHolds new t (performed unit (node, done)).0
step_in_order s new t unit node None holds step late accesses =
    holds_by new t (record unit { node = node }) s.accesses accesses holds.unbuffered (order_of s t unit holds) (chip_still unit node step.chip step.goes.waits)
step_in_order s new t unit node (Some done) holds step late accesses =
    let access = access_of unit done in
    let was = step.goes.was done refl in
    let goes = access_core unit.program access unit.core (λ read. reads_next unit.node.chip was.access (next_effect unit) was.is.1 (sym (ap reads was.kind) ∙ read)) in
    let after : UnitState = record unit { node = node; core = core_after unit.program access unit.core } in
    holds_by new t after (s.accesses ++ access ∷ []) accesses holds.unbuffered
    (subst (AreInOrder (s.accesses ++ access ∷ []) t) (sym goes.steps) (one_more s.accesses t unit.core.steps access refl (late done refl) (order_of s t unit holds)))
    (λ demand stands. none_some demand (sym (step.goes.alone done refl) ∙ stands))

-- a step of its node alone
pub node_in_order : (s new : ChipState) (t : ℕ) (unit : UnitState) (node : Node) → InOrderHolds s t unit → node.chip ≡ unit.node.chip → Waits (IsNextAccess unit) node.side.misses.demand
    → new.accesses ≡ s.accesses → InOrderHolds new t (record unit { node = node })
node_in_order s new t unit node holds chip waits accesses =
    holds_by new t (record unit { node = node }) s.accesses accesses holds.unbuffered (order_of s t unit holds) (chip_still unit node chip waits)

-- ---- the accesses of another tile
pub others_in_order : (s new : ChipState) (t u : ℕ) (o : Option Access) (other : UnitState) → InOrderHolds s u other → u ≢ t → ((a : Access) → o ≡ Some a → a.tile ≡ t)
    → new.accesses ≡ with_access o s.accesses → InOrderHolds new u other
others_in_order s new t u None other holds away tile accesses = holds_by new u other s.accesses accesses holds.unbuffered (order_of s u other holds) holds.waits
others_in_order s new t u (Some a) other holds away tile accesses =
    holds_by new u other (s.accesses ++ a ∷ []) accesses holds.unbuffered
    (record {
      numbers = λ place access at own. holds.numbers place access (was place access at own) own;
      rising = λ before after first second less at_first at_second own_first own_second.
          holds.rising before after first second less (was before first at_first own_first) (was after second at_second own_second) own_first own_second;
    }) holds.waits
  where
    was : (place : ℕ) (access : Access) → slice_get (s.accesses ++ a ∷ []) place ≡ Some access → access.tile ≡ u → slice_get s.accesses place ≡ Some access
    was place access at own = elim (last_access s.accesses a access place at) [
      | inl before ↦ before
      | inr last ↦ absurd (away (sym own ∙ (ap (λ (x : Access). x.tile) (sym last.1) ∙ tile a refl)))
    ]

-- ---- a core event
core_alone : (s new : ChipState) (t : ℕ) (unit after : UnitState) → InOrderHolds s t unit → after.node ≡ unit.node → unit.node.side.misses.demand ≡ None → after.buffered ≡ unit.buffered
    → unit.core.steps ≤ after.core.steps → new.accesses ≡ s.accesses → InOrderHolds new t after
core_alone s new t unit after holds node free buffered more accesses =
    holds_by new t after s.accesses accesses (buffered ∙ holds.unbuffered) (more_steps s.accesses t unit.core.steps after.core.steps more (order_of s t unit holds))
    (λ demand stands. none_some demand (sym free ∙ (ap (λ (n : Node). n.side.misses.demand) (sym node) ∙ stands)))

abbrev CoreHolds : ChipState → ChipState → ℕ → Acted → Type 0
CoreHolds s new t acted = new.accesses ≡ with_access acted.1 s.accesses → InOrderHolds new t acted.0

-- an access that is performed at once is not before the others
abbrev pub HitsLate : ChipState → ℕ → UnitState → Type 0
HitsLate s t unit = (access : Pending) (step : Performed) → node_after_access access unit.node ≡ Some step → IsLate s t step.1

tried_in_order : (s new : ChipState) (t : ℕ) (unit : UnitState) (kind : AccessKind) (sum value : ℕ) (acted : Acted) → InOrderHolds s t unit → HitsLate s t unit
    → IsNextAccess unit (record { kind = kind; address = address_in unit.node.chip sum; value = value }) → access_tried unit kind sum value ≡ Some acted → CoreHolds s new t acted
tried_in_order s new t unit kind sum value acted holds late next e =
    let access : Pending = record { kind = kind; address = address_in unit.node.chip sum; value = value } in
    option_map_some (performed unit) (node_after_access access unit.node) acted e (λ step tried same.
    subst (CoreHolds s new t) same (step_in_order s new t unit step.0 step.1 holds (access_goes (IsNextAccess unit) access unit.node step next tried) (late access step tried)))

pub is_next : (unit : UnitState) (access : Pending) (effect : Effect) → next_effect unit ≡ effect → IsAccess unit.node.chip access effect → IsAccess unit.node.chip access (next_effect unit)
is_next unit access effect same is = subst (IsAccess unit.node.chip access) (sym same) is

executed_in_order : (s new : ChipState) (t : ℕ) (unit : UnitState) (effect : Effect) (acted : Acted) → InOrderHolds s t unit → HitsLate s t unit → unit.halted ≡ false → unit.node.side.misses.demand ≡ None
    → next_effect unit ≡ effect → executed unit effect ≡ Some acted → CoreHolds s new t acted
executed_in_order s new t unit (Becomes core) acted holds late running free next e =
    let goes = becomes_goes (instr_at unit.program unit.core.place) unit.core core next in
    subst (CoreHolds s new t) (same_Some {A = Acted} (record unit { core = core }, None) acted e)
    (core_alone s new t unit (record unit { core = core }) holds refl free refl (omega (arith, goes.steps)))
executed_in_order s new t unit Halts acted holds late running free next e =
    subst (CoreHolds s new t) (same_Some {A = Acted} (record unit { halted = true }, None) acted e)
    (core_alone s new t unit (record unit { halted = true }) holds refl free refl (omega arith))
executed_in_order s new t unit (Loads register sum) acted holds late running free next e =
    tried_in_order s new t unit Load sum 0 acted holds late (running, is_next unit (record { kind = Load; address = address_in unit.node.chip sum; value = 0 }) (Loads register sum) next (refl, refl)) e
executed_in_order s new t unit (Stores sum value) acted holds late running free next e =
    tried_in_order s new t unit Store sum value acted holds late (running, is_next unit (record { kind = Store; address = address_in unit.node.chip sum; value = value }) (Stores sum value) next (refl, refl, refl)) e
executed_in_order s new t unit (Swaps register sum value) acted holds late running free next e =
    tried_in_order s new t unit Swap sum value acted holds late (running, is_next unit (record { kind = Swap; address = address_in unit.node.chip sum; value = value }) (Swaps register sum value) next (refl, refl, refl)) e
executed_in_order s new t unit (Adds register sum value) acted holds late running free next e =
    tried_in_order s new t unit Add sum value acted holds late (running, is_next unit (record { kind = Add; address = address_in unit.node.chip sum; value = value }) (Adds register sum value) next (refl, refl, refl)) e

pub core_in_order : (s new : ChipState) (t : ℕ) (unit : UnitState) (acted : Acted) → InOrderHolds s t unit → HitsLate s t unit → core_event unit ≡ Some acted
    → new.accesses ≡ with_access acted.1 s.accesses → InOrderHolds new t acted.0
unfolding core_event
core_in_order s new t unit acted holds late e =
    when_some (not (unit.halted || has_entry unit.node)) (executed unit (next_effect unit)) acted e (λ free does.
    let parts = or_parts unit.halted (has_entry unit.node) (not-true (unit.halted || has_entry unit.node) free) in
    executed_in_order s new t unit (next_effect unit) acted holds late parts.0 (free_of unit.node.side.misses.demand (ap not parts.1)) refl does)
