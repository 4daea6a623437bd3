-- What a core event is to do is what the unit does.
use Rattle.std.proofs.Common.{◌≡◌, ℕ, zero, suc, ◌*◌, ◌<◌, ◌≤◌, Bool, true, false, refl, sym, ◌∙◌, ap, subst, arith, Option, Some, None, List}
use Rattle.std.specs.Prelude.{◌%◌, ◌||◌, not, is_some, if◌then◌else◌, option_map, unwrap_or, IfOk, OnOk, OnErr}
use Rattle.std.specs.declared.result.Result.{Result}
use Rattle.std.specs.declared.result.Result.TheVariants.{Ok, Err}
use Rattle.mesh_gen.specs.declared.refusals.NotEnabled.{NotEnabled}
use Rattle.core_isa.specs.declared.instr.Instr.{Instr}
use Rattle.core_isa.specs.Core.{CoreState, Effect, Becomes, Loads, Stores, Swaps, Adds, Halts, effect_of, instr_at, next_kind, next_of, becomes, stepped, advanced}
use Rattle.report_text.specs.declared.access.Access.{Access}
use Rattle.report_text.specs.declared.access.AccessKind.{AccessKind}
use Rattle.chip_model.specs.declared.pending.Pending.{Pending}
use Rattle.chip_model.specs.Partial.{when}
use Rattle.chip_model.specs.Chip.{Chip}
use Rattle.chip_model.specs.Node.{Performed, has_entry, node_after_access}
use Rattle.chip_model.specs.Units.{UnitState, Acted, performed, executed, core_event, in_order}
use Rattle.core_unit.specs.declared.work.Work.{Work}
use Rattle.core_unit.specs.declared.work.Work.TheVariants.{Wait, Execute, Halt, Try}
use Rattle.core_unit.specs.Works.{kind_of_effect, IsNextKind, work_for, work_of, done_by_work}

executed_is : (unit : UnitState) (effect : Effect) → effect_of (instr_at unit.program unit.core.place) unit.core ≡ effect
    → executed unit effect ≡ done_by_work unit (work_for unit.node.chip (next_kind effect))
unfolding stepped
executed_is unit (Becomes core) is = rw is refl
executed_is unit (Loads register sum) is = refl
executed_is unit (Stores sum value) is = refl
executed_is unit (Swaps register sum value) is = refl
executed_is unit (Adds register sum value) is = refl
executed_is unit Halts is = refl

-- a core event does the work
pub event_is : (unit : UnitState) → core_event unit ≡ done_by_work unit (work_of unit)
unfolding core_event next_of
event_is unit = by (unit.halted || has_entry unit.node) where
  by : (waits : Bool) → when (not waits) (executed unit (effect_of (instr_at unit.program unit.core.place) unit.core))
      ≡ done_by_work unit (if waits then Wait else work_for unit.node.chip (next_kind (effect_of (instr_at unit.program unit.core.place) unit.core)))
  by true = refl
  by false = executed_is unit (effect_of (instr_at unit.program unit.core.place) unit.core) refl

-- what the code found to do
pub event_by : (unit : UnitState) (work : Work) → work ≡ work_of unit → core_event unit ≡ done_by_work unit work
event_by unit work is = event_is unit ∙ ap (done_by_work unit) (sym is)

-- Of which kind, and where, an access is that is tried.

abbrev kind_of_work : Work → Option AccessKind
kind_of_work Wait = None
kind_of_work Execute = None
kind_of_work Halt = None
kind_of_work (Try access) = Some access.kind

kind_for : (chip : Chip) (effect : Effect) → kind_of_work (work_for chip (next_kind effect)) ≡ kind_of_effect effect
kind_for chip (Becomes core) = refl
kind_for chip (Loads register sum) = refl
kind_for chip (Stores sum value) = refl
kind_for chip (Swaps register sum value) = refl
kind_for chip (Adds register sum value) = refl
kind_for chip Halts = refl

abbrev IsInMemory : Chip → Work → Type 0
IsInMemory chip Wait = Unit {0}
IsInMemory chip Execute = Unit {0}
IsInMemory chip Halt = Unit {0}
IsInMemory chip (Try access) = access.address < 4 * chip.lines

below : (sum lines : ℕ) → 0 < lines → sum % (4 * lines) < 4 * lines
below sum lines some = omega arith

address_for : (chip : Chip) (effect : Effect) → 0 < chip.lines → IsInMemory chip (work_for chip (next_kind effect))
address_for chip (Becomes core) some = tt
address_for chip (Loads register sum) some = below sum chip.lines some
address_for chip (Stores sum value) some = below sum chip.lines some
address_for chip (Swaps register sum value) some = below sum chip.lines some
address_for chip (Adds register sum value) some = below sum chip.lines some
address_for chip Halts some = tt

pub record TriesNext (unit : UnitState) (access : Pending) : Type 0 where
  pub kind : IsNextKind unit access.kind
  pub address : access.address < 4 * unit.node.chip.lines

-- an access that is tried is the next instruction, in the chip's memory
pub tries_next : (unit : UnitState) (access : Pending) → 0 < unit.node.chip.lines → Try access ≡ work_of unit → TriesNext unit access
unfolding next_of
tries_next unit access some is = by (unit.halted || has_entry unit.node) is where
  effect : Effect
  effect = effect_of (instr_at unit.program unit.core.place) unit.core

  by : (waits : Bool) → Try access ≡ (if waits then Wait else work_for unit.node.chip (next_kind effect)) → TriesNext unit access
  by true e = cc
  by false e = record {
    kind = sym (kind_for unit.node.chip effect) ∙ sym (ap kind_of_work e);
    address = subst (IsInMemory unit.node.chip) (sym e) (address_for unit.node.chip effect some);
  }

-- a core that is to do a register instruction can
pub executes_next : (unit : UnitState) → Execute ≡ work_of unit → is_some (stepped unit.program unit.core) ≡ true
unfolding next_of stepped
executes_next unit is = by (unit.halted || has_entry unit.node) (effect_of (instr_at unit.program unit.core.place) unit.core) is where
  by : (waits : Bool) (effect : Effect) → Execute ≡ (if waits then Wait else work_for unit.node.chip (next_kind effect)) → is_some (becomes effect) ≡ true
  by true effect e = cc
  by false (Becomes core) e = refl
  by false (Loads register sum) e = cc
  by false (Stores sum value) e = cc
  by false (Swaps register sum value) e = cc
  by false (Adds register sum value) e = cc
  by false Halts e = cc

-- ---- what the code does for each work

mapped : {X Y : Type 0} (f : X → Y) (o : Option X) → is_some (option_map f o) ≡ is_some o
mapped f None = refl
mapped f (Some x) = refl

ready_by : (unit : UnitState) (work : Work) → work ≡ work_of unit → is_some (done_by_work unit work) ≡ in_order.ready unit
unfolding in_order
ready_by unit work is = ap is_some (sym (event_by unit work is))

pub wait_unready : (unit : UnitState) → Wait ≡ work_of unit → false ≡ in_order.ready unit
wait_unready unit is = ready_by unit Wait is

pub halt_ready : (unit : UnitState) → Halt ≡ work_of unit → true ≡ in_order.ready unit
halt_ready unit is = ready_by unit Halt is

pub execute_ready : (unit : UnitState) → Execute ≡ work_of unit → true ≡ in_order.ready unit
execute_ready unit is =
    sym (executes_next unit is) ∙ sym (mapped {Y = Acted} (λ (core : CoreState). (record unit { core = core }, None)) (stepped unit.program unit.core)) ∙ ready_by unit Execute is

pub try_ready : (unit : UnitState) (access : Pending) (can : Bool) → Try access ≡ work_of unit → can ≡ is_some (node_after_access access unit.node) → can ≡ in_order.ready unit
try_ready unit access can is same = same ∙ sym (mapped (performed unit) (node_after_access access unit.node)) ∙ ready_by unit (Try access) is

one_step : (program : List Instr) (core : CoreState) → advanced program 1 core ≡ stepped program core
unfolding advanced
one_step program core = refl

some_there : {X P : Type 0} (o : Option X) → is_some o ≡ true → o ≡ None → P
some_there None is none = cc
some_there (Some x) is none = cc

-- of at most one register instruction, which is possible, one is done
pub execute_event : (unit : UnitState) (n : ℕ) (core : CoreState) → Execute ≡ work_of unit → n ≤ 1 → advanced unit.program n unit.core ≡ Some core
    → (n < 1 → advanced unit.program 1 unit.core ≡ None) → core_event unit ≡ Some (record unit { core = core }, None)
execute_event unit zero core is few done short =
    some_there (stepped unit.program unit.core) (executes_next unit is) (sym (one_step unit.program unit.core) ∙ short (omega arith))
execute_event unit (suc zero) core is few done short =
    event_by unit Execute is ∙ ap (option_map {U = Acted} (λ (c : CoreState). (record unit { core = c }, None))) (sym (one_step unit.program unit.core) ∙ done)
execute_event unit (suc (suc n)) core is few done short = absurd (omega (arith, few))

pub try_event : (unit : UnitState) (access : Pending) (step : Performed) (acted : Acted) → Try access ≡ work_of unit → node_after_access access unit.node ≡ Some step
    → performed unit step ≡ acted → core_event unit ≡ Some acted
try_event unit access step acted is tried does =
    event_by unit (Try access) is ∙ ap (option_map (performed unit)) tried ∙ ap (λ (a : Acted). Some a) does

pub try_refused : (unit : UnitState) (access : Pending) → Try access ≡ work_of unit → node_after_access access unit.node ≡ None → core_event unit ≡ None
try_refused unit access is none = event_by unit (Try access) is ∙ ap (option_map (performed unit)) none

-- ---- the call of a core event

pub step_ok : (result : Result (Option Access) NotEnabled) (unit new : UnitState) → IfOk result (λ access. core_event unit ≡ Some (new, access))
    → IfOk result (λ access. in_order.stepped unit ≡ (new, access))
unfolding in_order
step_ok (Ok access) unit new ok = ap (λ (o : Option Acted). unwrap_or o (unit, None)) ok
step_ok (Err refused) unit new ok = tt

pub step_ready : (result : Result (Option Access) NotEnabled) (unit new : UnitState) → IfOk result (λ access. core_event unit ≡ Some (new, access))
    → OnOk result (in_order.ready unit ≡ true)
unfolding in_order
step_ready (Ok access) unit new ok = ap is_some ok
step_ready (Err refused) unit new ok = tt

pub step_err : (result : Result (Option Access) NotEnabled) (unit : UnitState) → OnErr result (core_event unit ≡ None) → OnErr result (in_order.ready unit ≡ false)
unfolding in_order
step_err (Ok access) unit err = tt
step_err (Err refused) unit err = ap is_some err

pub on_err : {P : Type 0} (result : Result (Option Access) NotEnabled) → P → OnErr result P
on_err (Ok access) p = tt
on_err (Err refused) p = p
