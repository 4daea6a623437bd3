-- What an in-order core keeps to is kept by each step of its node.
use Rattle.std.proofs.Common.{◌≡◌, ℕ, ◌<◌, Bool, refl, sym, ◌∙◌, ap, subst, Option, Some, None, List, []}
use Rattle.std.specs.Prelude.{IfSome}
use Rattle.core_isa.specs.declared.instr.Instr.{Instr}
use Rattle.core_isa.specs.Core.{CoreState}
use Rattle.report_text.specs.declared.access.Access.{Access}
use Rattle.report_text.specs.declared.access.AccessKind.{AccessKind}
use Rattle.chip_model.specs.declared.done.Done.{Done}
use Rattle.chip_model.specs.declared.pending.Pending.{Pending}
use Rattle.chip_model.specs.Chip.{Chip}
use Rattle.chip_model.specs.Misses.{Demand}
use Rattle.chip_model.specs.Node.{Node, Performed, after_request_sent, after_message_sent}
use Rattle.chip_model.specs.Units.{UnitState, Acted, performed}
use Rattle.chip_laws.specs.WaitingAccesses.{Awaits, KeepsAccess}
use Rattle.core_unit.specs.declared.work.Work.TheVariants.{Try}
use Rattle.core_unit.specs.Works.{IsNextKind, RunsInOrder, work_of}
use Rattle.core_unit.proofs.Works.{tries_next}

-- a unit without buffered stores
abbrev pub unit_with : Node → List Instr → CoreState → Bool → UnitState
unit_with node program core halted = record { node = node; program = program; core = core; halted = halted; buffered = [] }

none_some : {X P : Type 0} (x : X) → ◌≡◌ {A = Option X} None (Some x) → P
none_some x e = cc

-- the access that waits is the next instruction
awaited_next : (tile lines : ℕ) (unit : UnitState) → RunsInOrder tile lines unit → (kind : AccessKind) → Awaits unit.node kind → IsNextKind unit kind
awaited_next tile lines unit runs kind (demand, stands, same) = subst (IsNextKind unit) (sym same) (runs.waits demand stands)

widen : (Is Be : AccessKind → Type 0) (node : Node) (step : Performed) → ((kind : AccessKind) → Is kind → Be kind) → KeepsAccess Is node step → KeepsAccess Be node step
widen Is Be node step more keeps = record {
  chip = keeps.chip;
  tile = keeps.tile;
  waits = λ demand stands. more demand.pending.kind (keeps.waits demand stands);
  performs = λ done is. more done.kind (keeps.performs done is);
  ends = keeps.ends;
}

-- a step of the node goes on with the next instruction
pub goes_on : (tile lines : ℕ) (unit : UnitState) (step : Performed) → RunsInOrder tile lines unit → KeepsAccess (Awaits unit.node) unit.node step
    → KeepsAccess (IsNextKind unit) unit.node step
goes_on tile lines unit step runs keeps = widen (Awaits unit.node) (IsNextKind unit) unit.node step (awaited_next tile lines unit runs) keeps

-- and so does an access that is tried
pub tries_on : (tile lines : ℕ) (unit : UnitState) (access : Pending) (step : Performed) → RunsInOrder tile lines unit → Try access ≡ work_of unit
    → KeepsAccess (λ kind. kind ≡ access.kind) unit.node step → KeepsAccess (IsNextKind unit) unit.node step
tries_on tile lines unit access step runs is keeps =
    let next = tries_next unit access (subst (λ (n : ℕ). 0 < n) (sym runs.lines) runs.some) is in
    widen (λ (kind : AccessKind). kind ≡ access.kind) (IsNextKind unit) unit.node step (λ kind same. subst (IsNextKind unit) (sym same) next.kind) keeps

step_runs : (tile lines : ℕ) (unit : UnitState) (node : Node) (answer : Option Done) → RunsInOrder tile lines unit
    → KeepsAccess (IsNextKind unit) unit.node (node, answer) → RunsInOrder tile lines (performed unit (node, answer)).0
step_runs tile lines unit node None runs keeps = record {
  tile = keeps.tile ∙ runs.tile;
  lines = ap (λ (chip : Chip). chip.lines) keeps.chip ∙ runs.lines;
  some = runs.some;
  waits = keeps.waits;
}
step_runs tile lines unit node (Some done) runs keeps = record {
  tile = keeps.tile ∙ runs.tile;
  lines = ap (λ (chip : Chip). chip.lines) keeps.chip ∙ runs.lines;
  some = runs.some;
  waits = λ demand stands. none_some demand (sym (keeps.ends done refl) ∙ stands);
}

-- the unit after a step of its node runs in order
pub runs_on : (tile lines : ℕ) (unit new : UnitState) (step : Performed) (answer : Option Access) → RunsInOrder tile lines unit
    → KeepsAccess (IsNextKind unit) unit.node step → performed unit step ≡ (new, answer) → RunsInOrder tile lines new
runs_on tile lines unit new step answer runs keeps is =
    subst (λ (acted : Acted). RunsInOrder tile lines acted.0) is (step_runs tile lines unit step.0 step.1 runs keeps)

-- the parts of a step are the step
pub performed_from : (unit : UnitState) (step : Performed) (node : Node) (answer : Option Done) (acted : Acted) → node ≡ step.0 → answer ≡ step.1
    → performed unit (node, answer) ≡ acted → performed unit step ≡ acted
performed_from unit step node answer acted left right is =
    ap (λ (n : Node). performed unit (n, step.1)) (sym left) ∙ ap (λ (d : Option Done). performed unit (node, d)) (sym right) ∙ is

-- what is performed is the next instruction
pub completes_next : (unit : UnitState) (step : Performed) (answer : Option Done) → KeepsAccess (IsNextKind unit) unit.node step → answer ≡ step.1
    → (one : Done) → answer ≡ Some one → IsNextKind unit one.kind
completes_next unit step answer keeps same one is = keeps.performs one (sym same ∙ is)

pub asked_runs : (tile lines : ℕ) (unit : UnitState) → ((demand : Demand) → (after_request_sent unit.node).side.misses.demand ≡ Some demand → Awaits unit.node demand.pending.kind)
    → RunsInOrder tile lines unit → RunsInOrder tile lines (record unit { node = after_request_sent unit.node })
unfolding after_request_sent
asked_runs tile lines unit asked runs = record {
  tile = runs.tile;
  lines = runs.lines;
  some = runs.some;
  waits = λ demand stands. awaited_next tile lines unit runs demand.pending.kind (asked demand stands);
}

pub sent_runs : (tile lines : ℕ) (unit : UnitState) → RunsInOrder tile lines unit → RunsInOrder tile lines (record unit { node = after_message_sent unit.node })
unfolding after_message_sent
sent_runs tile lines unit runs = record { tile = runs.tile; lines = runs.lines; some = runs.some; waits = runs.waits }

pub if_some : (o : Option Done) (P : Done → Type 0) → ((one : Done) → o ≡ Some one → P one) → IfSome o P
if_some None P is = tt
if_some (Some one) P is = is one refl
