use Rattle.std.proofs.Common.{◌≡◌, sym, ◌∙◌, ap, subst, refl, true, Some, None}
use Rattle.chip_model.specs.Node.{Performed}
use Rattle.chip_model.specs.Units.{UnitState, Acted, core_event}
use Rattle.snoop_core.specs.Outcomes.{access_performed}
use Rattle.core_unit.specs.declared.work.Work.TheVariants.{Wait, Halt}
use Rattle.core_unit.specs.Works.{work_of}
use Rattle.core_unit.proofs.Works.{event_by, execute_event, try_event, try_refused, on_err}
use Rattle.core_unit.proofs.Running.{unit_with, tries_on, runs_on, performed_from, completes_next, if_some}
use Rattle.core_unit.proofs.in_order.InOrder.execute.Goals as goal

pub returns-in_err-outcome-in-Try-clause-err : goal.returns-in_err-outcome-in-Try-clause-err
returns-in_err-outcome-in-Try-clause-err c =
    let i = c.self.inside in
    let unit = unit_with i.node i.program i.core i.halted in
    let work_is = sym c.in-Try.is ∙ c.work.ensures ∙ ap work_of (sym c.self.view_is) in
    on_err c.from_residual.result (subst (λ (u : UnitState). core_event u ≡ None) c.self.view_is
    (try_refused unit c.in-Try.access work_is (c.in_err-outcome-in-Try.ensures).err))

pub complete-requires-clause-next : goal.complete-requires-clause-next
complete-requires-clause-next c =
    let i = c.self.inside in
    let unit = unit_with i.node i.program i.core i.halted in
    let step : Performed = (c.access.new.self, access_performed c.in_ok-outcome-in-Try.outcome) in
    let work_is = sym c.in-Try.is ∙ c.work.ensures ∙ ap work_of (sym c.self.view_is) in
    let keeps = tries_on i.tile i.lines unit c.in-Try.access step c.self.invariant work_is
    (c.access_laws.ensures.accessed c.in-Try.access i.node step (c.in_ok-outcome-in-Try.ensures).ok) in
    if_some c.performed_by-done.result _ (completes_next unit step c.performed_by-done.result keeps c.performed_by-done.ensures)

pub invariant_of-self-in-Try : goal.invariant_of-self-in-Try
invariant_of-self-in-Try c =
    let i = c.self.inside in
    let unit = unit_with i.node i.program i.core i.halted in
    let new = unit_with c.access.new.self i.program c.complete.new.core i.halted in
    let step : Performed = (c.access.new.self, access_performed c.in_ok-outcome-in-Try.outcome) in
    let work_is = sym c.in-Try.is ∙ c.work.ensures ∙ ap work_of (sym c.self.view_is) in
    let keeps = tries_on i.tile i.lines unit c.in-Try.access step c.self.invariant work_is
    (c.access_laws.ensures.accessed c.in-Try.access i.node step (c.in_ok-outcome-in-Try.ensures).ok) in
    let does = performed_from unit step c.access.new.self c.performed_by-done.result (new, c.complete.result) refl c.performed_by-done.ensures
    (c.complete.ensures unit c.access.new.self c.self.invariant.tile refl refl) in
    runs_on i.tile i.lines unit new step c.complete.result c.self.invariant keeps does

pub returns-in-Wait-clause-err : goal.returns-in-Wait-clause-err
returns-in-Wait-clause-err c = event_by c.args.self.now Wait (sym c.in-Wait.is ∙ c.work.ensures)

pub returns-in-Execute-clause-ok : goal.returns-in-Execute-clause-ok
returns-in-Execute-clause-ok c =
    let i = c.self.inside in
    let unit = unit_with i.node i.program i.core i.halted in
    let acted : Acted = (unit_with i.node i.program c.advance.new.self i.halted, None) in
    let work_is = sym c.in-Execute.is ∙ c.work.ensures ∙ ap work_of (sym c.self.view_is) in
    subst (λ (u : UnitState). core_event u ≡ Some acted) c.self.view_is
    (execute_event unit c.advance.result c.advance.new.self work_is c.advance.ensures.count c.advance.ensures.done c.advance.ensures.short)

pub returns-in-Halt-clause-ok : goal.returns-in-Halt-clause-ok
returns-in-Halt-clause-ok c =
    let i = c.self.inside in
    let unit = unit_with i.node i.program i.core i.halted in
    let acted : Acted = (unit_with i.node i.program i.core true, None) in
    let work_is = sym c.in-Halt.is ∙ c.work.ensures ∙ ap work_of (sym c.self.view_is) in
    subst (λ (u : UnitState). core_event u ≡ Some acted) c.self.view_is (event_by unit Halt work_is)

pub returns-in_ok-outcome-in-Try-clause-ok : goal.returns-in_ok-outcome-in-Try-clause-ok
returns-in_ok-outcome-in-Try-clause-ok c =
    let i = c.self.inside in
    let unit = unit_with i.node i.program i.core i.halted in
    let acted : Acted = (unit_with c.access.new.self i.program c.complete.new.core i.halted, c.complete.result) in
    let step : Performed = (c.access.new.self, access_performed c.in_ok-outcome-in-Try.outcome) in
    let work_is = sym c.in-Try.is ∙ c.work.ensures ∙ ap work_of (sym c.self.view_is) in
    let does = performed_from unit step c.access.new.self c.performed_by-done.result acted refl c.performed_by-done.ensures
    (c.complete.ensures unit c.access.new.self c.self.invariant.tile refl refl) in
    subst (λ (u : UnitState). core_event u ≡ Some acted) c.self.view_is
    (try_event unit c.in-Try.access step acted work_is (c.in_ok-outcome-in-Try.ensures).ok does)
