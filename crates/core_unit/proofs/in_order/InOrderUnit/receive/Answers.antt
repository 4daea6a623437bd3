use Rattle.std.proofs.Common.{sym, ◌∙◌, ap, refl}
use Rattle.chip_model.specs.Node.{node_after_message}
use Rattle.chip_model.specs.Units.{UnitState, Acted, performed, in_order}
use Rattle.core_unit.proofs.Running.{unit_with, goes_on, runs_on, performed_from}
use Rattle.core_unit.proofs.in_order.InOrderUnit.receive.Goals as goal

pub invariant_of-self : goal.invariant_of-self
invariant_of-self c =
    let i = c.self.inside in
    let unit = unit_with i.node i.program i.core i.halted in
    let new = unit_with c.on_data-done.new.self i.program c.complete.new.core i.halted in
    let step = node_after_message c.args.m i.node in
    let keeps = goes_on i.tile i.lines unit step c.self.invariant (c.access_laws.ensures.arrived c.args.m i.node) in
    let does = performed_from unit step c.on_data-done.new.self c.on_data-done.result (new, c.complete.result) c.on_data-done.ensures.node c.on_data-done.ensures.done
    (c.complete.ensures unit c.on_data-done.new.self c.self.invariant.tile refl refl) in
    runs_on i.tile i.lines unit new step c.complete.result c.self.invariant keeps does

pub returns : goal.returns
unfolding in_order
returns c =
    let i = c.self.inside in
    let unit = unit_with i.node i.program i.core i.halted in
    let acted : Acted = (unit_with c.on_data-done.new.self i.program c.complete.new.core i.halted, c.complete.result) in
    let does = performed_from unit (node_after_message c.args.m i.node) c.on_data-done.new.self c.on_data-done.result acted c.on_data-done.ensures.node c.on_data-done.ensures.done
    (c.complete.ensures unit c.on_data-done.new.self c.self.invariant.tile refl refl) in
    ap (λ (u : UnitState). performed u (node_after_message c.args.m u.node)) (sym c.self.view_is) ∙ does
