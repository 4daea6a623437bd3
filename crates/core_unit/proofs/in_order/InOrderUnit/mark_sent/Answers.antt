use Rattle.std.proofs.Common.{sym, subst}
use Rattle.chip_model.specs.Node.{Node}
use Rattle.core_unit.specs.Works.{RunsInOrder}
use Rattle.core_unit.proofs.Running.{unit_with, asked_runs}
use Rattle.core_unit.proofs.in_order.InOrderUnit.mark_sent.Goals as goal

pub invariant_of-self : goal.invariant_of-self
invariant_of-self c =
    let i = c.self.inside in
    subst (λ (node : Node). RunsInOrder i.tile i.lines (unit_with node i.program i.core i.halted)) (sym c.mark_sent.ensures.sent)
    (asked_runs i.tile i.lines (unit_with i.node i.program i.core i.halted) (c.access_laws.ensures.asked i.node) c.self.invariant)
