use Rattle.std.proofs.Common.{sym, ◌∙◌, ap, inl, inr}
use Rattle.std.specs.Prelude.{is_some}
use Rattle.chip_model.specs.Node.{node_after_access}
use Rattle.chip_model.specs.Units.{UnitState}
use Rattle.core_unit.proofs.Works.{wait_unready, halt_ready, execute_ready, try_ready}
use Rattle.core_unit.proofs.in_order.InOrderUnit.core_ready.Goals as goal

pub returns-in-Wait : goal.returns-in-Wait
returns-in-Wait c = wait_unready c.args.self.now (sym c.in-Wait.is ∙ c.work.ensures)

pub returns-in-Execute : goal.returns-in-Execute
returns-in-Execute c = elim c.in-Execute.is [
  | inl is ↦ execute_ready c.args.self.now (sym is ∙ c.work.ensures)
  | inr is ↦ halt_ready c.args.self.now (sym is ∙ c.work.ensures)
]

pub returns-in-Try : goal.returns-in-Try
returns-in-Try c =
    try_ready c.args.self.now c.in-Try.access c.can_access.result (sym c.in-Try.is ∙ c.work.ensures)
    (c.can_access.ensures c.in-Try.access.value ∙ ap (λ (u : UnitState). is_some (node_after_access c.in-Try.access u.node)) c.self.view_is)
