use Rattle.core_unit.proofs.Works.{step_ok, step_ready, step_err}
use Rattle.core_unit.proofs.in_order.InOrderUnit.core_step.Goals as goal

pub returns-clause-ok : goal.returns-clause-ok
returns-clause-ok c = step_ok c.execute.result c.args.self.now c.execute.new.self c.execute.ensures.ok

pub returns-clause-ready : goal.returns-clause-ready
returns-clause-ready c = step_ready c.execute.result c.args.self.now c.execute.new.self c.execute.ensures.ok

pub returns-clause-err : goal.returns-clause-err
returns-clause-err c = step_err c.execute.result c.args.self.now c.execute.ensures.err
