use Rattle.net_iface.proofs.Steps.{on_err}
use Rattle.machine_core.proofs.PrivateSteps.{private_refused}
use Rattle.machine_core.proofs.station.Station.core.Goals as goal

pub returns-in_err-private-clause-err : goal.returns-in_err-private-clause-err
returns-in_err-private-clause-err g c =
    on_err c.from_residual.result _ (private_refused g.U.Unit.behaviour c.args.fabric.now.chip c.args.self.now c.args.fabric.now c.in_err-private.ensures.err)
