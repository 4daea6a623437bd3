use Rattle.progress_core.proofs.JoinedSweeps.{sweeps_own}
use Rattle.progress_core.proofs.tiles.sweep_own.Goals as goal

pub returns : goal.returns
returns g c =
    sweeps_own g.U.Unit.behaviour c.args.budget c.args.t c.args.machine.now c.try_event.new.machine c.try_event-2.new.machine c.try_event-3.new.machine
    c.try_event-4.new.machine c.try_event-5.new.machine c.try_event-6.new.machine
    c.try_event.ensures c.try_event-2.ensures c.try_event-3.ensures c.try_event-4.ensures c.try_event-5.ensures c.try_event-6.ensures
