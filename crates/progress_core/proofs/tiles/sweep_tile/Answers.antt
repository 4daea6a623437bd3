use Rattle.progress_core.proofs.JoinedSweeps.{sweeps_tile}
use Rattle.progress_core.proofs.tiles.sweep_tile.Goals as goal

pub returns : goal.returns
returns g c =
    sweeps_tile g.U.Unit.behaviour c.args.budget c.args.t c.args.machine.now c.sweep_own.new.machine c.hop_from_router.new.machine c.hop_messages.new.machine
    c.eject_messages.new.machine c.sweep_own.ensures c.hop_from_router.ensures c.hop_messages.ensures c.eject_messages.ensures
