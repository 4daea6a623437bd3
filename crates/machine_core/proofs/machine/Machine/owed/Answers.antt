use Rattle.chip_model.specs.Chip.{chip_of}
use Rattle.machine_core.specs.Stations.{units_of}
use Rattle.machine_core.proofs.MovingEvents.{no_hop}
use Rattle.machine_core.proofs.machine.Machine.owed.Goals as goal

pub returns-clause-none : goal.returns-clause-none
returns-clause-none g c = λ out not.
    rw (← c.self.view_is)
    (no_hop g.U.Unit.behaviour (chip_of c.self.inside.rest) c.self.inside.fabric.value (units_of c.self.inside.stations.items) c.self.invariant.chip c.args.r c.args.port c.args.slot out
    ((rw c.deref.ensures at c.owed.ensures.none) out not))
