use Rattle.chip_model.specs.Chip.{chip_of}
use Rattle.machine_core.specs.Stations.{units_of}
use Rattle.machine_core.proofs.MovingEvents.{on_true, no_hop}
use Rattle.machine_core.proofs.machine.Machine.no_copies.Goals as goal

pub returns-clause-none : goal.returns-clause-none
returns-clause-none g c =
    rw (← c.self.view_is) (on_true c.no_copies.result (λ none port slot out.
    no_hop g.U.Unit.behaviour (chip_of c.self.inside.rest) c.self.inside.fabric.value (units_of c.self.inside.stations.items) c.self.invariant.chip c.args.r port slot out (none port slot out))
    (rw c.deref.ensures at c.no_copies.ensures.none))
