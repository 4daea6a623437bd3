use Rattle.std.proofs.Common.{◌∙◌}
use Rattle.chip_model.specs.Chip.{chip_of}
use Rattle.machine_core.specs.Stations.{units_of}
use Rattle.machine_core.proofs.MovingEvents.{hop_possible}
use Rattle.machine_core.proofs.machine.Machine.can_hop.Goals as goal

pub returns : goal.returns
returns g c =
    rw (← c.self.view_is) ((rw c.deref.ensures at c.has_way.ensures)
    ∙ hop_possible g.U.Unit.behaviour (chip_of c.self.inside.rest) c.self.inside.fabric.value (units_of c.self.inside.stations.items) c.self.invariant.chip c.args.r c.args.port c.args.slot c.args.out)
