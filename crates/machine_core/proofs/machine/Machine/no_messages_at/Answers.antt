use Rattle.chip_model.specs.Chip.{chip_of}
use Rattle.machine_core.specs.Stations.{units_of}
use Rattle.machine_core.proofs.MovingEvents.{on_true, no_data_hop, no_data_eject}
use Rattle.machine_core.proofs.machine.Machine.no_messages_at.Goals as goal

pub returns-clause-hops : goal.returns-clause-hops
returns-clause-hops g c =
    rw (← c.self.view_is) (on_true c.no_messages_at.result (λ none slot.
    no_data_hop g.U.Unit.behaviour (chip_of c.self.inside.rest) c.self.inside.fabric.value (units_of c.self.inside.stations.items) c.self.invariant.chip c.args.r c.args.port slot (none slot))
    (rw c.deref.ensures at c.no_messages_at.ensures.none))

pub returns-clause-ejects : goal.returns-clause-ejects
returns-clause-ejects g c =
    rw (← c.self.view_is) (on_true c.no_messages_at.result (λ none slot.
    no_data_eject g.U.Unit.behaviour (chip_of c.self.inside.rest) c.self.inside.fabric.value (units_of c.self.inside.stations.items) c.self.invariant.chip c.args.r c.args.port slot (none slot))
    (rw c.deref.ensures at c.no_messages_at.ensures.none))
