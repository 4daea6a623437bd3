use Rattle.chip_laws.proofs.EventSteps.{event_does, noted_after}
use Rattle.chip_laws.proofs.UnitFrames.{unit_cases}
use Rattle.chip_laws.proofs.events.event_laws.Goals as goal

pub returns : goal.returns
returns c = record { does = event_does; units = unit_cases; journal = noted_after }
