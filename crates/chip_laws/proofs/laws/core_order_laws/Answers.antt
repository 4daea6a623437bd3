use Rattle.chip_model.specs.Chip.{chip_of}
use Rattle.chip_model.specs.Units.{in_order}
use Rattle.chip_laws.proofs.EventSteps.{event_does}
use Rattle.chip_laws.proofs.Opening.{cores_opened}
use Rattle.chip_laws.proofs.InOrderEvents.{cores_in_order}
use Rattle.chip_laws.proofs.laws.core_order_laws.Goals as goal

pub returns-clause-opened : goal.returns-clause-opened
returns-clause-opened c = cores_opened

pub returns-clause-stepped : goal.returns-clause-stepped
returns-clause-stepped c = λ d s new event holds cores e. cores_in_order d s new event holds cores (event_does in_order (chip_of d) s new event e)
