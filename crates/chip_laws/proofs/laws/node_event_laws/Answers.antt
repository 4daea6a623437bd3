use Rattle.chip_model.specs.Chip.{chip_of}
use Rattle.chip_laws.proofs.EventSteps.{event_does}
use Rattle.chip_laws.proofs.Opening.{nodes_opened}
use Rattle.chip_laws.proofs.NodeEvents.{nodes_hold}
use Rattle.chip_laws.proofs.Deliveries.{deliveries_fit}
use Rattle.chip_laws.proofs.Calls.{own_requests_fit}
use Rattle.chip_laws.proofs.laws.node_event_laws.Goals as goal

pub returns-clause-opened : goal.returns-clause-opened
returns-clause-opened c = nodes_opened

pub returns-clause-stepped : goal.returns-clause-stepped
returns-clause-stepped c = λ b laws d s new event fits holds fit arrive e.
    let given = c.chip_network_laws.ensures.requests d fits in
    nodes_hold b laws d s new event given holds fit (deliveries_fit d s given holds) arrive (event_does b (chip_of d) s new event e)

pub returns-clause-own : goal.returns-clause-own
returns-clause-own c = λ d s t unit q net fits holds at delivers. own_requests_fit d s t unit q net holds (deliveries_fit d s (c.chip_network_laws.ensures.requests d fits) holds) at delivers

pub returns-clause-next : goal.returns-clause-next
returns-clause-next c = λ d s fits holds. deliveries_fit d s (c.chip_network_laws.ensures.requests d fits) holds
