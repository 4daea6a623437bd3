use Rattle.chip_laws.proofs.Deliveries.{deliveries_fit}
use Rattle.chip_laws.proofs.ProtocolWriters.{writers_hold, writers_open}
use Rattle.chip_laws.proofs.SuppliedOpening.{supplied_opening}
use Rattle.chip_laws.proofs.WholeSteps.{delivers_next, supplied_after}
use Rattle.chip_laws.proofs.laws.order_laws.Goals as goal

pub returns : goal.returns
returns c = record {
  writers_opened = writers_open;
  writers = λ b laws d s new event fits holds fit e. writers_hold d b laws s new event holds fit (delivers_next d s holds (deliveries_fit d s (c.chip_network_laws.ensures.requests d fits) holds)) e;
  supplied_opened = supplied_opening c.chip_network_laws.ensures.messages;
  supplied = λ b laws d s new event fits holds fit e.
      let given = c.chip_network_laws.ensures.requests d fits in
      supplied_after c.chip_network_laws.ensures.messages b laws d s new event given holds fit (deliveries_fit d s given holds) e;
}
