use Rattle.supply_laws.proofs.HomesOpened.{memory_opened, homes_opened}
use Rattle.supply_laws.proofs.HomeEvents.{reaches_after, homes_hold_after}
use Rattle.supply_laws.proofs.laws.home_laws.Goals as goal

pub returns : goal.returns
returns c = record {
  memory_opened = memory_opened c.chip_network_laws.ensures.messages;
  memory = λ b laws d s new event fits holds fit e.
      reaches_after c.chip_network_laws.ensures.messages b laws d s new event (c.chip_network_laws.ensures.requests d fits) holds fit e;
  homes_opened = homes_opened;
  homes = λ b laws d s new event fits holds fit none e.
      homes_hold_after c.chip_network_laws.ensures.messages b laws d s new event (c.chip_network_laws.ensures.requests d fits) holds fit none e;
}
