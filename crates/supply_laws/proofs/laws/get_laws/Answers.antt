use Rattle.supply_laws.proofs.Arrivals.{arrivals_fit, early_waits}
use Rattle.supply_laws.proofs.DataKept.{data_answers_opened}
use Rattle.supply_laws.proofs.GetEvents.{one_to_come_after, none_writes_back_after, data_answers_after, gets_wait_after}
use Rattle.supply_laws.proofs.GetsKeepWaiting.{gets_wait_opened}
use Rattle.supply_laws.proofs.NoWriteBacks.{none_writes_back_opened}
use Rattle.supply_laws.proofs.OneToComes.{one_to_come_opened}
use Rattle.supply_laws.proofs.laws.get_laws.Goals as goal

pub returns : goal.returns
returns c = record {
  one_opened = one_to_come_opened;
  one = λ b laws d s new event fits holds fit e.
      one_to_come_after c.chip_network_laws.ensures.messages b laws d s new event (c.chip_network_laws.ensures.requests d fits) holds fit e;
  puts_opened = none_writes_back_opened;
  puts = λ b laws d s new event fits holds fit none e.
      none_writes_back_after c.chip_network_laws.ensures.messages b laws d s new event (c.chip_network_laws.ensures.requests d fits) holds fit e none;
  messages_opened = data_answers_opened;
  messages = λ b laws d s new event fits holds fit answers e.
      data_answers_after c.chip_network_laws.ensures.messages b laws d s new event (c.chip_network_laws.ensures.requests d fits) holds fit e answers;
  arrive = arrivals_fit;
  early = early_waits;
  wait_opened = gets_wait_opened;
  wait = λ b laws d s new event fits holds fit none e.
      gets_wait_after c.chip_network_laws.ensures.messages b laws d s new event (c.chip_network_laws.ensures.requests d fits) holds fit e none;
}
