-- Each part of a state from its own law: at the opening, after an event, and so after every run.
use Rattle.chip_model.specs.Chip.{chip_of}
use Rattle.chip_model.specs.Units.{in_order}
use Rattle.chip_model.specs.ChipState.{opening}
use Rattle.supply_laws.proofs.ReachedStates.{noted_holds, run_holds, cores_run}
use Rattle.supply_laws.proofs.StateKept.{state_of_parts, shapes_of, queues_of, units_kept, units_opened}
use Rattle.supply_laws.proofs.reachable.reachable_laws.Goals as goal

pub returns-clause-opened : goal.returns-clause-opened
returns-clause-opened c = λ b laws d fits. state_of_parts b laws d (opening d) (record {
  units = units_opened d;
  network = c.network_event_laws.ensures.opened d fits;
  shapes = c.unit_laws.ensures.shaped d;
  nodes = c.node_event_laws.ensures.opened d;
  writers = c.order_laws.ensures.writers_opened d;
  supplied = c.order_laws.ensures.supplied_opened d;
  one = c.get_laws.ensures.one_opened d;
  memory = c.home_laws.ensures.memory_opened d;
  homes = c.home_laws.ensures.homes_opened d;
  wait = c.get_laws.ensures.wait_opened d;
  fit = c.unit_laws.ensures.opened b laws d fits;
  none_back = c.get_laws.ensures.puts_opened d;
  messages = c.get_laws.ensures.messages_opened d;
})

pub returns-clause-kept : goal.returns-clause-kept
returns-clause-kept c = λ b laws d s new event fits holds e.
    let protocol = holds.protocol in
    let arrive = c.get_laws.ensures.arrive d s protocol holds.messages in
    state_of_parts b laws d new (record {
      units = units_kept b d s new event e protocol.units;
      network = c.network_event_laws.ensures.kept b d s new event protocol.network (queues_of d s protocol) e;
      shapes = c.unit_laws.ensures.stepped b laws d s new event holds.fit (shapes_of d s protocol) e;
      nodes = c.node_event_laws.ensures.stepped b laws d s new event fits protocol holds.fit arrive e;
      writers = c.order_laws.ensures.writers b laws d s new event fits protocol holds.fit e;
      supplied = c.order_laws.ensures.supplied b laws d s new event fits protocol holds.fit e;
      one = c.get_laws.ensures.one b laws d s new event fits protocol holds.fit e;
      memory = c.home_laws.ensures.memory b laws d s new event fits protocol holds.fit e;
      homes = c.home_laws.ensures.homes b laws d s new event fits protocol holds.fit holds.none_back e;
      wait = c.get_laws.ensures.wait b laws d s new event fits protocol holds.fit holds.none_back e;
      fit = c.unit_laws.ensures.kept b laws (chip_of d) s new event holds.fit e;
      none_back = c.get_laws.ensures.puts b laws d s new event fits protocol holds.fit holds.none_back e;
      messages = c.get_laws.ensures.messages b laws d s new event fits protocol holds.fit holds.messages e;
    })

pub returns-clause-noted : goal.returns-clause-noted
returns-clause-noted c = noted_holds (returns-clause-kept c)

pub returns-clause-reached : goal.returns-clause-reached
returns-clause-reached c = λ b laws d events s fits e.
    run_holds (returns-clause-kept c) b laws d events (opening d) s fits (returns-clause-opened c b laws d fits) e

pub returns-clause-protocol : goal.returns-clause-protocol
returns-clause-protocol c = λ d events s fits e. (returns-clause-reached c in_order c.behaviour_laws.ensures d events s fits e).protocol

pub returns-clause-cores : goal.returns-clause-cores
returns-clause-cores c = λ d events s fits e.
    cores_run (returns-clause-kept c) c.core_order_laws.ensures.stepped c.behaviour_laws.ensures d events (opening d) s fits
    (returns-clause-opened c in_order c.behaviour_laws.ensures d fits) (c.core_order_laws.ensures.opened d) e
