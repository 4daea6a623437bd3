use Rattle.chip_model.specs.ChipState.{opening}
use Rattle.value_laws.proofs.ReachedValues.{state_opened, state_kept, state_reached, accesses_hold, of_accesses}
use Rattle.value_laws.proofs.values.reached_access_laws.Goals as goal

pub returns : goal.returns
returns c =
    let kept = c.reachable_laws.ensures.kept in
    let turns = c.core_order_laws.ensures in
    let requests = c.chip_network_laws.ensures.requests in
    let messages = c.chip_network_laws.ensures.messages in
    let runs = c.core_run_laws.ensures in
    let laws = c.behaviour_laws.ensures in
    record {
      opened = λ d fits. accesses_hold laws d (opening d) (state_opened c.reachable_laws.ensures.opened turns.opened laws d fits) (runs.opened d);
      kept = λ laws d s new event fits holds is e.
          accesses_hold laws d new (state_kept kept turns.stepped messages laws d s new event (requests d fits) (of_accesses laws d s holds is) e)
          (runs.stepped d s new event is.chip.protocol is.chip.cores is.cores e);
      reached = λ d events s fits e.
          accesses_hold laws d s
          (state_reached kept turns.stepped messages laws d events (opening d) s (requests d fits)
          (state_opened c.reachable_laws.ensures.opened turns.opened laws d fits) e)
          (runs.reached d events s fits e);
    }
