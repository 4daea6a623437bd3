use Rattle.chip_model.specs.Chip.{chip_of}
use Rattle.chip_model.specs.Units.{in_order}
use Rattle.chip_model.specs.ChipState.{opening}
use Rattle.chip_laws.proofs.EventSteps.{event_does}
use Rattle.value_laws.proofs.CoreEvents.{cores_run_after}
use Rattle.value_laws.proofs.ReachedCores.{cores_run_opened, cores_run_reached}
use Rattle.value_laws.proofs.cores.core_run_laws.Goals as goal

pub returns : goal.returns
returns c = record {
  opened = cores_run_opened;
  stepped = λ d s new event holds order is e. cores_run_after d s new event holds order is (event_does in_order (chip_of d) s new event e);
  reached = λ d events s fits e.
      cores_run_reached c.reachable_laws.ensures.kept c.core_order_laws.ensures.stepped c.behaviour_laws.ensures d events (opening d) s fits
      (c.reachable_laws.ensures.opened in_order c.behaviour_laws.ensures d fits) (c.core_order_laws.ensures.opened d) (cores_run_opened d) e;
}
