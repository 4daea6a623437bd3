use Rattle.chip_model.specs.ChipState.{opening}
use Rattle.value_laws.proofs.OpenedValues.{values_opened}
use Rattle.value_laws.proofs.ReachedTurns.{turns_opened, values_in_turn, turns_reached}
use Rattle.value_laws.proofs.values.kept_value_laws.Goals as goal

pub returns : goal.returns
returns c =
    let kept = c.reachable_laws.ensures.kept in
    let requests = c.chip_network_laws.ensures.requests in
    let messages = c.chip_network_laws.ensures.messages in
    record {
      opened = values_opened;
      kept = λ b laws d s new event fits holds turn values e. values_in_turn kept messages b laws d s new event (requests d fits) holds turn values e;
      reached = λ b laws d events s fits e.
          (turns_reached kept messages b laws d events (opening d) s (requests d fits) (c.reachable_laws.ensures.opened b laws d fits)
          (turns_opened c.core_order_laws.ensures.opened d) (values_opened d) e).1;
    }
