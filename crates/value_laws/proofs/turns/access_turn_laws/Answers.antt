use Rattle.chip_model.specs.ChipState.{opening}
use Rattle.value_laws.proofs.ReachedTurns.{turns_opened, turn_kept, turns_reached, numbers_apart}
use Rattle.value_laws.proofs.turns.access_turn_laws.Goals as goal

pub returns : goal.returns
returns c =
    let kept = c.reachable_laws.ensures.kept in
    let opened = c.reachable_laws.ensures.opened in
    record {
      opened = turns_opened;
      kept = λ b laws d s new event holds turn e. turn_kept b laws d s new event holds turn e;
      reached = λ b laws d events s fits e. turns_reached kept b laws d events (opening d) s fits (opened b laws d fits) (turns_opened d) e;
      numbers = λ b laws d events s fits e.
          numbers_apart s (turns_reached kept b laws d events (opening d) s fits (opened b laws d fits) (turns_opened d) e);
    }
