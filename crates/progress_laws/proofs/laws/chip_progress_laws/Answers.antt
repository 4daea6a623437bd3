use Rattle.progress_laws.proofs.NeverStuck.{never_stuck}
use Rattle.progress_laws.proofs.Stops.{stops}
use Rattle.progress_laws.proofs.EnabledSlots.{enabled_slot, swept_finished}
use Rattle.progress_laws.proofs.FinishedStates.{finished_over}
use Rattle.progress_laws.proofs.laws.chip_progress_laws.Goals as goal

pub returns : goal.returns
returns c = record {
  never_stuck = λ b laws d s fits holds. never_stuck b laws d s fits holds.protocol holds.fit;
  stops = λ b laws d s fits holds ends event. stops b laws d s fits holds.protocol ends event;
  over = λ b laws d s fits holds ends. finished_over d s fits holds.protocol ends;
  slot = λ b laws d s holds event possible. enabled_slot b d s holds.protocol event possible;
  swept = λ b laws d s fits holds none. swept_finished b laws d s fits holds.protocol holds.fit none;
  reached = λ b laws d events s fits runs.
      let holds = c.reachable_laws.ensures.reached b laws d events s fits runs in
      never_stuck b laws d s fits holds.protocol holds.fit;
}
