use Rattle.round_laws.proofs.TurnFrames.{turns_frame}
use Rattle.round_laws.proofs.TurnLists.{turns_run, turns_split}
use Rattle.round_laws.proofs.laws.turn_laws.Goals as goal

pub returns-clause-run : goal.returns-clause-run
returns-clause-run c = turns_run

pub returns-clause-others : goal.returns-clause-others
returns-clause-others c = λ b chip turn start s turns new t lead none.
    turns_frame b chip (record { does = c.event_laws.ensures.does b chip; steps = c.event_laws.ensures.journal b chip }) c.slot_laws.ensures.at turn start s turns
    new t lead none

pub returns-clause-split : goal.returns-clause-split
returns-clause-split c = turns_split
