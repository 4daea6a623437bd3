use Rattle.chip_model.specs.Chip.{chip_of}
use Rattle.round_laws.proofs.RoundRuns.{events_of_round, round_grows, round_reached, round_run}
use Rattle.round_laws.proofs.laws.round_laws.Goals as goal

pub returns-clause-run : goal.returns-clause-run
returns-clause-run c = λ b chip turn had start new is. (events_of_round b start is.turns, round_run b chip turn had start new is)

pub returns-clause-reached : goal.returns-clause-reached
returns-clause-reached c = λ b d turn had start new reached is. round_reached b d turn had start new (c.bound_laws.ensures.noted b (chip_of d)) reached is

pub returns-clause-grows : goal.returns-clause-grows
returns-clause-grows c = λ b chip turn had start new is. round_grows b chip turn had start new (c.bound_laws.ensures.noted b chip) is
