use Rattle.tile_pool.specs.Start.{start_of}
use Rattle.tile_pool.proofs.rounds.round.Given as goal

-- the start that the round's type names
abbrev pub ghosts-made_round : goal.ghosts-made_round
ghosts-made_round g a = record { start = start_of a.parts.rest a.parts.fabric.value a.parts.stations a.turn }
