-- What a round does to a machine.
use Rattle.std.specs.Prelude.{◌≡◌, ℕ}
use Rattle.chip_model.specs.Chip.{chip_of}
use Rattle.chip_model.specs.Units.{Behaviour}
use Rattle.machine_core.specs.Machine.{MachineState}
use Rattle.round_laws.specs.Rounds.{IsRound}
use Rattle.tile_pool.specs.declared.rounds.Rounded.{Rounded}
use Rattle.tile_pool.specs.declared.rounds.Rounded.TheVariants.{Made, NoMemory}

-- the machine made a round in which these tiles came to a turn, or is as it was
abbrev pub RoundDoes : Behaviour → ℕ → MachineState → MachineState → Rounded → Type 0
RoundDoes b turn old new (Made had) = IsRound b (chip_of old.document) turn had old.state new.state
RoundDoes b turn old new NoMemory = new ≡ old
