-- One tile that stores a word and then loads it.
use Rattle.std.specs.Prelude.{List, [], ◌∷◌, replicate}
use Rattle.mesh_gen.specs.declared.kind.Kind.TheVariants.{GetM}
use Rattle.mesh_gen.specs.declared.request.Request.{Request}
use Rattle.mesh_gen.specs.declared.msg.Msg.{Msg}
use Rattle.core_isa.specs.declared.instr.Instr.{Instr}
use Rattle.core_isa.specs.declared.instr.Instr.TheVariants.{Li, St, Ld, Halt}
use Rattle.chip_model.specs.Chip.{Chip}
use Rattle.chip_model.specs.Snoop.{data_to}
use Rattle.chip_model.specs.Node.{after_request_sent, after_message_sent}
use Rattle.chip_model.specs.Units.{UnitState, opening_unit, in_order}

-- a chip of one tile
abbrev pub one_tile : Chip
one_tile = record {
  grid = record { cols = 1; rows = 1 };
  window = 1;
  vcs = 1;
  data_vcs = 1;
  lines = 16;
  sets = 4;
  ways = 1;
  controllers = 0 ∷ [];
}

-- it stores 7 at address 2 and loads it again
abbrev pub store_and_load : List Instr
store_and_load = Li 1 7 ∷ St 1 0 2 ∷ Ld 2 0 2 ∷ Halt ∷ []

-- the unit of this program, before its first step
abbrev pub opened : UnitState
opened = opening_unit one_tile 0 store_and_load (replicate 64 0)

-- the unit after a core event
abbrev pub stepped : UnitState → UnitState
stepped unit = (in_order.stepped unit).0

-- the unit after it sent its request
abbrev pub asked : UnitState → UnitState
asked unit = record unit { node = after_request_sent unit.node }

-- the unit after it sent its message
abbrev pub sent : UnitState → UnitState
sent unit = record unit { node = after_message_sent unit.node }

-- the request of the store's miss
abbrev pub its_request : Request
its_request = record { source = 0; number = 0; kind = GetM; line = 0 }

-- the words that answer it
abbrev pub its_words : Msg
its_words = data_to 0 0 (0 ∷ 0 ∷ 0 ∷ 0 ∷ [])

-- the store missed, and its request was sent
abbrev pub storing : UnitState
storing = asked (stepped (stepped opened))

-- its request was delivered, and home has sent the words
abbrev pub ordered : UnitState
ordered = sent (in_order.delivered its_request storing).0

-- the words came
abbrev pub stored : UnitState
stored = (in_order.received its_words ordered).0
