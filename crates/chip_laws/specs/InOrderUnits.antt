-- The units that in-order cores come to.
use Rattle.std.specs.Prelude.{Bool, true, false, not, ◌&&◌, ◌||◌, Option, Some, None, nat_lt}
use Rattle.core_isa.specs.Core.{Effect, Becomes, Loads, Stores, Swaps, Adds, Halts, effect_of, instr_at}
use Rattle.report_text.specs.Accesses.{reads}
use Rattle.chip_model.specs.Misses.{Demand}
use Rattle.chip_model.specs.Units.{UnitState}
use Rattle.chip_model.specs.ChipState.{is_nil}

-- what the next instruction of a unit does
abbrev pub next_effect : UnitState → Effect
next_effect unit = effect_of (instr_at unit.program unit.core.place) unit.core

-- the core goes on with the word that an access reads
abbrev pub takes_word : Effect → Bool
takes_word (Loads register sum) = true
takes_word (Swaps register sum value) = true
takes_word (Adds register sum value) = true
takes_word (Stores sum value) = false
takes_word (Becomes core) = false
takes_word Halts = false

-- a demand reads only for an instruction that takes the word
abbrev pub reads_for : Effect → Option Demand → Bool
reads_for effect None = true
reads_for effect (Some demand) = not (reads demand.pending.kind) || takes_word effect

-- a unit with some memory and no buffered store, whose demand is for its next instruction
abbrev pub is_in_order : UnitState → Bool
is_in_order unit = nat_lt 0 unit.node.chip.lines && is_nil unit.buffered && reads_for (next_effect unit) unit.node.side.misses.demand
