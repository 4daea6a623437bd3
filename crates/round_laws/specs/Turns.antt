-- A tile's turn in a round: the events that its core does by itself, and then one event of the tile that touches what all share.
use Rattle.std.specs.Prelude.{◌≡◌, ℕ, zero, suc, ◌%◌, ◌==◌, Bool, true, false, not, List, [], ◌∷◌, ◌++◌, length, map, filter, find, replicate, slice_get, Option, Some, None, option_map, unwrap_or, if◌then◌else◌}
use Rattle.std.specs.List.{flat_map, list_any}
use Rattle.order_tracker.specs.Order.{upwards}
use Rattle.report_text.specs.declared.entry.Entry.{Entry}
use Rattle.report_text.specs.declared.event.Event.{Event}
use Rattle.report_text.specs.declared.event.Event.TheVariants.{Tick, Core}
use Rattle.chip_model.specs.Chip.{Chip}
use Rattle.chip_model.specs.Units.{UnitState, Behaviour}
use Rattle.chip_model.specs.ChipState.{ChipState}
use Rattle.chip_model.specs.Runs.{after, enabled, run}
use Rattle.chip_model.specs.Schedules.{from_offset, slots_per_tile, tile_slots}

-- how many core events a unit can do one after the other, at most so many
abbrev pub core_steps : Behaviour → ℕ → UnitState → ℕ
core_steps b zero unit = 0
core_steps b (suc most) unit = if b.ready unit then suc (core_steps b most (b.stepped unit).0) else 0

-- the most core events that a tile does by itself in a round
abbrev pub most_alone : ℕ
most_alone = 16

-- how many core events a tile does by itself in a round that begins in a state
abbrev pub cores_of : Behaviour → ChipState → ℕ → ℕ
cores_of b start t = unwrap_or (option_map (core_steps b most_alone) (slice_get start.units t)) 0

-- these events
abbrev pub alone_events : Behaviour → ChipState → ℕ → List Event
alone_events b start t = replicate (cores_of b start t) (Core t)

-- whether an event is one of a core
abbrev pub is_core : Event → Bool
is_core (Core t) = true
is_core event = false

-- the events that a tile tries in its turn of a round, in this order: those of its slots that are not its core's, from an offset
-- that moves by one from round to round, and last a tick
abbrev pub tried : Chip → ℕ → ℕ → List Event
tried chip turn t = filter (λ event. not (is_core event)) (from_offset (tile_slots chip t) (turn % slots_per_tile chip)) ++ Tick ∷ []

-- A turn of a tile in a state, in a round that began at `start`: as many core events as the tile could do at the round's start, and
-- then the first possible one of the events that it tries.
pub record IsTurn (b : Behaviour) (chip : Chip) (turn : ℕ) (start s : ChipState) (entry : Entry) (new : ChipState) : Type 0 where
  pub cores : entry.cores ≡ cores_of b start entry.by
  -- the state after the core events
  pub ready : ChipState
  pub alone : run b chip s (alone_events b start entry.by) ≡ Some ready
  pub first : find (enabled b chip ready) (tried chip turn entry.by) ≡ Some entry.event
  pub done : after b chip ready entry.event ≡ Some new

-- turns, one after the other, lead from a state to another
abbrev pub TurnsLead : Behaviour → Chip → ℕ → ChipState → ChipState → List Entry → ChipState → Type 0
TurnsLead b chip turn start s [] new = s ≡ new
TurnsLead b chip turn start s (entry ∷ entries) new =
    (next : ChipState) × IsTurn b chip turn start s entry next × TurnsLead b chip turn start next entries new

-- whether a tile has one of the turns
abbrev pub has_turn : List Entry → ℕ → Bool
has_turn turns t = list_any (λ entry. entry.by == t) turns

-- a tile came to its turn after some of the turns, and none of the events that it tries was possible then
pub record FindsNothing (b : Behaviour) (chip : Chip) (turn : ℕ) (start : ChipState) (turns : List Entry) (t : ℕ) : Type 0 where
  pub earlier : List Entry
  pub later : List Entry
  pub among : earlier ++ later ≡ turns
  pub s : ChipState
  pub lead : TurnsLead b chip turn start start earlier s
  pub ready : ChipState
  pub alone : run b chip s (alone_events b start t) ≡ Some ready
  pub none : find (enabled b chip ready) (tried chip turn t) ≡ None

-- the core events of the tiles that have no turn, in the order of the tiles
abbrev pub left_over : Behaviour → ChipState → List Entry → List ℕ → List Event
left_over b start turns tiles = flat_map (λ t. if has_turn turns t then [] else alone_events b start t) tiles
