-- The worker of a tile: its station, before its turn and after its tries, and what its seat knows then.
use Rattle.std.specs.Prelude.{◌≡◌, ◌⊎◌, ℕ, ◌+◌, ◌^◌, ◌<◌, Bool, true, false, List, [], ◌∷◌, ◌++◌, length, map, replicate, find, Some, None, slice_get}
use Rattle.std.specs.List.{AllByRecursion}
use Rattle.atomic_table.specs.Seated.{TableId}
use Rattle.turn_table.specs.declared.note.Note.{Note}
use Rattle.turn_table.specs.States.{SeatState}
use Rattle.report_text.specs.declared.entry.Entry.{Entry}
use Rattle.report_text.specs.declared.event.Event.TheVariants.{Core}
use Rattle.report_text.specs.Entry.{packed}
use Rattle.chip_model.specs.Chip.{Chip}
use Rattle.chip_model.specs.Units.{UnitState, Behaviour}
use Rattle.chip_model.specs.ChipState.{ChipState}
use Rattle.chip_model.specs.Runs.{enabled, run}
use Rattle.fabric_core.specs.Fabric.{FabricState}
use Rattle.machine_core.specs.Stations.{StationState, IsSettled, chip_state, seen_by}
use Rattle.round_laws.specs.Turns.{TurnsLead, alone_events, core_steps, cores_of, most_alone, tried}
use Rattle.tile_pool.specs.Start.{RoundStart, start_state}
use Rattle.tile_pool.specs.Stands.{IsOfTile}

-- the station of a tile at the round's start
abbrev pub station_at : ℕ → UnitState → StationState
station_at t unit = record { tile = t; unit = unit; cores = 0; accesses = [] }

-- a station has done so many core events since its tile's unit was this one, whatever fabric and whichever other units are there
abbrev pub CoresLead : Behaviour → UnitState → StationState → Type 0
CoresLead b unit station = (chip : Chip) (fabric : FabricState) (units : List UnitState) → slice_get units station.tile ≡ Some unit
    → run b chip (chip_state fabric units) (replicate station.cores (Core station.tile)) ≡ Some (seen_by station fabric units)

-- a station that was settled has done all the core events that it does by itself in a round, and nothing else
pub record HasRunFrom (b : Behaviour) (before station : StationState) : Type 0 where
  pub tile : station.tile ≡ before.tile
  pub lead : CoresLead b before.unit station
  pub cores : station.cores ≡ core_steps b most_alone before.unit

-- a station has done all the core events that its tile does by itself in the round, and nothing else
pub record HasRunAlone (b : Behaviour) (r : RoundStart) (station : StationState) : Type 0 where
  pub unit : UnitState
  pub there : slice_get r.units station.tile ≡ Some unit
  pub lead : CoresLead b unit station
  pub cores : station.cores ≡ cores_of b (start_state r) station.tile

-- a tile's seat of the round: it is of the round's table, has the number of the tile, and knows the entries that the journal had at the start
pub record IsSeatOf (r : RoundStart) (table : TableId) (tile : ℕ) (seat : SeatState) : Type 0 where
  pub table_is : seat.table ≡ table
  pub number : seat.note.number ≡ tile
  pub opening : seat.note.opening ≡ r.fabric.entries
  pub seats : seat.note.seats ≡ length r.units

-- a tile at the round's start: its station is that of the start, and its seat is new
pub record IsStarting (r : RoundStart) (table : TableId) (station : StationState) (seat : SeatState) (had : Bool) : Type 0 where
  pub seated : IsSeatOf r table station.tile seat
  pub unit : UnitState
  pub there : slice_get r.units station.tile ≡ Some unit
  pub station_is : station ≡ station_at station.tile unit
  pub steps : unit.core.steps + 16 < 2 ^ 63
  pub own : seat.note.own ≡ []
  pub served : seat.note.served ≡ false
  pub had_is : had ≡ false

-- a tile that has done its core events, and had no turn yet
pub record IsWaiting (b : Behaviour) (r : RoundStart) (table : TableId) (station : StationState) (seat : SeatState) : Type 0 where
  pub seated : IsSeatOf r table station.tile seat
  pub alone : HasRunAlone b r station
  pub served : seat.note.served ≡ false
  pub own : seat.note.own ≡ []

-- it had the turn, and its entry is the last one of its trail; the station is settled, with the tile's unit as that entry left it
pub record HadTurn (b : Behaviour) (r : RoundStart) (station : StationState) (note : Note) : Type 0 where
  pub settled : IsSettled station
  pub earlier : List Entry
  pub entry : Entry
  pub by : entry.by ≡ station.tile
  pub own : note.own ≡ (length earlier, packed entry) ∷ []
  pub trail : note.trail ≡ map packed (earlier ++ entry ∷ [])
  pub valid : AllByRecursion (IsOfTile r) (earlier ++ entry ∷ [])
  pub s : ChipState
  pub lead : TurnsLead b r.fabric.chip r.turn (start_state r) (start_state r) (earlier ++ entry ∷ []) s
  pub unit : slice_get s.units station.tile ≡ Some station.unit

-- it had the turn, and none of the events that it tries was possible after the entries of its trail
pub record HadNothing (b : Behaviour) (r : RoundStart) (station : StationState) (note : Note) : Type 0 where
  pub alone : HasRunAlone b r station
  pub own : note.own ≡ []
  pub made : List Entry
  pub trail : note.trail ≡ map packed made
  pub valid : AllByRecursion (IsOfTile r) made
  pub s : ChipState
  pub lead : TurnsLead b r.fabric.chip r.turn (start_state r) (start_state r) made s
  pub ready : ChipState
  pub ran : run b r.fabric.chip s (alone_events b (start_state r) station.tile) ≡ Some ready
  pub none : find (enabled b r.fabric.chip ready) (tried r.fabric.chip r.turn station.tile) ≡ None

-- each of its tries was refused
pub record WasRefused (b : Behaviour) (r : RoundStart) (station : StationState) (note : Note) : Type 0 where
  pub alone : HasRunAlone b r station
  pub own : note.own ≡ []
  pub refused : note.refused ≡ true

-- how a tile's tries ended: with the turn, or without
abbrev pub HasEnded : Behaviour → RoundStart → StationState → Note → Bool → Type 0
HasEnded b r station note true = (note.served ≡ true) × (HadTurn b r station note ⊎ HadNothing b r station note)
HasEnded b r station note false = (note.served ≡ false) × WasRefused b r station note

-- a tile after its tries
pub record IsThrough (b : Behaviour) (r : RoundStart) (table : TableId) (station : StationState) (seat : SeatState) (had : Bool) : Type 0 where
  pub seated : IsSeatOf r table station.tile seat
  pub ended : HasEnded b r station seat.note had
