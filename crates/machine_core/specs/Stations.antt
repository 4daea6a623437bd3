-- The station of a tile: its unit, and the core events that it did by itself and that are not in the journal yet. A chip is
-- the fabric and the units of its stations; an event changes the fabric and the station of its own tile.
use Rattle.std.specs.Prelude.{◌≡◌, ℕ, ◌+◌, ◌<◌, List, [], ◌∷◌, ◌++◌, length, map, replicate, set, Bool, not, ◌&&◌, Some, None}
use Rattle.std.specs.Bool.{⊤}
use Rattle.report_text.specs.declared.access.Access.{Access}
use Rattle.report_text.specs.declared.event.Event.{Event}
use Rattle.report_text.specs.declared.event.Event.TheVariants.{Tick, Core, Inject, Post, Take, Eject, Send, Hop, DataHop, DataEject}
use Rattle.report_text.specs.Journals.{events_of}
use Rattle.doc_text.specs.Doc.{Doc}
use Rattle.chip_model.specs.Chip.{Chip, chip_of}
use Rattle.chip_model.specs.Units.{UnitState, Behaviour, opening_unit}
use Rattle.chip_model.specs.ChipState.{ChipState, program_of, is_nil}
use Rattle.chip_model.specs.Node.{waits_for_any}
use Rattle.chip_model.specs.Events.{with_access}
use Rattle.chip_model.specs.Runs.{after, enabled}
use Rattle.fabric_core.specs.Fabric.{FabricState, entry_word}

-- its tile and the tile's unit; how many core events it did by itself that are not in the journal, and their accesses
pub record StationState : Type 0 where
  pub tile : ℕ
  pub unit : UnitState
  pub cores : ℕ
  pub accesses : List Access

-- the station of a tile before any event
abbrev pub opening_station : Doc → ℕ → StationState
opening_station d tile = record {
  tile = tile;
  unit = opening_unit (chip_of d) tile (program_of d tile) d.memory;
  cores = 0;
  accesses = [];
}

-- a unit's core has halted, it waits for nothing and sends nothing
abbrev pub is_quiet : UnitState → Bool
is_quiet unit = unit.halted && not (waits_for_any unit.node) && is_nil unit.node.out

-- the units of stations
abbrev pub units_of : List StationState → List UnitState
units_of stations = map (λ (station : StationState). station.unit) stations

-- the chip of a fabric and units
abbrev pub chip_state : FabricState → List UnitState → ChipState
chip_state fabric units = record {
  network = fabric.network;
  replies = fabric.replies;
  units = units;
  accesses = fabric.accesses;
  journal = events_of fabric.entries;
  hops = fabric.hops;
}

-- the chip with a station's unit among the units, and with the core events that the station did by itself
abbrev pub seen_by : StationState → FabricState → List UnitState → ChipState
seen_by station fabric units = record {
  network = fabric.network;
  replies = fabric.replies;
  units = set units station.tile station.unit;
  accesses = fabric.accesses ++ station.accesses;
  journal = events_of fabric.entries ++ replicate station.cores (Core station.tile);
  hops = fabric.hops;
}

-- a station that has nothing to put into the journal
pub record IsSettled (station : StationState) : Type 0 where
  pub cores : station.cores ≡ 0
  pub accesses : station.accesses ≡ []

-- the same station, settled
abbrev pub settled : StationState → StationState
settled station = record station { cores = 0; accesses = [] }

-- the station after one more core event of its own
abbrev pub after_private : Behaviour → StationState → StationState
after_private b station = record station {
  unit = (b.stepped station.unit).0;
  cores = station.cores + 1;
  accesses = with_access (b.stepped station.unit).1 station.accesses;
}

-- the tile whose station does an event: the first one does ticks
abbrev pub tile_of : Event → ℕ
tile_of Tick = 0
tile_of (Core t) = t
tile_of (Inject t) = t
tile_of (Post t) = t
tile_of (Take t) = t
tile_of (Eject t) = t
tile_of (Send t) = t
tile_of (Hop r port slot out) = r
tile_of (DataHop r port slot) = r
tile_of (DataEject r port slot) = r

-- a tick, or an event of a tile
abbrev pub IsAtStation : ℕ → Event → Type 0
IsAtStation tile Tick = ⊤
IsAtStation tile event = tile_of event ≡ tile

-- a tick, or an event of a tile other than one of its core
abbrev pub IsOfStation : ℕ → Event → Type 0
IsOfStation tile (Core t) = ⊥
IsOfStation tile event = IsAtStation tile event

-- an event takes the chip that a station sees to one that it sees, whatever the other units are
abbrev pub TakesChip : Behaviour → Chip → Event → StationState → FabricState → StationState → FabricState → Type 0
TakesChip b chip event station fabric new new_fabric = (units : List UnitState) → station.tile < length units
    → after b chip (seen_by station fabric units) event ≡ Some (seen_by new new_fabric units)

-- an event is not possible in the chip that a station sees, whatever the other units are
abbrev pub IsRefused : Behaviour → Chip → Event → StationState → FabricState → Type 0
IsRefused b chip event station fabric = (units : List UnitState) → station.tile < length units
    → after b chip (seen_by station fabric units) event ≡ None

-- an answer says whether an event is possible in the chip that a station sees, whatever the other units are
abbrev pub Tells : Behaviour → Chip → Event → StationState → FabricState → Bool → Type 0
Tells b chip event station fabric answer = (units : List UnitState) → station.tile < length units
    → answer ≡ enabled b chip (seen_by station fabric units) event

-- after an event a station is still of its tile, and settled, and the fabric of the same chip, with the same room
pub record StaysInPlace (station : StationState) (fabric : FabricState) (new : StationState) (new_fabric : FabricState) : Type 0 where
  pub tile : new.tile ≡ station.tile
  pub settled : IsSettled new
  pub chip : new_fabric.chip ≡ fabric.chip
  pub room : new_fabric.room ≡ fabric.room

-- An event of a station was done: the fabric has one entry more, by the station's tile, which records the core events that
-- were counted and the event, and the station is settled.
pub record IsDone (b : Behaviour) (event : Event) (station : StationState) (fabric : FabricState) (new : StationState) (new_fabric : FabricState) : Type 0 where
  pub takes : TakesChip b fabric.chip event station fabric new new_fabric
  pub entry : new_fabric.entries ≡ fabric.entries ++ entry_word (record { by = station.tile; cores = station.cores }) event ∷ []
  pub stays : StaysInPlace station fabric new new_fabric
