-- The fabric in a round: what the entries made since the round's start have done, and what a turn adds.
use Rattle.std.specs.Prelude.{◌≡◌, ℕ, ◌<◌, ◌++◌, Bool, true, false, List, [], ◌∷◌, map, length, find, set, Some, None}
use Rattle.std.specs.List.{AllByRecursion}
use Rattle.report_text.specs.declared.entry.Entry.{Entry}
use Rattle.report_text.specs.Entry.{IsValid, packed}
use Rattle.report_text.specs.Journals.{tile_named}
use Rattle.turn_table.specs.Rule.{entries_naming}
use Rattle.chip_model.specs.Units.{UnitState, Behaviour}
use Rattle.chip_model.specs.Runs.{enabled, run}
use Rattle.fabric_core.specs.Fabric.{FabricState}
use Rattle.machine_core.specs.Stations.{StationState, IsSettled, chip_state, seen_by}
use Rattle.round_laws.specs.Turns.{TurnsLead, alone_events, tried}
use Rattle.tile_pool.specs.Start.{RoundStart, IsStart, start_state}

-- an entry of a tile of the chip that has a packed word
abbrev pub IsOfTile : RoundStart → Entry → Type 0
IsOfTile r entry = (entry.by < length r.units) × IsValid entry

-- turns lead from the round's start to the chip of a fabric and units; their words are the journal's new entries
pub record HasMade (b : Behaviour) (r : RoundStart) (made : List Entry) (fabric : FabricState) (units : List UnitState) : Type 0 where
  pub entries : fabric.entries ≡ r.fabric.entries ++ map packed made
  pub valid : AllByRecursion (IsOfTile r) made
  pub chip : fabric.chip ≡ r.fabric.chip
  pub room : fabric.room ≡ r.fabric.room
  pub tiles : length units ≡ length r.units
  pub lead : TurnsLead b r.fabric.chip r.turn (start_state r) (start_state r) made (chip_state fabric units)

-- some turns made the fabric what it is
pub record Stands (b : Behaviour) (r : RoundStart) (fabric : FabricState) : Type 0 where
  pub start : IsStart b r
  pub made : List Entry
  pub units : List UnitState
  pub turns : HasMade b r made fabric units

-- a tile may have a turn: none of the entries made since the start names it, and they are fewer than the tiles
abbrev pub MayHaveTurn : RoundStart → ℕ → FabricState → Type 0
MayHaveTurn r tile fabric = (words : List ℕ) → fabric.entries ≡ r.fabric.entries ++ words
    → (entries_naming tile_named tile words ≡ 0) × (length words < length r.units)

-- A tile's turn did an event: its entry follows those made before, and the tile's station is settled.
pub record DidEvent (b : Behaviour) (r : RoundStart) (station : StationState) (fabric : FabricState) (new : StationState) (new_fabric : FabricState) : Type 0 where
  pub earlier : List Entry
  pub entry : Entry
  pub units : List UnitState
  pub was : HasMade b r earlier fabric units
  pub is : HasMade b r (earlier ++ entry ∷ []) new_fabric (set units station.tile new.unit)
  pub by : entry.by ≡ station.tile
  pub tile : new.tile ≡ station.tile
  pub settled : IsSettled new

-- a tile's turn found nothing possible after the entries made before and the tile's core events, and changed nothing
pub record FoundNothing (b : Behaviour) (r : RoundStart) (station : StationState) (fabric : FabricState) (new : StationState) (new_fabric : FabricState) : Type 0 where
  pub station_is : new ≡ station
  pub fabric_is : new_fabric ≡ fabric
  pub made : List Entry
  pub units : List UnitState
  pub was : HasMade b r made fabric units
  pub ran : run b r.fabric.chip (chip_state fabric units) (alone_events b (start_state r) station.tile) ≡ Some (seen_by station fabric units)
  pub none : find (enabled b r.fabric.chip (seen_by station fabric units)) (tried r.fabric.chip r.turn station.tile) ≡ None

-- what a turn did: an event, or nothing
abbrev pub TurnDoes : Behaviour → RoundStart → StationState → FabricState → StationState → FabricState → Bool → Type 0
TurnDoes b r station fabric new new_fabric true = DidEvent b r station fabric new new_fabric
TurnDoes b r station fabric new new_fabric false = FoundNothing b r station fabric new new_fabric
