-- The workers of a round, and their stations and seats before it and after it.
use Rattle.std.specs.Prelude.{◌≡◌, ◌≢◌, ◌⊎◌, ℕ, ◌+◌, ◌<◌, ◌≤◌, true, false, List, length, AllPairs, Contains, Some, slice_get, slice_index_or}
use Rattle.atomic_table.specs.Seated.{TableId}
use Rattle.turn_table.specs.States.{SeatState}
use Rattle.mesh_gen.specs.TileSet.{has_tile}
use Rattle.chip_model.specs.Units.{UnitState, Behaviour}
use Rattle.chip_model.specs.ChipState.{ChipState}
use Rattle.chip_model.specs.Runs.{run}
use Rattle.order_tracker.specs.Order.{upwards}
use Rattle.report_text.specs.declared.entry.Entry.{Entry}
use Rattle.fabric_core.specs.Fabric.{FabricState}
use Rattle.machine_core.specs.Stations.{StationState, IsSettled, chip_state}
use Rattle.round_laws.specs.Turns.{TurnsLead, has_turn, left_over}
use Rattle.tile_pool.specs.Start.{RoundStart, start_state}
use Rattle.tile_pool.specs.Workers.{HasRunAlone, IsThrough, station_at}

-- the stations of the tiles at the round's start, in the order of their tiles
pub record AreStationsOf (r : RoundStart) (stations : List StationState) : Type 0 where
  pub count : length stations ≡ length r.units
  pub each : (t : ℕ) (unit : UnitState) → slice_get r.units t ≡ Some unit → slice_get stations t ≡ Some (station_at t unit)

-- the tiles of a list go down to 0 at its end, from one below a number on
abbrev pub TilesFall : {W : Type 0} → (W → ℕ) → ℕ → List W → Type 0
TilesFall tile above workers = (i : ℕ) (d : _) → i < length workers → tile (slice_index_or workers i d) + i + 1 ≡ above

-- what is left of the stations and the seats of so many tiles, in the order of their tiles, after the tries of the round
pub record AreThrough (b : Behaviour) (r : RoundStart) (table : TableId) (count had : ℕ) (stations : List StationState) (seats : List SeatState) : Type 0 where
  pub stations_count : length stations ≡ count
  pub seats_count : length seats ≡ count
  pub each : (t : ℕ) (station : StationState) (seat : SeatState) → slice_get stations t ≡ Some station → slice_get seats t ≡ Some seat
      → (station.tile ≡ t) × IsThrough b r table station seat (has_tile had t)
  pub none_beyond : (t : ℕ) → count ≤ t → has_tile had t ≡ false

-- of a tile after the turns: it had one, is settled, and has the unit that its turn left
pub record IsAfterTurn (turns : List Entry) (units : List UnitState) (station : StationState) : Type 0 where
  pub has : has_turn turns station.tile ≡ true
  pub settled : IsSettled station
  pub unit : slice_get units station.tile ≡ Some station.unit

-- or it had none, and has still to put its core events into the journal
pub record IsLeftOver (b : Behaviour) (r : RoundStart) (turns : List Entry) (units : List UnitState) (station : StationState) : Type 0 where
  pub has : has_turn turns station.tile ≡ false
  pub alone : HasRunAlone b r station
  pub unit : slice_get units station.tile ≡ slice_get r.units station.tile

-- the stations before this tile are settled, and what their core events that were left over led to is the chip of the fabric and units
pub record AreSettledTo (b : Behaviour) (r : RoundStart) (turns : List Entry) (last : ChipState) (tile : ℕ) (fabric : FabricState) (stations : List StationState) : Type 0 where
  pub units : List UnitState
  pub tiles : length units ≡ length r.units
  pub count : length stations ≡ length r.units
  pub chip : fabric.chip ≡ r.fabric.chip
  pub room : fabric.room ≡ r.fabric.room
  pub lead : run b r.fabric.chip last (left_over b (start_state r) turns (upwards 0 tile)) ≡ Some (chip_state fabric units)
  pub places : (t : ℕ) (station : StationState) → slice_get stations t ≡ Some station → station.tile ≡ t
  pub done : (t : ℕ) (station : StationState) → t < tile → slice_get stations t ≡ Some station
      → IsSettled station × (slice_get units t ≡ Some station.unit)
  pub to_do : (t : ℕ) (station : StationState) → tile ≤ t → slice_get stations t ≡ Some station
      → IsAfterTurn turns units station ⊎ IsLeftOver b r turns units station

-- after the turns of a round, which lead from its start, no station has put core events that are left over into the journal yet
pub record IsToSettle (b : Behaviour) (r : RoundStart) (fabric : FabricState) (stations : List StationState) : Type 0 where
  pub turns : List Entry
  pub last : ChipState
  pub lead : TurnsLead b r.fabric.chip r.turn (start_state r) (start_state r) turns last
  pub once : AllPairs (λ entry later. entry.by ≢ later.by) turns
  pub inside : (entry : Entry) → Contains turns entry → entry.by < length r.units
  pub to_settle : AreSettledTo b r turns last 0 fabric stations

-- all stations have, whatever the turns were
abbrev pub SettlesAll : Behaviour → RoundStart → FabricState → List StationState → FabricState → List StationState → Type 0
SettlesAll b r fabric stations new_fabric new_stations = (turns : List Entry) (last : ChipState)
    → AreSettledTo b r turns last 0 fabric stations → AreSettledTo b r turns last (length r.units) new_fabric new_stations
