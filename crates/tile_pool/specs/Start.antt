-- The machine at the start of a round.
use Rattle.std.specs.Prelude.{◌≡◌, ℕ, ◌+◌, ◌*◌, ◌^◌, ◌<◌, ◌≤◌, List, [], Some, length, slice_get}
use Rattle.doc_text.specs.Doc.{Doc}
use Rattle.chip_model.specs.Chip.{chip_of, tile_count}
use Rattle.chip_model.specs.Units.{UnitState, Behaviour}
use Rattle.chip_model.specs.ChipState.{ChipState}
use Rattle.chip_model.specs.Runs.{IsReachable}
use Rattle.fabric_core.specs.Fabric.{FabricState, event_count, opening_fabric}
use Rattle.machine_core.specs.Stations.{StationState, chip_state, units_of}
use Rattle.machine_core.specs.Meetings.{DocIsWithin}

-- the document, the fabric, the unit of each tile, and the round's number
pub record RoundStart : Type 0 where
  pub document : Doc
  pub fabric : FabricState
  pub units : List UnitState
  pub turn : ℕ

-- the chip
abbrev pub start_state : RoundStart → ChipState
start_state r = chip_state r.fabric r.units

-- It is that of a state which a run of the document reaches, and the journal has room for 17 events of each tile.
pub record IsStart (b : Behaviour) (r : RoundStart) : Type 0 where
  pub within : DocIsWithin r.document
  pub chip : r.fabric.chip ≡ chip_of r.document
  pub few : r.fabric.room < 2 ^ 30
  pub tiles : length r.units ≡ tile_count r.fabric.chip
  pub reached : IsReachable b r.document (start_state r)
  pub room : event_count r.fabric + 17 * tile_count r.fabric.chip ≤ r.fabric.room
  -- no core has done more instructions than there are events
  pub counted : (t : ℕ) (unit : UnitState) → slice_get r.units t ≡ Some unit → unit.core.steps ≤ event_count r.fabric

-- a document of one tile that does nothing: what a start is while no call has named it
abbrev pub no_document : Doc
no_document = record {
  cols = 1;
  rows = 1;
  window = 1;
  vcs = 1;
  data_vcs = 1;
  lines = 1;
  sets = 1;
  ways = 1;
  controllers = [];
  memory = [];
  posts = [];
  programs = [];
}

-- a start that no call has named
abbrev pub no_start : RoundStart
no_start = record { document = no_document; fabric = opening_fabric (chip_of no_document) 0; units = []; turn = 0 }

-- the start of a round of a machine with these parts
abbrev pub start_of : Doc → FabricState → List StationState → ℕ → RoundStart
start_of d fabric stations turn = record { document = d; fabric = fabric; units = units_of stations; turn = turn }
