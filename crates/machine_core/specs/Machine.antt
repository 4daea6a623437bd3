-- A machine: a chip that runs a document, beside its document.
use Rattle.std.specs.Prelude.{◌≡◌, ℕ, ◌^◌, ◌<◌, List, Some, slice_get}
use Rattle.report_text.specs.declared.report.Report.{Report}
use Rattle.doc_text.specs.Doc.{Doc}
use Rattle.chip_model.specs.Chip.{chip_of}
use Rattle.chip_model.specs.Units.{Behaviour}
use Rattle.chip_model.specs.ChipState.{ChipState}
use Rattle.chip_model.specs.Runs.{IsReachable}
use Rattle.chip_model.specs.Reports.{report_of}
use Rattle.fabric_core.specs.Fabric.{FabricState}
use Rattle.machine_core.specs.Stations.{StationState, IsSettled, chip_state, units_of}
use Rattle.machine_core.specs.Meetings.{DocIsWithin}

-- the document, the state of the chip, and how many events its journal has room for
pub record MachineState : Type 0 where
  pub document : Doc
  pub state : ChipState
  pub room : ℕ

-- the machine of a document, a fabric and stations
abbrev pub machine_of : Doc → FabricState → List StationState → MachineState
machine_of d fabric stations = record {
  document = d;
  state = chip_state fabric (units_of stations);
  room = fabric.room;
}

-- each station is of the tile whose place it has, and is settled
abbrev pub AreInPlace : List StationState → Type 0
AreInPlace stations = (t : ℕ) (station : StationState) → slice_get stations t ≡ Some station
    → (station.tile ≡ t) × IsSettled station

-- The parts of a machine are those of a state that a run of the document comes to: the journal leads to it.
pub record AreParts (b : Behaviour) (d : Doc) (fabric : FabricState) (stations : List StationState) : Type 0 where
  pub within : DocIsWithin d
  pub chip : fabric.chip ≡ chip_of d
  pub few : fabric.room < 2 ^ 30
  pub places : AreInPlace stations
  pub reached : IsReachable b d (chip_state fabric (units_of stations))

-- the report of a machine's state, with the accesses in the order in which they were performed
abbrev pub report_as_performed : MachineState → Report
report_as_performed machine = record (report_of machine.document machine.state) { accesses = machine.state.accesses }
