-- What a station and the fabric have to be for the events of the station: parts of a state that a run comes to. And what
-- follows from that for the calls that the events make.
use Rattle.std.specs.Prelude.{◌≡◌, ℕ, ◌+◌, ◌^◌, ◌<◌, ◌≤◌, List, length, Some, slice_get}
use Rattle.mesh_gen.specs.declared.msg.Msg.{Msg}
use Rattle.mesh_gen.specs.declared.port.Port.{Port}
use Rattle.mesh_gen.specs.declared.request.Request.{Request}
use Rattle.mesh_gen.specs.Limits.{most_tiles}
use Rattle.vc_bank.specs.Places.{Network}
use Rattle.doc_text.specs.Doc.{Doc}
use Rattle.chip_model.specs.Chip.{chip_of, tile_count}
use Rattle.chip_model.specs.OrderedNetwork.{OrderedNetwork, after_delivery}
use Rattle.chip_model.specs.Replies.{after_data_eject}
use Rattle.chip_model.specs.Units.{UnitState, Behaviour}
use Rattle.chip_model.specs.Runs.{IsReachable}
use Rattle.chip_laws.specs.DocFits.{DocFits}
use Rattle.supply_laws.specs.UnitCalls.{DeliveryFits, ArrivalFits}
use Rattle.fabric_core.specs.Fabric.{FabricState, event_count}
use Rattle.fabric_core.specs.Parts.{NetworksFit}
use Rattle.machine_core.specs.Stations.{StationState, seen_by}

-- a document whose chip fits, within the limits that the fabric and the units have
pub record DocIsWithin (d : Doc) : Type 0 where
  pub fits : DocFits d
  pub tiles : tile_count (chip_of d) ≤ most_tiles
  pub vcs : d.vcs ≤ 8
  pub data_vcs : d.data_vcs ≤ 4

-- the fabric and a station are parts of a state that a run of a document comes to, with these units
pub record AreOfRun (b : Behaviour) (station : StationState) (fabric : FabricState) : Type 0 where
  pub document : Doc
  pub within : DocIsWithin document
  pub chip : fabric.chip ≡ chip_of document
  pub few : fabric.room < 2 ^ 30
  pub units : List UnitState
  pub there : station.tile < length units
  pub reached : IsReachable b document (seen_by station fabric units)

-- What the calls of the fabric and of the unit ask, wherever an event of a station makes them, with so many places in each
-- list of tiles that wait and in the queue.
pub record MeetsCalls (places queue : ℕ) (station : StationState) (fabric : FabricState) : Type 0 where
  pub networks : NetworksFit fabric
  pub tile : station.tile < tile_count fabric.chip
  pub cores : station.cores ≤ 16
  pub chip : station.unit.node.chip ≡ fabric.chip
  pub steps : station.unit.core.steps + 1 < 2 ^ 63
  pub delivered : station.unit.node.delivered + 1 < 2 ^ 63
  pub accesses : length fabric.accesses + length station.accesses ≤ event_count fabric + station.cores
  pub deliver : (q : Request) (net : OrderedNetwork)
      → after_delivery fabric.chip fabric.network station.tile ≡ Some (q, net)
      → DeliveryFits places queue station.unit.node q
  pub receive : (port : Port) (slot : ℕ) (msg : Msg) (replies : Network Msg)
      → after_data_eject fabric.replies station.tile port slot ≡ Some (msg, replies)
      → ArrivalFits queue station.unit.node msg
  pub send : (msg : Msg) → slice_get station.unit.node.out 0 ≡ Some msg → msg.to < tile_count fabric.chip
