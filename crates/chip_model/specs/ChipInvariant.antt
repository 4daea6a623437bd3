-- What holds in every reachable state of a chip, part by part: statements that the crates above prove.
use Rattle.std.specs.Prelude.{◌≡◌, ℕ, ◌<◌, false, length, Some, slice_get}
use Rattle.mesh_gen.specs.declared.msg.Msg.{Msg}
use Rattle.vc_bank.specs.Places.{at}
use Rattle.report_text.specs.declared.access.Access.{Access}
use Rattle.doc_text.specs.Doc.{Doc}
use Rattle.chip_model.specs.Chip.{chip_of, tile_count}
use Rattle.chip_model.specs.OrderedNetwork.{Interface}
use Rattle.chip_model.specs.Node.{Node}
use Rattle.chip_model.specs.Units.{UnitState}
use Rattle.chip_model.specs.ChipState.{ChipState}
use Rattle.chip_model.specs.Ownership.{OwnsByOrder}
use Rattle.chip_model.specs.NodeShape.{NodeFits}
use Rattle.chip_model.specs.Bookkeeping.{TileAgrees, DemandIsFollowed}
use Rattle.chip_model.specs.Suppliers.{IsSupplied, OneToCome, ReachesMemory, GetsWait, WaitersAreGets, RecordsAreFresh}
use Rattle.chip_model.specs.Writers.{IsTimely, WritersFit}
use Rattle.chip_model.specs.Values.{ValuesHold}
use Rattle.chip_model.specs.UnitShape.{UnitFits, InOrderHolds}
use Rattle.chip_model.specs.NetworkShape.{HasChannels, IsOnRoute, MessageFits}
use Rattle.chip_model.specs.NetworkFits.{NetworkFits, DeliversWhatItTook}

-- the ordered network, and the messages with their channels
pub record NetworkHolds (d : Doc) (s : ChipState) : Type 0 where
  pub requests : NetworkFits (chip_of d) s.network
  pub took : DeliversWhatItTook (chip_of d) s.network
  pub replies : HasChannels (chip_of d).grid d.data_vcs false s.replies
  pub routes : IsOnRoute (chip_of d).grid s.replies
  pub messages : (router port slot : ℕ) (msg : Msg) → at s.replies router port slot ≡ Some msg → MessageFits (chip_of d) msg

-- a node by itself and with its interface
pub record NodeHolds (d : Doc) (s : ChipState) (t : ℕ) (interface : Interface) (node : Node) : Type 0 where
  pub chip : node.chip ≡ chip_of d
  pub fits : NodeFits node
  pub agrees : TileAgrees s.network t interface node
  pub followed : DemandIsFollowed s.network.ordered node
  pub messages : (place : ℕ) (msg : Msg) → slice_get node.out place ≡ Some msg → MessageFits (chip_of d) msg

-- a node in the whole chip: what it owns and may write, and who answers its gets and those at its home
pub record NodeServes (d : Doc) (s : ChipState) (t : ℕ) (node : Node) : Type 0 where
  pub owns : OwnsByOrder s.network.ordered node
  pub writers : WritersFit s.network.ordered node
  pub supplied : IsSupplied (chip_of d) s t node
  pub one : OneToCome (chip_of d) s t node
  pub fresh : RecordsAreFresh s node
  pub waiters : WaitersAreGets s node

-- the unit of each tile
pub record UnitHolds (d : Doc) (s : ChipState) (t : ℕ) (interface : Interface) (unit : UnitState) : Type 0 where
  pub core : UnitFits d t unit
  pub node : NodeHolds d s t interface unit.node
  pub serves : NodeServes d s t unit.node

-- all but the values, whatever the cores are
pub record ProtocolHolds (d : Doc) (s : ChipState) : Type 0 where
  pub units : length s.units ≡ tile_count (chip_of d)
  pub network : NetworkHolds d s
  pub tiles : (t : ℕ) (interface : Interface) (unit : UnitState) →
      slice_get s.network.interfaces t ≡ Some interface → slice_get s.units t ≡ Some unit → UnitHolds d s t interface unit
  pub backs : (line : ℕ) → ReachesMemory s line
  pub wait : (line : ℕ) → GetsWait s line
  pub performers : (place : ℕ) (a : Access) → slice_get s.accesses place ≡ Some a → a.tile < tile_count (chip_of d)
  pub timely : IsTimely s

-- each core is in-order
abbrev pub CoresInOrder : ChipState → Type 0
CoresInOrder s = (t : ℕ) (unit : UnitState) → slice_get s.units t ≡ Some unit → InOrderHolds s t unit

-- of a chip of in-order cores
pub record InOrderChipHolds (d : Doc) (s : ChipState) : Type 0 where
  pub protocol : ProtocolHolds d s
  pub cores : CoresInOrder s
  pub values : ValuesHold d s
