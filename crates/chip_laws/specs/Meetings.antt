-- What a delivery and an arrival meet at the node to which they come.
use Rattle.std.specs.Prelude.{◌≡◌, ℕ, true, Some, slice_get}
use Rattle.mesh_gen.specs.declared.msg.Msg.{Msg}
use Rattle.mesh_gen.specs.declared.port.Port.{Port}
use Rattle.mesh_gen.specs.declared.request.Request.{Request}
use Rattle.vc_bank.specs.Places.{Network}
use Rattle.doc_text.specs.Doc.{Doc}
use Rattle.chip_model.specs.Chip.{chip_of}
use Rattle.chip_model.specs.OrderedNetwork.{OrderedNetwork, Interface, after_delivery}
use Rattle.chip_model.specs.Replies.{after_data_eject}
use Rattle.chip_model.specs.Units.{UnitState, Behaviour}
use Rattle.chip_model.specs.ChipState.{ChipState}
use Rattle.chip_model.specs.BehaviourLaws.{KeepsLaws}
use Rattle.chip_model.specs.UnitShape.{UnitFits}
use Rattle.chip_model.specs.ChipInvariant.{NodeHolds}
use Rattle.snoop_core.specs.Requests.{DataFits}

-- the request that a tile delivers is the next of the order
abbrev pub DeliveriesFit : Doc → ChipState → Type 0
DeliveriesFit d s = (t : ℕ) (unit : UnitState) (q : Request) (net : OrderedNetwork) → slice_get s.units t ≡ Some unit
    → after_delivery (chip_of d) s.network t ≡ Some (q, net) → slice_get s.network.ordered unit.node.delivered ≡ Some q

-- data that comes to a tile is what its demand waits for
abbrev pub ArrivalsFit : ChipState → Type 0
ArrivalsFit s = (t : ℕ) (port : Port) (slot : ℕ) (unit : UnitState) (msg : Msg) (replies : Network Msg) → slice_get s.units t ≡ Some unit
    → after_data_eject s.replies t port slot ≡ Some (msg, replies) → DataFits unit.node.side msg

-- every node holds by itself and with its interface
abbrev pub NodesHold : Doc → ChipState → Type 0
NodesHold d s = (t : ℕ) (interface : Interface) (unit : UnitState) → slice_get s.network.interfaces t ≡ Some interface
    → slice_get s.units t ≡ Some unit → NodeHolds d s t interface unit.node

-- every unit runs its tile's program on a core of eight registers
abbrev pub UnitsKeepShape : Doc → ChipState → Type 0
UnitsKeepShape d s = (t : ℕ) (unit : UnitState) → slice_get s.units t ≡ Some unit → UnitFits d t unit

-- each unit is one that such cores come to
abbrev pub UnitsFit : (b : Behaviour) → KeepsLaws b → ChipState → Type 0
UnitsFit b laws s = (t : ℕ) (unit : UnitState) → slice_get s.units t ≡ Some unit → laws.fits unit ≡ true
