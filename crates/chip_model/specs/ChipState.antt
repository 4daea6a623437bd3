-- The state of the whole chip.
use Rattle.std.specs.Prelude.{ℕ, ◌==◌, Bool, not, ◌&&◌, List, [], length, map, slice_index_or}
use Rattle.std.specs.List.{list_all}
use Rattle.mesh_gen.specs.declared.request.Request.{Request}
use Rattle.mesh_gen.specs.declared.msg.Msg.{Msg}
use Rattle.vc_bank.specs.Places.{Network}
use Rattle.order_tracker.specs.Order.{upwards}
use Rattle.core_isa.specs.declared.instr.Instr.{Instr}
use Rattle.report_text.specs.declared.access.Access.{Access}
use Rattle.report_text.specs.declared.event.Event.{Event}
use Rattle.doc_text.specs.Doc.{Doc}
use Rattle.chip_model.specs.Chip.{chip_of, tile_count}
use Rattle.chip_model.specs.OrderedNetwork.{OrderedNetwork, opening_network}
use Rattle.chip_model.specs.Replies.{no_replies, is_empty}
use Rattle.chip_model.specs.Node.{waits_for_any}
use Rattle.chip_model.specs.Units.{UnitState, opening_unit}

-- the ordered network, the replies, the unit of each tile, the accesses in the order in which they were performed, the
-- events so far, and how many of them were hops of requests
pub record ChipState : Type 0 where
  pub network : OrderedNetwork
  pub replies : Network Msg
  pub units : List UnitState
  pub accesses : List Access
  pub journal : List Event
  pub hops : ℕ

-- a tile's program, and the empty one where the document has none
abbrev pub program_of : Doc → ℕ → List Instr
program_of d tile = slice_index_or d.programs tile []

-- before any event
abbrev pub opening : Doc → ChipState
opening d = record {
  network = opening_network (chip_of d);
  replies = no_replies (chip_of d).grid d.data_vcs;
  units = map (λ tile. opening_unit (chip_of d) tile (program_of d tile) d.memory) (upwards 0 (tile_count (chip_of d)));
  accesses = [];
  journal = [];
  hops = 0;
}

-- a list without elements
abbrev pub is_nil : {X : Type 0} → List X → Bool
is_nil list = length list == 0

-- a unit has nothing left to do: its core has halted, it waits for nothing and sends nothing, and every ordered request
-- was delivered to it
abbrev pub is_done : List Request → UnitState → Bool
is_done ordered unit =
    unit.halted && not (waits_for_any unit.node) && is_nil unit.node.out && (unit.node.delivered == length ordered)

-- all cores have halted and the network is empty
unfoldable pub finished : ChipState → Bool
finished s = list_all (is_done s.network.ordered) s.units && is_empty s.replies
