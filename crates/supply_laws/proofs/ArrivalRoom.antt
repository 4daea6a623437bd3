-- What the arrival of a message asks of a node holds where an event brings it: there is room in the queue for what the node
-- sends.
use Rattle.std.proofs.Common.{◌≡◌, ℕ, ◌+◌, ◌<◌, ◌≤◌, sym, ◌∙◌, ap, subst, arith, Some}
use Rattle.std.specs.List.{count_by}
use Rattle.std.specs.Prelude.{slice_get}
use Rattle.mesh_gen.specs.declared.msg.Msg.{Msg}
use Rattle.mesh_gen.specs.declared.msg_kind.MsgKind.{MsgKind}
use Rattle.mesh_gen.specs.declared.msg_kind.MsgKind.TheVariants.{Back}
use Rattle.mesh_gen.specs.declared.port.Port.{Port}
use Rattle.vc_bank.specs.Places.{Network}
use Rattle.doc_text.specs.Doc.{Doc}
use Rattle.chip_model.specs.Chip.{Chip, chip_of, tile_count, home}
use Rattle.chip_model.specs.Replies.{after_data_eject}
use Rattle.chip_model.specs.Node.{node_after_message}
use Rattle.chip_model.specs.Units.{UnitState}
use Rattle.chip_model.specs.ChipState.{ChipState}
use Rattle.chip_model.specs.NodeShape.{SideFits}
use Rattle.chip_model.specs.Suppliers.{is_data_for}
use Rattle.chip_model.specs.NetworkShape.{GoesTo}
use Rattle.chip_model.specs.ChipInvariant.{ProtocolHolds}
use Rattle.chip_laws.specs.DocLaws.{DocLaws}
use Rattle.chip_laws.specs.Meetings.{ArrivalsFit}
use Rattle.chip_laws.specs.MessageLaws.{MessageLaws}
use Rattle.chip_laws.proofs.ArrivedMessages.{came_fits}
use Rattle.chip_laws.proofs.NodeKeeps.{node_keeps, arrived_keeps}
use Rattle.chip_laws.proofs.OrderFrames.{holds_at}
use Rattle.chip_laws.proofs.RequestsInside.{tile_of, sends_fit, waiters_inside}
use Rattle.chip_laws.proofs.SupplyDeliveries.{arrived_promises}
use Rattle.chip_laws.proofs.SupplyRoom.{promised_once}
use Rattle.supply_laws.specs.UnitCalls.{ArrivalFits}
use Rattle.supply_laws.proofs.FewTiles.{few_messages}

-- words that are written back go to the home of their line
goes_home : (chip : Chip) (msg : Msg) (kind : MsgKind) → kind ≡ Back → GoesTo chip msg kind → msg.to ≡ home chip msg.line
goes_home chip msg kind is goes = subst (GoesTo chip msg) is goes

-- all that the arrival asks, where data is what its demand waits for
pub arrival_fits : MessageLaws → (queue : ℕ) (d : Doc) (s : ChipState) (t : ℕ) (port : Port) (slot : ℕ) (unit : UnitState) (msg : Msg) (replies : Network Msg) → tile_count (chip_of d) + 1 ≤ queue
    → DocLaws d → ProtocolHolds d s → ArrivalsFit s → slice_get s.units t ≡ Some unit → after_data_eject s.replies t port slot ≡ Some (msg, replies) → ArrivalFits queue unit.node msg
arrival_fits messages queue d s t port slot unit msg replies short fits holds arrive at comes =
    let to = messages.here s.replies replies t port slot msg comes in
    let message = came_fits messages d s t port slot msg replies holds.network comes in
    let here = holds_at d s holds t unit at in
    let node = here.holds.node in
    let awaited = arrive t port slot unit msg replies at comes in
    let after =
    arrived_keeps (chip_of d) s.network.ordered t here.interface msg unit.node awaited message.line (sends_fit d s unit.node fits holds node.chip node.fits node.followed)
    (λ r there. waiters_inside d s unit.node msg.line r fits holds here.holds.serves.waiters there) (node_keeps d s t here.interface unit.node node) in
    let back = after.fits.back in
    let few = few_messages (chip_of d) (node_after_message msg unit.node).0.out after.messages (λ x below. once x below node.fits.side) (omega (arith, back)) in
    record {
      line = subst (λ (c : Chip). msg.line < c.lines) (sym node.chip) message.line;
      awaited = awaited;
      home = λ kind. ap (λ (c : Chip). home c msg.line) node.chip ∙ sym (goes_home (chip_of d) msg msg.kind kind message.goes_to) ∙ to ∙ sym node.agrees.tile;
      room = omega (arith, few, short);
    }
  where
    -- what the node has promised a tile stays, and is one answer at most
    once : (x : ℕ) → x < tile_count (chip_of d) → SideFits unit.node.chip unit.node.side → count_by (is_data_for x) (node_after_message msg unit.node).0.out ≤ 1
    once x below side =
        let own = tile_of d s x holds below in
        omega (arith, arrived_promises x msg unit.node side, promised_once d s x t own.unit unit holds own.unit_at at)
