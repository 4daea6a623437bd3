-- In-order cores keep the laws of a behaviour.
use Rattle.chip_model.specs.Units.{in_order}
use Rattle.chip_model.specs.BehaviourLaws.{KeepsLaws}
use Rattle.chip_laws.specs.InOrderUnits.{is_in_order}
use Rattle.chip_laws.proofs.InOrder.{in_order_opened, in_order_asked, in_order_sent, in_order_stepped, in_order_delivered, in_order_received, in_order_halted}
use Rattle.chip_laws.proofs.InOrderReady.{in_order_waits}

pub in_order_laws : KeepsLaws in_order
unfolding in_order
in_order_laws = record {
  fits = is_in_order;
  opened = in_order_opened;
  asked = in_order_asked;
  sent = in_order_sent;
  stepped = in_order_stepped;
  delivered = in_order_delivered;
  received = in_order_received;
  halted = in_order_halted;
  waits = λ unit fits ways running unready. in_order_waits unit ways running unready;
}
