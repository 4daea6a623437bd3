use Rattle.std.proofs.Common.{arith}
use Rattle.supply_laws.proofs.ArrivalRoom.{arrival_fits}
use Rattle.supply_laws.proofs.Arrivals.{arrivals_fit}
use Rattle.supply_laws.proofs.DeliveryRoom.{delivery_fits}
use Rattle.supply_laws.proofs.meetings.meeting_laws.Goals as goal

pub returns : goal.returns
returns c = record {
  deliver = λ d s t unit q net fits few holds at delivers.
      delivery_fits 64 65 d s t unit q net (omega (arith, few)) (omega (arith, few)) (c.chip_network_laws.ensures.requests d fits) holds at delivers;
  receive = λ d s t port slot unit m replies fits few holds answers at comes.
      arrival_fits c.chip_network_laws.ensures.messages 65 d s t port slot unit m replies (omega (arith, few)) (c.chip_network_laws.ensures.requests d fits) holds
      (arrivals_fit d s holds answers) at comes;
}
