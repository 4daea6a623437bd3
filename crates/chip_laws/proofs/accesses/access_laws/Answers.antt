use Rattle.chip_laws.proofs.DeliveryCounts.{counts_deliveries}
use Rattle.chip_laws.proofs.WaitingAccesses.{request_keeps, message_keeps, access_keeps, asked_keeps}
use Rattle.chip_laws.proofs.accesses.access_laws.Goals as goal

pub returns : goal.returns
returns c = record { delivered = request_keeps; arrived = message_keeps; accessed = access_keeps; asked = asked_keeps; counted = counts_deliveries }
