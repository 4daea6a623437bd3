use Rattle.reply_net.proofs.Steps.{next_made, next_full, next_none}
use Rattle.reply_net.proofs.banks.next_channel.Goals as goal

pub returns-in-Some-free_slot : goal.returns-in-Some-free_slot
returns-in-Some-free_slot c = next_made _ c.args.banks.now c.args.r c.args.msg c.route-out.result c.opposite-port.result c.neighbour.result c.in-Some.router c.in-Some-free_slot.slot c.free_slot.result c.route-out.ensures c.opposite-port.ensures c.neighbour.ensures c.in-Some.is c.free_slot.ensures c.in-Some-free_slot.is

pub returns-in-None-free_slot : goal.returns-in-None-free_slot
returns-in-None-free_slot c = next_full _ c.args.banks.now c.args.r c.args.msg c.route-out.result c.opposite-port.result c.neighbour.result c.in-Some.router c.free_slot.result c.route-out.ensures c.opposite-port.ensures c.neighbour.ensures c.in-Some.is c.free_slot.ensures c.in-None-free_slot.is

pub returns-in-None : goal.returns-in-None
returns-in-None c = next_none _ c.args.banks.now c.args.r c.args.msg c.route-out.result c.neighbour.result c.route-out.ensures c.neighbour.ensures c.in-None.is
