use Rattle.reply_net.proofs.Accounts.{total-after_send, total-after_data_hop, total-after_data_eject}
use Rattle.reply_net.proofs.Sound.{nothing_weighs}
use Rattle.reply_net.proofs.laws.weight_laws.Goals as goal

pub returns-clause-none : goal.returns-clause-none
returns-clause-none c = nothing_weighs

pub returns-clause-adds : goal.returns-clause-adds
returns-clause-adds c = total-after_send

pub returns-clause-keeps : goal.returns-clause-keeps
returns-clause-keeps c = λ weight g old new r port slot some is. total-after_data_hop weight g old new r port slot c.route_laws.ensures.nearer some is

pub returns-clause-takes : goal.returns-clause-takes
returns-clause-takes c = total-after_data_eject
