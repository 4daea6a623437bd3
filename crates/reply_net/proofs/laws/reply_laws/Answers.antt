use Rattle.reply_net.specs.ReplyRuns.{opening_account}
use Rattle.reply_net.proofs.Accounts.{balanced_after, balanced_opening, at_tiles_after, at_tiles_opening}
use Rattle.reply_net.proofs.laws.reply_laws.Goals as goal

pub returns-clause-once : goal.returns-clause-once
returns-clause-once c = λ g data_vcs events account some made. balanced_after g (opening_account g data_vcs) account events c.route_laws.ensures.nearer some (balanced_opening g data_vcs) made

pub returns-clause-at_their_tiles : goal.returns-clause-at_their_tiles
returns-clause-at_their_tiles c = λ g data_vcs events account made. at_tiles_after g (opening_account g data_vcs) account events (at_tiles_opening g data_vcs) made
