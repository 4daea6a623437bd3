use Rattle.std.proofs.Common.{sym, ◌∙◌}
use Rattle.reply_net.proofs.replies.Replies.tiles.Goals as goal

pub returns-clause-routers : goal.returns-clause-routers
returns-clause-routers c = rw (← c.self.view_is) (c.self.invariant.0.routers ∙ sym c.tiles.ensures.tiles)

pub returns-clause-some : goal.returns-clause-some
returns-clause-some c = rw (← c.self.view_is) c.self.invariant.0.some

pub returns-clause-channels : goal.returns-clause-channels
returns-clause-channels c = rw (← c.self.view_is) c.self.invariant.0.channels
