use Rattle.reply_net.proofs.Empty.{is_empty-count, none_stands}
use Rattle.reply_net.proofs.replies.Replies.is_empty.Goals as goal

pub returns-clause-empty : goal.returns-clause-empty
returns-clause-empty c = rw (← c.self.view_is, c.self.invariant.1) (is_empty-count c.self.inside.banks.items)

pub returns-clause-none : goal.returns-clause-none
returns-clause-none c = rw (← c.self.view_is) (none_stands c.self.inside.banks.items c.self.inside.count c.self.invariant.1)

pub returns-clause-on_routes : goal.returns-clause-on_routes
returns-clause-on_routes c = rw (← c.self.view_is) c.self.invariant.0.on_routes
