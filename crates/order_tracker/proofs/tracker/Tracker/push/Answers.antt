use Rattle.std.proofs.Common.{rules}
use Rattle.std.proofs.lemmas.Grind.{common_steps}
use Rattle.order_tracker.proofs.Sequence.{Follows-push}
use Rattle.order_tracker.proofs.tracker.Tracker.push.Goals as goal

pub returns-clause-pushed : goal.returns-clause-pushed
returns-clause-pushed c = search (rules, common_steps)

pub returns-clause-follows : goal.returns-clause-follows
returns-clause-follows c = λ windows used follows. rw (returns-clause-pushed c) (Follows-push windows used c.args.self.now c.args.vector follows)
