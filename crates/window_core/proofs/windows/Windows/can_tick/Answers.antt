use Rattle.window_core.proofs.Steps.{test_posts}
use Rattle.window_core.proofs.windows.Windows.can_tick.Goals as goal

pub returns : goal.returns
returns c = rw (← c.self.view_is) (test_posts c.self.inside.ticks (record { phase = c.self.inside.phase; posts = c.self.inside.posts; closed = c.self.inside.closed.items; taken = c.self.inside.taken.items }))
