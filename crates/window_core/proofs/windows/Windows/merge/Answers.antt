use Rattle.window_core.proofs.Kept.{IsKept-merge}
use Rattle.window_core.proofs.windows.Windows.merge.Goals as goal

pub invariant_of-self : goal.invariant_of-self
invariant_of-self c =
    let posted = rw (← c.self.view_is) at c.requires.posted in
    let more = rw (← c.self.view_is) at c.requires.more in
    (IsKept-merge c.self.inside.latches c.tick.new.self c.self.inside.ticks (record { phase = c.self.inside.phase; posts = c.self.inside.posts; closed = c.self.inside.closed.items; taken = c.self.inside.taken.items }) c.self.inside.room posted more c.tick.ensures.phase c.self.invariant.0, c.self.invariant.1)
