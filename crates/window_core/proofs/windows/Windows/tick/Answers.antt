use Rattle.std.proofs.Common.{◌≡◌, ◌+◌, true, sym, ◌∙◌, rules, arith}
use Rattle.window_core.proofs.Steps.{after_tick-after_post, after_tick-merge, after_tick-close, closed_by_tick-merge, closed_by_tick-close}
use Rattle.window_core.proofs.windows.Windows.tick.Goals as goal

pub merge-requires-clause-posted : goal.merge-requires-clause-posted
merge-requires-clause-posted c =
    let yes : c.can_tick.result ≡ true = search rules in
    after_tick-after_post c.args.self.now.ticks c.args.self.now.windows (sym c.can_tick.ensures ∙ yes)

pub close-requires-clause-posted : goal.close-requires-clause-posted
close-requires-clause-posted c =
    let yes : c.can_tick.result ≡ true = search rules in
    after_tick-after_post c.args.self.now.ticks c.args.self.now.windows (sym c.can_tick.ensures ∙ yes)

pub returns-then-self-clause-ok : goal.returns-then-self-clause-ok
returns-then-self-clause-ok c =
    let yes : c.can_tick.result ≡ true = search rules in
    let posted = after_tick-after_post c.args.self.now.ticks c.args.self.now.windows (sym c.can_tick.ensures ∙ yes) in
    rw c.merge.ensures.phase (after_tick-merge c.args.self.now.ticks c.args.self.now.windows posted (rw (← c.self.view_is) c.if-self.true))

pub returns-then-self-clause-vector : goal.returns-then-self-clause-vector
returns-then-self-clause-vector c = rw (← c.self.view_is) (sym (closed_by_tick-merge c.self.inside.ticks (record { phase = c.self.inside.phase; posts = c.self.inside.posts; closed = c.self.inside.closed.items; taken = c.self.inside.taken.items }) c.if-self.true))

pub returns-else-self-clause-ok : goal.returns-else-self-clause-ok
returns-else-self-clause-ok c =
    let yes : c.can_tick.result ≡ true = search rules in
    let posted = after_tick-after_post c.args.self.now.ticks c.args.self.now.windows (sym c.can_tick.ensures ∙ yes) in
    let last : c.self.inside.phase + 1 ≡ c.self.inside.ticks = omega (arith, c.if-self.false, c.self.invariant.0.sound.holds.phase) in
    rw c.close.ensures.closed (after_tick-close c.args.self.now.ticks c.args.self.now.windows posted (rw (← c.self.view_is) last))

pub returns-else-self-clause-vector : goal.returns-else-self-clause-vector
returns-else-self-clause-vector c =
    let last : c.self.inside.phase + 1 ≡ c.self.inside.ticks = omega (arith, c.if-self.false, c.self.invariant.0.sound.holds.phase) in
    rw (c.close.ensures.vector, ← c.self.view_is) (sym (closed_by_tick-close c.self.inside.ticks (record { phase = c.self.inside.phase; posts = c.self.inside.posts; closed = c.self.inside.closed.items; taken = c.self.inside.taken.items }) last))
