use Rattle.std.proofs.Common.{◌≡◌, ◌≢◌, length, sym, ◌∙◌, rules, arith}
use Rattle.std.proofs.lemmas.Grind.{common_steps}
use Rattle.window_core.proofs.Steps.{is_some-after_post-first, is_some-after_post-begun, not_first}
use Rattle.window_core.proofs.windows.Windows.can_post.Goals as goal

pub returns-then-self-eq0-clause-posts : goal.returns-then-self-eq0-clause-posts
returns-then-self-eq0-clause-posts c =
    let count : c.len.result ≡ length c.self.inside.taken.items = search (rules, common_steps) in
    rw (← c.self.view_is) (c.lacks.ensures ∙ rw count (sym (is_some-after_post-first (record { phase = c.self.inside.phase; posts = c.self.inside.posts; closed = c.self.inside.closed.items; taken = c.self.inside.taken.items }) c.args.t c.if-self-eq0.true)))

pub returns-else-self-eq0-clause-posts : goal.returns-else-self-eq0-clause-posts
returns-else-self-eq0-clause-posts c =
    let begun : c.self.inside.phase ≢ 0 = omega (arith, c.if-self-eq0.false) in
    rw (← c.self.view_is) (not_first c.self.inside.phase begun ∙ sym (is_some-after_post-begun (record { phase = c.self.inside.phase; posts = c.self.inside.posts; closed = c.self.inside.closed.items; taken = c.self.inside.taken.items }) c.args.t begun))
