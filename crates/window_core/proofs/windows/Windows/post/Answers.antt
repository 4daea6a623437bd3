use Rattle.std.proofs.Common.{◌≡◌, true, refl, sym, ◌∙◌, rules}
use Rattle.std.specs.Prelude.{is_some}
use Rattle.chip_model.specs.Windows.{after_post}
use Rattle.window_core.proofs.Steps.{after_post-first, after_post-some}
use Rattle.window_core.proofs.Kept.{IsKept-post}
use Rattle.window_core.proofs.windows.Windows.post.Goals as goal

pub invariant_of-self : goal.invariant_of-self
invariant_of-self c =
    let yes : c.can_post.result ≡ true = search rules in
    let so : is_some (after_post c.args.self.now.windows c.args.t) ≡ true = sym c.can_post.ensures.posts ∙ yes in
    let first_then : c.args.self.now.windows.phase ≡ 0 = after_post-first c.args.self.now.windows c.args.t so in
    let first = rw (← c.self.view_is) at first_then in
    let tile = rw (← c.self.view_is) at c.if-not-can_post.ensures.tile in (
      rw c.with_tile-self-inside.ensures
          (IsKept-post c.self.inside.latches c.post.new.self c.self.inside.ticks (record { phase = c.self.inside.phase; posts = c.self.inside.posts; closed = c.self.inside.closed.items; taken = c.self.inside.taken.items }) c.self.inside.room c.args.t first tile c.post.ensures.phase c.self.invariant.0),
      c.self.invariant.1,
    )

pub returns-clause-ok : goal.returns-clause-ok
returns-clause-ok c =
    let yes : c.can_post.result ≡ true = search rules in
    let so : is_some (after_post c.args.self.now.windows c.args.t) ≡ true = sym c.can_post.ensures.posts ∙ yes in
    after_post-some c.args.self.now.windows c.args.t so ∙ rw (← c.self.view_is, c.with_tile-self-inside.ensures) refl
