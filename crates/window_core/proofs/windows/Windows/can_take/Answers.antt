use Rattle.std.proofs.Common.{◌≡◌, refl, sym, ◌∙◌}
use Rattle.std.specs.Prelude.{is_some, slice_get, option_and_then}
use Rattle.window_core.proofs.Steps.{is_some-after_take}
use Rattle.window_core.proofs.windows.Windows.can_take.Goals as goal

pub returns : goal.returns
returns c =
    let test : c.is_some.result ≡ is_some (option_and_then (slice_get c.self.inside.closed.items) (slice_get c.self.inside.taken.items c.args.t)) = c.is_some.ensures ∙ rw (c.next_of.ensures, c.deref.ensures.value, c.deref-2.ensures.value) refl in
    rw (← c.self.view_is) (test ∙ sym (is_some-after_take (record { phase = c.self.inside.phase; posts = c.self.inside.posts; closed = c.self.inside.closed.items; taken = c.self.inside.taken.items }) c.args.t))
