use Rattle.std.proofs.Common.{sym, ◌∙◌, ap}
use Rattle.std.specs.Prelude.{is_some, length}
use Rattle.std.proofs.lemmas.Bool.{eqb-true}
use Rattle.net_iface.specs.Unordered.{unordered_of}
use Rattle.net_iface.proofs.InsideParts.{parts}
use Rattle.net_iface.proofs.Posts.{nothing_to_post, post_test, some_left}
use Rattle.net_iface.proofs.ordered_net.OrderedNet.can_post.Goals as goal

pub returns-then-not-is_none_left : goal.returns-then-not-is_none_left
returns-then-not-is_none_left c =
    let p = parts c.self.inside in
    let is = rw c.deref.ensures.value at c.is_none_left.ensures in
    let some = some_left (length (unordered_of p.unordered c.args.t)) c.is_none_left.result c.if-not-is_none_left.true is in
    rw (← c.self.view_is) (c.can_post.ensures.posts ∙ post_test p c.args.t c.self.invariant.0.sizes some)

pub returns-else-not-is_none_left : goal.returns-else-not-is_none_left
returns-else-not-is_none_left c =
    let p = parts c.self.inside in
    let is = rw c.deref.ensures.value at c.is_none_left.ensures in
    let none = eqb-true (length (unordered_of p.unordered c.args.t)) 0 (sym is ∙ c.if-not-is_none_left.false) in
    rw (← c.self.view_is, c.if-not-is_none_left.false) (sym (ap is_some (nothing_to_post p c.args.t none)))
