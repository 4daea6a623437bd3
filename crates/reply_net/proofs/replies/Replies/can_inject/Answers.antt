use Rattle.std.proofs.Common.{sym, ◌∙◌, ap, refl}
use Rattle.std.specs.Prelude.{is_some}
use Rattle.reply_net.proofs.Steps.{seen_free, can_send}
use Rattle.reply_net.proofs.replies.Replies.can_inject.Goals as goal

pub returns : goal.returns
returns c = rw (← c.self.view_is) (c.is_some.ensures ∙ ap is_some (sym (seen_free _ _ _ _ _ _ c.deref.ensures.value c.free_slot.ensures refl)) ∙ can_send c.self.inside.banks.items c.args.r c.args.msg)
