use Rattle.std.proofs.Common.{sym, ap}
use Rattle.std.specs.Prelude.{is_some}
use Rattle.reply_net.proofs.Steps.{seen_at, can_receive, nothing_received}
use Rattle.reply_net.proofs.replies.Replies.can_eject.Goals as goal

pub returns-in-Some : goal.returns-in-Some
returns-in-Some c = rw (← c.self.view_is) (can_receive _ _ _ _ c.in-Some.msg (seen_at _ _ _ _ _ _ _ c.deref.ensures.value c.packet_at.ensures c.in-Some.is))

pub returns-in-None : goal.returns-in-None
returns-in-None c = rw (← c.self.view_is) (sym (ap is_some (nothing_received _ _ _ _ (seen_at _ _ _ _ _ _ _ c.deref.ensures.value c.packet_at.ensures c.in-None.is))))
