use Rattle.std.proofs.Common.{sym, ◌∙◌, ap, refl}
use Rattle.std.specs.Prelude.{is_some}
use Rattle.reply_net.proofs.Steps.{seen_at, seen_next, can_forward, nothing_there}
use Rattle.reply_net.proofs.Sound.{router_inside}
use Rattle.reply_net.proofs.replies.Replies.can_hop.Goals as goal

pub next_channel-requires-clause-from : goal.next_channel-requires-clause-from
next_channel-requires-clause-from c = router_inside _ _ c.args.r _ _ c.in-Some.msg c.self.invariant.0 (seen_at _ _ _ _ _ _ _ c.deref.ensures.value c.packet_at.ensures c.in-Some.is)

pub next_channel-requires-clause-to : goal.next_channel-requires-clause-to
next_channel-requires-clause-to c = (c.self.invariant.0.on_routes c.args.r c.args.port c.args.slot c.in-Some.msg (seen_at _ _ _ _ _ _ _ c.deref.ensures.value c.packet_at.ensures c.in-Some.is)).0

pub returns-in-Some : goal.returns-in-Some
returns-in-Some c = rw (← c.self.view_is)
    (c.is_some.ensures ∙ ap is_some (sym (seen_next _ _ _ _ _ _ _ c.deref-in-Some.ensures.value c.next_channel.ensures refl))
    ∙ can_forward _ _ _ _ _ c.in-Some.msg (seen_at _ _ _ _ _ _ _ c.deref.ensures.value c.packet_at.ensures c.in-Some.is))

pub returns-in-None : goal.returns-in-None
returns-in-None c = rw (← c.self.view_is) (sym (ap is_some (nothing_there _ _ _ _ _ (seen_at _ _ _ _ _ _ _ c.deref.ensures.value c.packet_at.ensures c.in-None.is))))
