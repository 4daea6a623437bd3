use Rattle.std.proofs.Common.{arith, ap}
use Rattle.fabric_core.specs.Fabric.{fabric_after_send}
use Rattle.fabric_core.specs.Parts.{fabric_of_parts, LogState}
use Rattle.fabric_core.proofs.Inside.{parts}
use Rattle.fabric_core.proofs.Entries.{send_valid}
use Rattle.fabric_core.proofs.Kept.{kept-replies}
use Rattle.fabric_core.proofs.Steps.{no_step, replies_step}
use Rattle.fabric_core.proofs.fabric.Fabric.send.Goals as goal

pub note-requires-clause-valid : goal.note-requires-clause-valid
note-requires-clause-valid c =
    let p = parts c.self.inside in
    let may = rw (← c.self.view_is) at c.requires.note in
    let fit = rw (← c.self.view_is) at c.networks_fit.ensures in
    send_valid (fabric_of_parts p) c.args.who c.args.r c.args.m c.inject.new.self.messages may fit c.in-Ok.ensures.ok

pub invariant_of-self : goal.invariant_of-self
invariant_of-self c =
    let p = parts c.self.inside in
    let room = ap (λ (log : LogState). log.room) c.note.ensures.log in
    let more = c.note.ensures.events in
    let channels = c.channel_laws.ensures.sent p.network.chip.grid p.network.chip.data_vcs p.replies.messages c.inject.new.self.messages c.args.r c.args.m c.self.invariant.0.channels c.in-Ok.ensures.ok in
    (kept-replies p c.inject.new.self c.note.new.self c.self.invariant.0 c.in-Ok.ensures.grid room (omega (arith, more)) channels, omega (arith, room, c.self.invariant.1))

pub returns-in-Ok-clause-ok : goal.returns-in-Ok-clause-ok
unfolding fabric_after_send
returns-in-Ok-clause-ok c =
    let p = parts c.self.inside in
    rw (← c.self.view_is) (replies_step p c.inject.new.self c.note.new.self _ _ c.in-Ok.ensures.ok c.note.ensures.log)

pub returns-in-Err-clause-err : goal.returns-in-Err-clause-err
unfolding fabric_after_send
returns-in-Err-clause-err c = rw (← c.self.view_is) (no_step _ _ c.in-Err.ensures.err)
