use Rattle.std.proofs.Common.{arith, ap}
use Rattle.fabric_core.specs.Fabric.{fabric_after_data_eject}
use Rattle.fabric_core.specs.Parts.{fabric_of_parts, LogState}
use Rattle.net_iface.proofs.Steps.{on_err}
use Rattle.fabric_core.proofs.Inside.{parts}
use Rattle.fabric_core.proofs.Entries.{data_eject_valid}
use Rattle.fabric_core.proofs.Kept.{kept-replies}
use Rattle.fabric_core.proofs.Steps.{no_step, replies_delivery}
use Rattle.fabric_core.proofs.fabric.Fabric.data_eject.Goals as goal

pub note-requires-clause-valid : goal.note-requires-clause-valid
note-requires-clause-valid c =
    let p = parts c.self.inside in
    let may = rw (← c.self.view_is) at c.requires in
    let fit = rw (← c.self.view_is) at c.networks_fit.ensures in
    data_eject_valid (fabric_of_parts p) c.args.who c.args.r c.args.port c.args.slot _ c.eject.new.self.messages may fit c.in_ok-msg.ensures.ok

pub invariant_of-self-2 : goal.invariant_of-self-2
invariant_of-self-2 c =
    let p = parts c.self.inside in
    let room = ap (λ (log : LogState). log.room) c.note.ensures.log in
    let more = c.note.ensures.events in
    let channels = c.channel_laws.ensures.came p.network.chip.grid p.network.chip.data_vcs p.replies.messages c.eject.new.self.messages c.args.r c.args.port c.args.slot _ c.self.invariant.0.channels c.in_ok-msg.ensures.ok in
    (kept-replies p c.eject.new.self c.note.new.self c.self.invariant.0 c.in_ok-msg.ensures.grid room (omega (arith, more)) channels, omega (arith, room, c.self.invariant.1))

pub returns-clause-ok : goal.returns-clause-ok
unfolding fabric_after_data_eject
returns-clause-ok c =
    let p = parts c.self.inside in
    rw (← c.self.view_is) (replies_delivery p c.eject.new.self c.note.new.self _ _ _ c.in_ok-msg.ensures.ok c.note.ensures.log)

pub returns-in_err-msg-clause-err : goal.returns-in_err-msg-clause-err
unfolding fabric_after_data_eject
returns-in_err-msg-clause-err c = on_err c.from_residual.result _ (rw (← c.self.view_is) (no_step _ _ c.in_err-msg.ensures.err))
