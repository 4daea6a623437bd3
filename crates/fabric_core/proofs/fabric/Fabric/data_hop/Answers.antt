use Rattle.std.proofs.Common.{arith, ap}
use Rattle.fabric_core.specs.Fabric.{fabric_after_data_hop}
use Rattle.fabric_core.specs.Parts.{fabric_of_parts, LogState}
use Rattle.net_iface.proofs.Steps.{on_err}
use Rattle.fabric_core.proofs.Inside.{parts}
use Rattle.fabric_core.proofs.Entries.{data_hop_valid}
use Rattle.fabric_core.proofs.Kept.{kept-replies}
use Rattle.fabric_core.proofs.Steps.{no_step, replies_step}
use Rattle.fabric_core.proofs.fabric.Fabric.data_hop.Goals as goal

pub note-requires-clause-valid : goal.note-requires-clause-valid
note-requires-clause-valid c =
    let p = parts c.self.inside in
    let stepped = rw c.self.invariant.0.grid at c.in_ok-hop.ensures.ok in
    let may = rw (← c.self.view_is) at c.requires in
    let fit = rw (← c.self.view_is) at c.networks_fit.ensures in
    data_hop_valid (fabric_of_parts p) c.args.who c.args.r c.args.port c.args.slot c.hop.new.self.messages may fit stepped

pub invariant_of-self-2 : goal.invariant_of-self-2
invariant_of-self-2 c =
    let p = parts c.self.inside in
    let stepped = rw c.self.invariant.0.grid at c.in_ok-hop.ensures.ok in
    let room = ap (λ (log : LogState). log.room) c.note.ensures.log in
    let more = c.note.ensures.events in
    let channels = c.channel_laws.ensures.hopped p.network.chip.grid p.network.chip.data_vcs p.replies.messages c.hop.new.self.messages c.args.r c.args.port c.args.slot c.self.invariant.0.channels stepped in
    (kept-replies p c.hop.new.self c.note.new.self c.self.invariant.0 c.in_ok-hop.ensures.grid room (omega (arith, more)) channels, omega (arith, room, c.self.invariant.1))

pub returns-clause-ok : goal.returns-clause-ok
unfolding fabric_after_data_hop
returns-clause-ok c =
    let p = parts c.self.inside in
    let stepped = rw c.self.invariant.0.grid at c.in_ok-hop.ensures.ok in
    rw (← c.self.view_is) (replies_step p c.hop.new.self c.note.new.self _ _ stepped c.note.ensures.log)

pub returns-in_err-hop-clause-err : goal.returns-in_err-hop-clause-err
unfolding fabric_after_data_hop
returns-in_err-hop-clause-err c = on_err c.from_residual.result _ (rw (← c.self.view_is) (no_step _ _ (rw c.self.invariant.0.grid at c.in_err-hop.ensures.err)))
