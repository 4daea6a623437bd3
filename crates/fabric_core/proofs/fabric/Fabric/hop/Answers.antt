use Rattle.std.proofs.Common.{◌+◌, arith, ap}
use Rattle.fabric_core.specs.Fabric.{fabric_after_hop}
use Rattle.fabric_core.specs.Parts.{fabric_of_parts, LogState}
use Rattle.net_iface.proofs.Steps.{on_err}
use Rattle.fabric_core.proofs.Inside.{parts}
use Rattle.fabric_core.proofs.Entries.{hop_valid}
use Rattle.fabric_core.proofs.Kept.{made_count-hop, kept-network}
use Rattle.fabric_core.proofs.Steps.{no_step, network_step}
use Rattle.fabric_core.proofs.fabric.Fabric.hop.Goals as goal

pub note-requires-clause-valid : goal.note-requires-clause-valid
note-requires-clause-valid c =
    let p = parts c.self.inside in
    let may = rw (← c.self.view_is) at c.requires in
    let fit = rw (← c.self.view_is) at c.networks_fit.ensures in
    hop_valid (fabric_of_parts p) c.args.who c.args.r c.args.port c.args.slot c.args.out c.hop.new.self.network may fit c.in_ok-hop.ensures.ok

pub invariant_of-self-2 : goal.invariant_of-self-2
invariant_of-self-2 c =
    let p = parts c.self.inside in
    let room = ap (λ (log : LogState). log.room) c.note.ensures.log in
    let more = c.note.ensures.events in
    let made = made_count-hop p.network.chip p.network.network c.hop.new.self.network c.args.r c.args.port c.args.slot c.args.out c.in_ok-hop.ensures.ok in
    let kept =
    kept-network p c.hop.new.self c.note.new.self (c.self.inside.hops + 1) c.self.invariant.0 c.in_ok-hop.ensures.sizes room (omega (arith, more)) (omega (arith, made)) (omega arith) in
    (kept, omega (arith, room, c.self.invariant.1))

pub returns-clause-ok : goal.returns-clause-ok
unfolding fabric_after_hop
returns-clause-ok c =
    let p = parts c.self.inside in
    rw (← c.self.view_is) (network_step p c.hop.new.self c.note.new.self _ (c.self.inside.hops + 1) _ c.in_ok-hop.ensures.ok c.in_ok-hop.ensures.sizes c.note.ensures.log)

pub returns-in_err-hop-clause-err : goal.returns-in_err-hop-clause-err
unfolding fabric_after_hop
returns-in_err-hop-clause-err c = on_err c.from_residual.result _ (rw (← c.self.view_is) (no_step _ _ c.in_err-hop.ensures.err))
