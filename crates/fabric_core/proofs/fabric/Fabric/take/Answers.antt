use Rattle.std.proofs.Common.{arith, ap}
use Rattle.fabric_core.specs.Fabric.{fabric_after_take}
use Rattle.fabric_core.specs.Parts.{fabric_of_parts, LogState}
use Rattle.net_iface.proofs.Steps.{on_err}
use Rattle.fabric_core.proofs.Inside.{parts}
use Rattle.fabric_core.proofs.Entries.{take_valid}
use Rattle.fabric_core.proofs.Kept.{made_count-take, kept-network}
use Rattle.fabric_core.proofs.Steps.{no_step, network_step}
use Rattle.fabric_core.proofs.fabric.Fabric.take.Goals as goal

pub note-requires-clause-valid : goal.note-requires-clause-valid
note-requires-clause-valid c =
    let p = parts c.self.inside in
    let may = rw (← c.self.view_is) at c.requires in
    let fit = rw (← c.self.view_is) at c.networks_fit.ensures in
    take_valid (fabric_of_parts p) c.args.who c.args.t c.take.new.self.network may fit c.in_ok-take.ensures.ok

pub invariant_of-self-2 : goal.invariant_of-self-2
invariant_of-self-2 c =
    let p = parts c.self.inside in
    let room = ap (λ (log : LogState). log.room) c.note.ensures.log in
    let more = c.note.ensures.events in
    let made = made_count-take p.network.network c.take.new.self.network c.args.t c.in_ok-take.ensures.ok in
    let kept =
    kept-network p c.take.new.self c.note.new.self c.self.inside.hops c.self.invariant.0 c.in_ok-take.ensures.sizes room (omega (arith, more)) (omega (arith, made)) (omega arith) in
    (kept, omega (arith, room, c.self.invariant.1))

pub returns-clause-ok : goal.returns-clause-ok
unfolding fabric_after_take
returns-clause-ok c =
    let p = parts c.self.inside in
    rw (← c.self.view_is) (network_step p c.take.new.self c.note.new.self _ c.self.inside.hops _ c.in_ok-take.ensures.ok c.in_ok-take.ensures.sizes c.note.ensures.log)

pub returns-in_err-take-clause-err : goal.returns-in_err-take-clause-err
unfolding fabric_after_take
returns-in_err-take-clause-err c = on_err c.from_residual.result _ (rw (← c.self.view_is) (no_step _ _ c.in_err-take.ensures.err))
