use Rattle.std.proofs.Common.{arith, ap}
use Rattle.fabric_core.specs.Fabric.{fabric_after_tick}
use Rattle.fabric_core.specs.Parts.{fabric_of_parts, LogState}
use Rattle.net_iface.proofs.Steps.{on_err}
use Rattle.fabric_core.proofs.Inside.{parts}
use Rattle.fabric_core.proofs.Entries.{tick_valid}
use Rattle.fabric_core.proofs.Orders.{ordered_few}
use Rattle.fabric_core.proofs.Kept.{made_count-tick, kept-network}
use Rattle.fabric_core.proofs.Steps.{no_step, network_step}
use Rattle.fabric_core.proofs.fabric.Fabric.tick.Goals as goal

pub tick-requires : goal.tick-requires
tick-requires c =
    let p = parts c.self.inside in
    let may = rw (← c.self.view_is) at c.requires in
    let fit = rw (← c.self.view_is) at c.networks_fit.ensures in
    let kept = c.self.invariant.0 in
    omega (arith, ordered_few p.network.chip p.network.network fit.some fit.network, kept.made, may.room, kept.network_room)

pub note-requires-clause-valid : goal.note-requires-clause-valid
note-requires-clause-valid c =
    let p = parts c.self.inside in
    let may = rw (← c.self.view_is) at c.requires in
    let fit = rw (← c.self.view_is) at c.networks_fit.ensures in
    tick_valid (fabric_of_parts p) c.args.who may fit

pub invariant_of-self-2 : goal.invariant_of-self-2
invariant_of-self-2 c =
    let p = parts c.self.inside in
    let room = ap (λ (log : LogState). log.room) c.note.ensures.log in
    let more = c.note.ensures.events in
    let made = made_count-tick p.network.chip p.network.network c.tick.new.self.network c.in_ok-tick.ensures.ok in
    let kept =
    kept-network p c.tick.new.self c.note.new.self c.self.inside.hops c.self.invariant.0 c.in_ok-tick.ensures.sizes room (omega (arith, more)) (omega (arith, made)) (omega arith) in
    (kept, omega (arith, room, c.self.invariant.1))

pub returns-clause-ok : goal.returns-clause-ok
unfolding fabric_after_tick
returns-clause-ok c =
    let p = parts c.self.inside in
    rw (← c.self.view_is) (network_step p c.tick.new.self c.note.new.self _ c.self.inside.hops _ c.in_ok-tick.ensures.ok c.in_ok-tick.ensures.sizes c.note.ensures.log)

pub returns-in_err-tick-clause-err : goal.returns-in_err-tick-clause-err
unfolding fabric_after_tick
returns-in_err-tick-clause-err c = on_err c.from_residual.result _ (rw (← c.self.view_is) (no_step _ _ c.in_err-tick.ensures.err))
