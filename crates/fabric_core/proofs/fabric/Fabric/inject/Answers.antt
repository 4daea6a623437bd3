use Rattle.std.proofs.Common.{arith, ap}
use Rattle.fabric_core.specs.Fabric.{fabric_after_inject}
use Rattle.fabric_core.specs.Parts.{LogState}
use Rattle.fabric_core.proofs.Inside.{parts}
use Rattle.fabric_core.proofs.Entries.{inject_valid}
use Rattle.fabric_core.proofs.Kept.{made_count-inject, kept-network}
use Rattle.fabric_core.proofs.Steps.{no_step, network_step}
use Rattle.fabric_core.proofs.fabric.Fabric.inject.Goals as goal

pub note-requires-clause-valid : goal.note-requires-clause-valid
note-requires-clause-valid c =
    let p = parts c.self.inside in
    inject_valid c.args.self.now c.args.who c.requires c.networks_fit.ensures

pub invariant_of-self : goal.invariant_of-self
invariant_of-self c =
    let p = parts c.self.inside in
    let room = ap (λ (log : LogState). log.room) c.note.ensures.log in
    let more = c.note.ensures.events in
    let made = made_count-inject p.network.chip p.network.network c.inject.new.self.network c.args.who.by c.args.kind c.args.line c.in-Ok.ensures.ok in
    let kept =
    kept-network p c.inject.new.self c.note.new.self c.self.inside.hops c.self.invariant.0 c.in-Ok.ensures.sizes room (omega (arith, more)) (omega (arith, made)) (omega arith) in
    (kept, omega (arith, room, c.self.invariant.1))

pub returns-in-Ok-clause-ok : goal.returns-in-Ok-clause-ok
unfolding fabric_after_inject
returns-in-Ok-clause-ok c =
    let p = parts c.self.inside in
    rw (← c.self.view_is) (network_step p c.inject.new.self c.note.new.self _ c.self.inside.hops _ c.in-Ok.ensures.ok c.in-Ok.ensures.sizes c.note.ensures.log)

pub returns-in-Err-clause-err : goal.returns-in-Err-clause-err
unfolding fabric_after_inject
returns-in-Err-clause-err c = rw (← c.self.view_is) (no_step _ _ c.in-Err.ensures.err)
