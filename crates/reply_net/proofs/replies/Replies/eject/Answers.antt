use Rattle.std.proofs.Common.{arith}
use Rattle.mesh_gen.specs.Mesh.{grid}
use Rattle.mesh_gen.specs.Ports.{port_number}
use Rattle.reply_net.proofs.Steps.{seen_at, nothing_received, not_here, received_from, total-take}
use Rattle.reply_net.proofs.Sound.{sound-take}
use Rattle.reply_net.proofs.replies.Replies.eject.Goals as goal

pub returns-in_default-clause-err : goal.returns-in_default-clause-err
returns-in_default-clause-err c = rw (← c.self.view_is) (nothing_received _ _ _ _ (seen_at _ _ _ _ _ _ _ c.deref.ensures.value c.packet_at.ensures c.in_default.is))

pub returns-then-msg-r-clause-err : goal.returns-then-msg-r-clause-err
returns-then-msg-r-clause-err c = rw (← c.self.view_is) (not_here _ _ _ _ c.in-Some.msg (seen_at _ _ _ _ _ _ _ c.deref.ensures.value c.packet_at.ensures c.in-Some.is) c.if-msg-r.true)

pub overflow_sub-self : goal.overflow_sub-self
overflow_sub-self c =
    let count = c.self.invariant.1 in
    let one = total-take (λ msg. 1) c.self.inside.banks.items c.args.r (port_number c.args.port) c.args.slot c.in-Some.msg (seen_at _ _ _ _ _ _ _ c.deref.ensures.value c.packet_at.ensures c.in-Some.is) in
    omega arith

pub invariant_of-self : goal.invariant_of-self
invariant_of-self c =
    let net = c.self.inside.banks.items in
    let stood = seen_at c.deref.result.now net c.args.r (port_number c.args.port) c.args.slot _ _ c.deref.ensures.value c.packet_at.ensures c.in-Some.is in
    let count = c.self.invariant.1 in
    let one = total-take (λ msg. 1) net c.args.r (port_number c.args.port) c.args.slot c.in-Some.msg stood in
    (sound-take (grid c.self.inside.mesh) net c.leave.new.banks.items c.args.r (port_number c.args.port) c.args.slot c.in-Some.msg c.self.invariant.0 stood c.leave.ensures, rw c.leave.ensures (omega arith))

pub returns-clause-ok : goal.returns-clause-ok
returns-clause-ok c = rw (← c.self.view_is, c.leave.ensures) (received_from _ _ _ _ c.in-Some.msg (seen_at _ _ _ _ _ _ _ c.deref.ensures.value c.packet_at.ensures c.in-Some.is) c.if-msg-r.false)

pub returns-clause-takes : goal.returns-clause-takes
returns-clause-takes c =
    rw (← c.self.view_is, c.leave.ensures) (λ weight. total-take weight c.self.inside.banks.items c.args.r (port_number c.args.port) c.args.slot c.in-Some.msg (seen_at _ _ _ _ _ _ _ c.deref.ensures.value c.packet_at.ensures c.in-Some.is))
