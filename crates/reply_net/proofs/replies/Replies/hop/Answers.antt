use Rattle.std.proofs.Common.{sym, ◌∙◌, arith}
use Rattle.mesh_gen.specs.Mesh.{grid}
use Rattle.mesh_gen.specs.Ports.{port_number}
use Rattle.reply_net.proofs.Steps.{seen_at, seen_next, next_found, elsewhere, free_found, nothing_there, no_next, forwarded_to}
use Rattle.reply_net.proofs.Sound.{router_inside, free_beside, sound-put, sound-take, moves, stands_next, falls_next, kept_total}
use Rattle.reply_net.proofs.replies.Replies.hop.Goals as goal

pub returns-in_default-clause-err : goal.returns-in_default-clause-err
returns-in_default-clause-err c = rw (← c.self.view_is) (nothing_there _ _ _ _ _ (seen_at _ _ _ _ _ _ _ c.deref.ensures.value c.packet_at.ensures c.in_default.is))

pub next_channel-requires-clause-from : goal.next_channel-requires-clause-from
next_channel-requires-clause-from c = router_inside _ c.self.inside.banks.items c.args.r (port_number c.args.port) c.args.slot c.in-Some.msg c.self.invariant.0 (seen_at _ _ _ _ _ _ _ c.deref.ensures.value c.packet_at.ensures c.in-Some.is)

pub next_channel-requires-clause-to : goal.next_channel-requires-clause-to
next_channel-requires-clause-to c = (c.self.invariant.0.on_routes c.args.r c.args.port c.args.slot c.in-Some.msg (seen_at _ _ _ _ _ _ _ c.deref.ensures.value c.packet_at.ensures c.in-Some.is)).0

pub returns-in_default-next_channel-clause-err : goal.returns-in_default-next_channel-clause-err
returns-in_default-next_channel-clause-err c =
    rw (← c.self.view_is) (no_next _ _ _ _ _ c.in-Some.msg (seen_at _ _ _ _ _ _ _ c.deref.ensures.value c.packet_at.ensures c.in-Some.is) (seen_next _ _ _ _ _ _ _ c.deref-2.ensures.value c.next_channel.ensures c.in_default-next_channel.is))

pub put_into-requires : goal.put_into-requires
put_into-requires c =
    let net = c.self.inside.banks.items in
    let next = c.in-Some-next_channel.next in
    let found = next_found (grid c.self.inside.mesh) net c.args.r c.in-Some.msg next (seen_next _ _ _ _ _ _ _ c.deref-2.ensures.value c.next_channel.ensures c.in-Some-next_channel.is) in (
      omega arith,
      free_beside net c.leave.new.banks.items c.args.r (port_number c.args.port) c.args.slot next.router (port_number next.port) next.slot
          (elsewhere (grid c.self.inside.mesh) net c.args.r c.in-Some.msg next c.route_laws.ensures.nearer c.self.invariant.0.some found) c.leave.ensures
          (free_found net next.router (port_number next.port) next.slot found.lowest),
    )

pub invariant_of-self : goal.invariant_of-self
invariant_of-self c =
    let g = grid c.self.inside.mesh in
    let net = c.self.inside.banks.items in
    let mid = c.leave.new.banks.items in
    let msg = c.in-Some.msg in
    let next = c.in-Some-next_channel.next in
    let stood = seen_at c.deref.result.now net c.args.r (port_number c.args.port) c.args.slot _ _ c.deref.ensures.value c.packet_at.ensures c.in-Some.is in
    let found = next_found g net c.args.r msg next (seen_next _ _ _ _ _ _ _ c.deref-2.ensures.value c.next_channel.ensures c.in-Some-next_channel.is) in
    let other = elsewhere g net c.args.r msg next c.route_laws.ensures.nearer c.self.invariant.0.some found in
    let free = free_beside net mid c.args.r (port_number c.args.port) c.args.slot next.router (port_number next.port) next.slot other c.leave.ensures (free_found net next.router (port_number next.port) next.slot found.lowest) in
    let kept = kept_total (λ msg. 1) net mid c.put_into.new.banks.items c.args.r (port_number c.args.port) c.args.slot next.router (port_number next.port) next.slot msg stood c.leave.ensures free c.put_into.ensures in (
      sound-put g mid c.put_into.new.banks.items next.router next.port next.slot msg
          (sound-take g net mid c.args.r (port_number c.args.port) c.args.slot msg c.self.invariant.0 stood c.leave.ensures) free
          (c.self.invariant.0.on_routes c.args.r c.args.port c.args.slot msg stood).0 (stands_next g net c.args.r msg next c.route_laws.ensures.stands_on c.self.invariant.0.some found) c.put_into.ensures,
      c.self.invariant.1 ∙ sym kept,
    )

pub returns-clause-ok : goal.returns-clause-ok
returns-clause-ok c =
    rw (← c.self.view_is, c.put_into.ensures, c.leave.ensures)
    (forwarded_to _ _ _ _ _ c.in-Some.msg c.in-Some-next_channel.next (seen_at _ _ _ _ _ _ _ c.deref.ensures.value c.packet_at.ensures c.in-Some.is) (seen_next _ _ _ _ _ _ _ c.deref-2.ensures.value c.next_channel.ensures c.in-Some-next_channel.is))

pub returns-clause-keeps : goal.returns-clause-keeps
returns-clause-keeps c =
    let g = grid c.self.inside.mesh in
    let net = c.self.inside.banks.items in
    let mid = c.leave.new.banks.items in
    let msg = c.in-Some.msg in
    let next = c.in-Some-next_channel.next in
    let stood = seen_at c.deref.result.now net c.args.r (port_number c.args.port) c.args.slot _ _ c.deref.ensures.value c.packet_at.ensures c.in-Some.is in
    let found = next_found g net c.args.r msg next (seen_next _ _ _ _ _ _ _ c.deref-2.ensures.value c.next_channel.ensures c.in-Some-next_channel.is) in
    let other = elsewhere g net c.args.r msg next c.route_laws.ensures.nearer c.self.invariant.0.some found in
    let free = free_beside net mid c.args.r (port_number c.args.port) c.args.slot next.router (port_number next.port) next.slot other c.leave.ensures (free_found net next.router (port_number next.port) next.slot found.lowest) in
    rw (← c.self.view_is) (λ weight. kept_total weight net mid c.put_into.new.banks.items c.args.r (port_number c.args.port) c.args.slot next.router (port_number next.port) next.slot msg stood c.leave.ensures free c.put_into.ensures)

pub returns-clause-moves : goal.returns-clause-moves
returns-clause-moves c =
    let g = grid c.self.inside.mesh in
    let net = c.self.inside.banks.items in
    let mid = c.leave.new.banks.items in
    let msg = c.in-Some.msg in
    let next = c.in-Some-next_channel.next in
    let stood = seen_at c.deref.result.now net c.args.r (port_number c.args.port) c.args.slot _ _ c.deref.ensures.value c.packet_at.ensures c.in-Some.is in
    let found = next_found g net c.args.r msg next (seen_next _ _ _ _ _ _ _ c.deref-2.ensures.value c.next_channel.ensures c.in-Some-next_channel.is) in
    let other = elsewhere g net c.args.r msg next c.route_laws.ensures.nearer c.self.invariant.0.some found in
    let falls = falls_next g net c.args.r c.args.port msg next c.route_laws.ensures.ranks_there c.self.invariant.0.some (c.self.invariant.0.on_routes c.args.r c.args.port c.args.slot msg stood).1 found in
    rw (← c.self.view_is) (moves g net mid c.put_into.new.banks.items c.args.r c.args.port c.args.slot msg next other stood c.leave.ensures (free_found net next.router (port_number next.port) next.slot found.lowest) c.put_into.ensures falls)
