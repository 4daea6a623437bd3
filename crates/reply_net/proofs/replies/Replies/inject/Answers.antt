use Rattle.std.proofs.Common.{◌≡◌, ◌<◌, arith, None}
use Rattle.mesh_gen.specs.declared.port.Port.TheVariants.{L}
use Rattle.mesh_gen.specs.Grid.{tiles}
use Rattle.mesh_gen.specs.Mesh.{grid}
use Rattle.mesh_gen.specs.Ports.{port_number}
use Rattle.vc_bank.specs.Channels.{lowest_free}
use Rattle.chip_model.specs.Copies.{channels_of}
use Rattle.reply_net.proofs.Steps.{seen_free, free_found, none_free, sent_into, not_sent, total-put_free}
use Rattle.reply_net.proofs.Sound.{sound-put, few_messages}
use Rattle.reply_net.proofs.replies.Replies.inject.Goals as goal

nothing_free : (c : goal.In_default) → lowest_free (channels_of c.self.inside.banks.items c.args.r) (port_number L) ≡ None
nothing_free c = seen_free _ _ _ _ _ _ c.deref.ensures.value c.free_slot.ensures c.in_default.is

pub returns-in_default-clause-err : goal.returns-in_default-clause-err
returns-in_default-clause-err c = rw (← c.self.view_is) (not_sent _ _ _ (nothing_free c))

pub returns-in_default-clause-full : goal.returns-in_default-clause-full
returns-in_default-clause-full c = rw (← c.self.view_is) (none_free c.self.inside.banks.items c.args.r (nothing_free c))

pub put_into-requires : goal.put_into-requires
put_into-requires c = (omega arith, free_found c.self.inside.banks.items c.args.r (port_number L) c.in-Some.slot (seen_free _ _ _ _ _ _ c.deref.ensures.value c.free_slot.ensures c.in-Some.is))

pub overflow_add-self : goal.overflow_add-self
overflow_add-self c = let few = few_messages (grid c.self.inside.mesh) c.self.inside.banks.items c.self.invariant.0 in let count = c.self.invariant.1 in omega arith

pub invariant_of-self : goal.invariant_of-self
invariant_of-self c =
    let free = free_found c.self.inside.banks.items c.args.r (port_number L) c.in-Some.slot (seen_free _ _ _ _ _ _ c.deref.ensures.value c.free_slot.ensures c.in-Some.is) in
    let inside : c.args.msg.to < tiles (grid c.self.inside.mesh) = rw (← c.self.view_is) at c.requires in (
      sound-put (grid c.self.inside.mesh) c.self.inside.banks.items c.put_into.new.banks.items c.args.r L c.in-Some.slot c.args.msg c.self.invariant.0 free inside tt c.put_into.ensures,
      let count = c.self.invariant.1 in let more = total-put_free (λ msg. 1) c.self.inside.banks.items c.args.r (port_number L) c.in-Some.slot c.args.msg free in rw c.put_into.ensures (omega arith),
    )

pub returns-clause-ok : goal.returns-clause-ok
returns-clause-ok c = rw (← c.self.view_is, c.put_into.ensures) (sent_into _ _ _ _ (seen_free _ _ _ _ _ _ c.deref.ensures.value c.free_slot.ensures c.in-Some.is))

pub returns-clause-adds : goal.returns-clause-adds
returns-clause-adds c = rw (← c.self.view_is, c.put_into.ensures) (λ weight. total-put_free weight c.self.inside.banks.items c.args.r (port_number L) c.in-Some.slot c.args.msg (free_found c.self.inside.banks.items c.args.r (port_number L) c.in-Some.slot (seen_free _ _ _ _ _ _ c.deref.ensures.value c.free_slot.ensures c.in-Some.is)))
