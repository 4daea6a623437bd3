use Rattle.std.proofs.Common.{◌≡◌, ◌≤◌, ℕ, ◌+◌, ◌-◌, arith, None}
use Rattle.vc_bank.specs.Channels.{in_slot, packet_count}
use Rattle.vc_bank.proofs.PacketCounts.{written_count}
use Rattle.vc_bank.proofs.slots.Slots.write.Goals as goal

pub overflow_sub-others : goal.overflow_sub-others
overflow_sub-others g c =
    let a = c.in-Some.ensures.item in
    let counted = written_count c.self.inside.slots.items c.from.result c.self.inside.packets c.in-Some.place.now c.args.packet a.3.0 c.self.invariant.1 (a.3.1 None) in
    omega (arith, counted.within, c.in_slot.ensures)

pub overflow_add-self : goal.overflow_add-self
overflow_add-self g c =
    let a = c.in-Some.ensures.item in
    let counted = written_count c.self.inside.slots.items c.from.result c.self.inside.packets c.in-Some.place.now c.args.packet a.3.0 c.self.invariant.1 (a.3.1 None) in
    record { fits = omega (arith, counted.few, c.in_slot-in-Some.ensures, c.in_slot.ensures, c.self.invariant.0) }

pub invariant_of-self : goal.invariant_of-self
invariant_of-self g c =
    let a = c.in-Some.ensures.item in
    let counted = written_count c.self.inside.slots.items c.from.result c.self.inside.packets c.in-Some.place.now c.args.packet a.3.0 c.self.invariant.1 (a.3.1 None) in
    (omega (arith, counted.length_is, c.self.invariant.0), omega (arith, counted.count_is, c.in_slot-in-Some.ensures, c.in_slot.ensures))
