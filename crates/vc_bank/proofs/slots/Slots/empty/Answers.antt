use Rattle.std.proofs.Common.{sym, ◌∙◌, ap, arith, length}
use Rattle.std.proofs.lemmas.List.{length-replicate}
use Rattle.vc_bank.specs.Channels.{packet_count}
use Rattle.vc_bank.proofs.PacketCounts.{packet_count-empty}
use Rattle.vc_bank.proofs.slots.Slots.empty.Goals as goal

pub invariant_of-result : goal.invariant_of-result
invariant_of-result g c =
    let count_is = ap length c.empty_slots.ensures ∙ length-replicate _ _ in
    (omega (arith, count_is, c.requires), sym (ap packet_count c.empty_slots.ensures ∙ packet_count-empty _ c.args.count))
