use Rattle.std.proofs.Common.{[], sym, ◌∙◌, ap, arith}
use Rattle.mesh_gen.specs.Ports.{port_number}
use Rattle.vc_bank.specs.Channels.{with_packet}
use Rattle.vc_bank.proofs.BankReads.{write_in, held_in, held_past}
use Rattle.vc_bank.proofs.banks.leave.Goals as goal

pub replace-requires : goal.replace-requires
replace-requires g c = let a = c.in-Some.ensures in (omega arith, held_in _ _ _ _ _ _ c.from.ensures (a.item.3.1 []) c.requires)

pub remove-requires : goal.remove-requires
remove-requires g c = let a = c.in-Some.ensures in (omega arith, held_in _ _ _ _ _ _ c.from.ensures (a.item.3.1 []) c.requires)

pub returns-in-Some-left : goal.returns-in-Some-left
returns-in-Some-left g c =
    let a = c.in-Some.ensures in
    write_in _ _ _ _ _ _ _ _ c.from.ensures (a.item.3.1 []) (c.replace.ensures.put ∙ ap (λ packet. with_packet c.in-Some.bank.now (port_number c.args.port) c.args.slot packet) (sym c.in-Some-left.is))

pub returns-in-None : goal.returns-in-None
returns-in-None g c =
    let a = c.in-Some.ensures in
    write_in _ _ _ _ _ _ _ _ c.from.ensures (a.item.3.1 []) (c.remove.ensures.removed ∙ ap (λ packet. with_packet c.in-Some.bank.now (port_number c.args.port) c.args.slot packet) (sym c.in-None.is))

pub returns-in_default : goal.returns-in_default
returns-in_default g c = let a = c.in_default.ensures in absurd (held_past _ _ _ _ _ c.from.ensures a.item.3 c.requires)
