use Rattle.std.proofs.Common.{sym, ◌∙◌, ap, arith}
use Rattle.mesh_gen.specs.Ports.{port_number}
use Rattle.vc_bank.specs.Channels.{slots_at}
use Rattle.chip_model.specs.Copies.{owes_tile}
use Rattle.router_xy.proofs.LocalPlaces.{first_owing, none_owing, none_vacant}
use Rattle.router_xy.proofs.local.slot_owing.Goals as goal

pub returns-then-is_vacant : goal.returns-then-is_vacant
returns-then-is_vacant c = sym (none_vacant c.args.id (slots_at c.args.bank.now (port_number c.args.port)) (sym c.is_vacant.ensures ∙ c.if-is_vacant.true))

pub returns-then-owes_tile : goal.returns-then-owes_tile
returns-then-owes_tile c =
    sym (first_owing c.args.id (slots_at c.args.bank.now (port_number c.args.port)) c.loop-slot.slot c.loop-slot.invariant
    (ap (owes_tile c.args.id) (sym c.at.ensures) ∙ sym c.owes_tile.ensures ∙ c.if-owes_tile.true))

pub returns : goal.returns
returns c = sym (none_owing c.args.id (slots_at c.args.bank.now (port_number c.args.port)) (λ k below. c.loop-slot.invariant k (omega (arith, c.slot_count-slot-end.ensures, below))))
