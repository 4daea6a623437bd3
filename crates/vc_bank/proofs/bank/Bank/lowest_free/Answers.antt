use Rattle.std.proofs.Common.{◌≡◌}
use Rattle.mesh_gen.specs.Ports.{port_number}
use Rattle.vc_bank.specs.Channels.{lowest_free}
use Rattle.vc_bank.proofs.FreeSlots.{least_found, none_found}
use Rattle.vc_bank.proofs.bank.Bank.lowest_free.Goals as goal

pub returns-clause-least : goal.returns-clause-least
returns-clause-least g c =
    let value : c.first_free.result ≡ lowest_free c.args.self.now (port_number c.args.port) = rw (← c.slots.ensures, ← c.normal.ensures) c.first_free.ensures in
    least_found c.args.self.now (port_number c.args.port) c.first_free.result value

pub returns-clause-none : goal.returns-clause-none
returns-clause-none g c =
    let value : c.first_free.result ≡ lowest_free c.args.self.now (port_number c.args.port) = rw (← c.slots.ensures, ← c.normal.ensures) c.first_free.ensures in
    none_found c.args.self.now (port_number c.args.port) c.first_free.result value
