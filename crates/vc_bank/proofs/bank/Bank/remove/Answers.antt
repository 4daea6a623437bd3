use Rattle.mesh_gen.specs.Ports.{port_number}
use Rattle.vc_bank.specs.Channels.{slots_at}
use Rattle.vc_bank.proofs.SlotWrites.{written_only, held_within}
use Rattle.vc_bank.proofs.bank.Bank.remove.Goals as goal

pub returns-clause-only : goal.returns-clause-only
returns-clause-only g c = written_only _ _ _ _ _ c.set.ensures (held_within (slots_at c.args.self.now (port_number c.args.port)) c.args.slot c.requires)
