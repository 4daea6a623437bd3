use Rattle.std.proofs.Common.{[], ◌∙◌}
use Rattle.mesh_gen.specs.Ports.{port_number}
use Rattle.vc_bank.proofs.BankReads.{vacant_in, vacant_past, vacant_at}
use Rattle.vc_bank.proofs.banks.is_vacant.Goals as goal

pub returns-in-Some-clause-vacant : goal.returns-in-Some-clause-vacant
returns-in-Some-clause-vacant g c = let a = c.in-Some.ensures in c.is_vacant.ensures ∙ vacant_in _ _ _ _ _ c.from.ensures (a.lookup.3.1 [])

pub returns-in-Some-clause-none : goal.returns-in-Some-clause-none
returns-in-Some-clause-none g c = let a = c.in-Some.ensures in vacant_at _ _ _ _ (c.is_vacant.ensures ∙ vacant_in _ _ _ _ _ c.from.ensures (a.lookup.3.1 []))

pub returns-in-None-clause-vacant : goal.returns-in-None-clause-vacant
returns-in-None-clause-vacant g c = let a = c.in-None.ensures in vacant_past _ _ _ _ c.from.ensures a.lookup.3

pub returns-in-None-clause-none : goal.returns-in-None-clause-none
returns-in-None-clause-none g c = let a = c.in-None.ensures in vacant_at c.args.banks.now c.args.r (port_number c.args.port) _ (vacant_past _ _ _ _ c.from.ensures a.lookup.3)
