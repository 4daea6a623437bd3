use Rattle.std.proofs.Common.{[]}
use Rattle.vc_bank.proofs.BankReads.{read_in, read_past}
use Rattle.vc_bank.proofs.banks.packet_at.Goals as goal

pub returns-in-Some : goal.returns-in-Some
returns-in-Some g c = let a = c.in-Some.ensures in read_in _ _ _ _ _ _ _ c.from.ensures (a.lookup.3.1 []) c.at.ensures

pub returns-in-None : goal.returns-in-None
returns-in-None g c = let a = c.in-None.ensures in read_past _ _ _ _ _ c.from.ensures a.lookup.3
