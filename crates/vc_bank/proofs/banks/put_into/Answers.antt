use Rattle.std.proofs.Common.{[]}
use Rattle.vc_bank.proofs.BankReads.{write_in}
use Rattle.vc_bank.proofs.banks.put_into.Goals as goal

pub returns-in-Some : goal.returns-in-Some
returns-in-Some g c = let a = c.in-Some.ensures in write_in _ _ _ _ _ _ _ _ c.from.ensures (a.item.3.1 []) c.put.ensures.put
