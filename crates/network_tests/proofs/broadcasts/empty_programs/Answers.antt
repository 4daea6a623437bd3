use Rattle.std.proofs.Common.{length, ap, arith}
use Rattle.network_tests.proofs.broadcasts.empty_programs.Goals as goal

pub returns : goal.returns
returns c = let same = ap length c.new-2.ensures in omega (arith, same, c.loop.invariant)
