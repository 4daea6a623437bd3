use Rattle.std.proofs.Common.{◌≡◌, arith}
use Rattle.vc_bank.proofs.banks.empty_banks.Goals as goal

pub returns : goal.returns
returns g c = let all : c.loop.counter ≡ c.args.routers = omega arith in rw (← all) c.loop.invariant
