use Rattle.std.proofs.Common.{◌≡◌, replicate}
use Rattle.vc_bank.specs.Channels.{empty_channels}
use Rattle.vc_bank.proofs.banks.empty_banks.Given as goal

abbrev pub invariant-loop : goal.invariant-loop
invariant-loop g l = l.banks.items ≡ replicate l.counter (empty_channels l.normal l.reserved)
