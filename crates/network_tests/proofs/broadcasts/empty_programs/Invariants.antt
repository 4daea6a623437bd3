use Rattle.std.proofs.Common.{◌≡◌, length}
use Rattle.network_tests.proofs.broadcasts.empty_programs.Given as goal

-- as many programs as rounds
abbrev pub invariant-loop : goal.invariant-loop
invariant-loop l = length l.programs.items ≡ l.counter
