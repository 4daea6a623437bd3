-- The ways so far are empty.
use Rattle.std.proofs.Common.{◌≡◌, replicate, None}
use Rattle.line_cache.proofs.ways.empty_ways.Given as goal

abbrev pub invariant-loop : goal.invariant-loop
invariant-loop l = l.ways.items ≡ replicate l.counter None
