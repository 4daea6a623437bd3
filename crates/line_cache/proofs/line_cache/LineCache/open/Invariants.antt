-- The sets so far are empty.
use Rattle.std.proofs.Common.{◌≡◌, replicate, None}
use Rattle.line_cache.proofs.line_cache.LineCache.open.Given as goal

abbrev pub invariant-loop : goal.invariant-loop
invariant-loop l = l.sets.items ≡ replicate l.counter (replicate l.mesh.ways None)
