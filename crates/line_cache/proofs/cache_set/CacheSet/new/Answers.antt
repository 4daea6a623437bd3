use Rattle.std.proofs.Common.{arith}
use Rattle.line_cache.proofs.Found.{fresh}
use Rattle.line_cache.proofs.cache_set.CacheSet.new.Goals as goal

pub invariant_of-result : goal.invariant_of-result
invariant_of-result c = fresh c.args.ways c.empty_ways.result.items c.empty_ways.ensures (omega (arith, c.requires.low))
