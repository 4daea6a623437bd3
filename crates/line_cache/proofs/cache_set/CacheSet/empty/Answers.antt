use Rattle.std.proofs.Common.{◌<◌, length, sym, subst, arith}
use Rattle.chip_model.specs.Cache.{Ways, emptied}
use Rattle.chip_model.specs.NodeShape.{IsApart}
use Rattle.line_cache.proofs.Found.{Apart-emptied, length-emptied}
use Rattle.line_cache.proofs.cache_set.CacheSet.empty.Goals as goal

pub invariant_of-self : goal.invariant_of-self
invariant_of-self c =
    let some : 0 < length (emptied c.args.line c.self.inside.ways.items) = omega (arith, c.self.invariant.0, length-emptied c.args.line c.self.inside.ways.items) in
    subst (λ (ways : Ways). (0 < length ways) × IsApart ways) (sym c.empty.ensures) (some, Apart-emptied c.args.line c.self.inside.ways.items c.self.invariant.1)
