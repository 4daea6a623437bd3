use Rattle.std.proofs.Common.{◌<◌, length, sym, subst, arith}
use Rattle.std.specs.Prelude.{◌||◌, IsTrue, is_some}
use Rattle.chip_model.specs.Cache.{Ways, found, has_empty, placed}
use Rattle.chip_model.specs.NodeShape.{IsApart}
use Rattle.line_cache.proofs.Found.{Apart-placed, length-placed}
use Rattle.line_cache.proofs.cache_set.CacheSet.place.Goals as goal

pub invariant_of-self : goal.invariant_of-self
invariant_of-self c =
    let fits = subst (λ (ways : Ways). IsTrue (is_some (found c.args.held.line ways) || has_empty ways)) (sym c.self.view_is) c.requires in
    let some : 0 < length (placed c.args.held c.self.inside.ways.items) = omega (arith, c.self.invariant.0, length-placed c.args.held c.self.inside.ways.items) in
    subst (λ (ways : Ways). (0 < length ways) × IsApart ways) (sym c.place.ensures) (some, Apart-placed c.args.held c.self.inside.ways.items fits c.self.invariant.1)
