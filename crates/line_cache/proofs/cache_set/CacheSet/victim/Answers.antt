use Rattle.std.proofs.Common.{sym, ◌∙◌}
use Rattle.line_cache.proofs.Victims.{DropsSharedWay-read, IsVictimOfWays-read}
use Rattle.line_cache.proofs.cache_set.CacheSet.victim.Goals as goal

pub returns-in-Some-clause-room : goal.returns-in-Some-clause-room
returns-in-Some-clause-room c = DropsSharedWay-read c.args.self.now c.self.inside.ways.items c.as_slice-ways.result.now c.in-Some.line c.self.view_is c.as_slice-ways.ensures.value c.self.invariant
    (sym c.has_empty.ensures ∙ c.if-has_empty.false) (sym c.lowest_shared.ensures ∙ c.in-Some.is)

pub returns-in-None-clause-room : goal.returns-in-None-clause-room
returns-in-None-clause-room c = IsVictimOfWays-read c.args.self.now c.self.inside.ways.items c.as_slice-ways.result.now c.put_lowest.result c.self.view_is c.as_slice-ways.ensures.value c.self.invariant
    (sym c.has_empty.ensures ∙ c.if-has_empty.false) (sym c.lowest_shared.ensures ∙ c.in-None.is) c.put_lowest.ensures
