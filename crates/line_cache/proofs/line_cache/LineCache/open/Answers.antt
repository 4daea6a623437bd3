use Rattle.std.proofs.Common.{arith}
use Rattle.line_cache.proofs.Sets.{opened_more, opened_sets, opened_whole}
use Rattle.line_cache.proofs.line_cache.LineCache.open.Goals as goal

pub loop-preserved : goal.loop-preserved
loop-preserved c = opened_more c.loop.counter c.args.mesh.now.ways c.loop.sets.items c.push.new.self.items c.new.result c.loop.invariant c.in_ok-push.ensures.items c.new.ensures

pub invariant_of-result : goal.invariant_of-result
invariant_of-result c = opened_sets c.loop.counter c.args.mesh.now.ways c.loop.sets.items c.loop.invariant (omega (arith, c.loop-test.false, c.args.mesh.now.sets_limit.low))

pub returns : goal.returns
returns c = opened_whole c.loop.counter c.args.mesh.now.sets c.args.mesh.now.ways c.loop.sets.items c.loop.invariant (omega (arith, c.loop-test.false, c.loop.auto.counter-end))
