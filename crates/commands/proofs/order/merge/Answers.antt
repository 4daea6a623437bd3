use Rattle.std.proofs.Common.{◌<◌, length, arith}
use Rattle.std.proofs.lemmas.List.{take_more}
use Rattle.commands.proofs.order.merge.Goals as goal

pub loop-tile-preserved : goal.loop-tile-preserved
loop-tile-preserved c =
    let within : c.loop-tile.tile-index < length c.args.posts.now = omega arith in
    rw (take_more c.args.posts.now c.loop-tile.tile-index 0 within) (c.post.ensures.phase _ _ c.loop-tile.invariant)

pub loop-preserved : goal.loop-preserved
loop-preserved c = c.tick.ensures.phase _ _ _ c.loop.invariant

pub returns-clause-merged : goal.returns-clause-merged
returns-clause-merged c = c.merged_at.ensures.whole _ _ _ c.loop.invariant (omega arith)
