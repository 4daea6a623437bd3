use Rattle.std.proofs.Common.{sym, ◌∙◌, arith}
use Rattle.flat_ref.proofs.Reached.{cores_from_more, cores_from_stuck, cores_from_all}
use Rattle.flat_ref.proofs.checking.reach_all.Goals as goal

pub returns-then-not-reach : goal.returns-then-not-reach
returns-then-not-reach c =
    sym c.loop-tile.invariant ∙ cores_from_stuck c.loop-tile.tile c.args.steps.now c.args.programs.now c.loop-tile.cores _ _ (omega arith) (omega arith) (omega arith) c.index-programs-tile.is c.if-not-reach.ensures.reached

pub loop-tile-preserved : goal.loop-tile-preserved
loop-tile-preserved c =
    cores_from_more c.loop-tile.tile c.args.steps.now c.args.programs.now c.loop-tile.cores _ _ _ (omega arith) (omega arith) (omega arith) c.index-programs-tile.is c.if-not-reach.ensures.reached ∙ c.loop-tile.invariant

pub returns : goal.returns
returns c =
    sym c.loop-tile.invariant ∙ cores_from_all c.loop-tile.tile c.args.steps.now c.args.programs.now c.loop-tile.cores (omega arith) (omega arith) (omega arith)
