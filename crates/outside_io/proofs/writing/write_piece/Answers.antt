use Rattle.std.proofs.Common.{◌++◌, take, arith}
use Rattle.outside_io.proofs.Pieces.{Appends-then, split_further}
use Rattle.outside_io.proofs.writing.write_piece.Goals as goal

pub loop-rest-preserved : goal.loop-rest-preserved
loop-rest-preserved g c =
    let so_far = c.loop-rest.invariant.0 in
    let after = c.split_at.ensures.back in (
      (
        so_far.0 ++ take c.in-Ok.count c.loop-rest.rest.now,
        rw after (split_further c.args.piece.now so_far.0 c.loop-rest.rest.now c.in-Ok.count so_far.1),
        Appends-then _ _ _ so_far.0 _ so_far.2 c.in-Ok.ensures.appended,
      ),
      omega arith,
    )
