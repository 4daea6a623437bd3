use Rattle.std.proofs.Common.{arith}
use Rattle.order_tracker.proofs.Words.{has_tile-without}
use Rattle.order_tracker.proofs.tile_set.without.Goals as goal

pub returns-clause-tiles : goal.returns-clause-tiles
returns-clause-tiles c = λ u. has_tile-without c.args.set c.args.t u (omega arith) c.requires
