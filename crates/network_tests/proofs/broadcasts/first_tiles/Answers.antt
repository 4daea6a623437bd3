use Rattle.std.proofs.Common.{◌++◌, ◌∷◌, [], ap, sym, ◌∙◌, List, ℕ}
use Rattle.network_tests.proofs.FirstTiles.{next_tile}
use Rattle.network_tests.proofs.broadcasts.first_tiles.Goals as goal

pub loop-t-preserved : goal.loop-t-preserved
loop-t-preserved c = rw (c.in_ok-push.ensures.items, c.loop-t.invariant) (sym (next_tile c.loop-t.t))
