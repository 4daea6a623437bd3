use Rattle.std.specs.List.{flat_map}
use Rattle.order_tracker.specs.Order.{upwards}
use Rattle.broadcast.specs.Sweeps.{Sweeps, tile_moves}
use Rattle.broadcast.proofs.passes.pass.Given as goal

-- the tiles so far were swept through
abbrev pub invariant-loop-t : goal.invariant-loop-t
invariant-loop-t l = Sweeps (flat_map (tile_moves l.initial.net.chip) (upwards 0 l.t)) l.initial.net l.net l.moved
