use Rattle.std.specs.Prelude.{◌-◌}
use Rattle.net_iface.specs.Moves.{moves_done, most_moves}
use Rattle.broadcast.specs.Sweeps.{Passes}
use Rattle.broadcast.proofs.passes.settle.Given as goal

-- whole passes went by
abbrev pub invariant-loop-net : goal.invariant-loop-net
invariant-loop-net l = Passes l.initial.net l.net

-- how many more moves there may be
abbrev pub decreases-loop-net : goal.decreases-loop-net
decreases-loop-net l = most_moves l.net.chip l.net.network - moves_done l.net.network
