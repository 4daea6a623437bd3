-- The posts so far, and then the ticks so far.
use Rattle.std.proofs.Common.{take}
use Rattle.notify_net.specs.Merge.{IsAtPhase}
use Rattle.commands.proofs.order.merge.Given as goal

abbrev pub invariant-loop-tile : goal.invariant-loop-tile
invariant-loop-tile l =
    IsAtPhase l.fn.latches.grid (take l.tile-index l.posts) 0 l.latches

abbrev pub invariant-loop : goal.invariant-loop
invariant-loop l = IsAtPhase l.fn.latches.grid l.posts l.counter l.latches
