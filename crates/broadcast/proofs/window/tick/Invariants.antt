use Rattle.broadcast.specs.Broadcasts.{TicksFor}
use Rattle.broadcast.proofs.window.tick.Given as goal

-- so many ticks passed
abbrev pub invariant-loop : goal.invariant-loop
invariant-loop l = TicksFor l.counter l.initial.net l.net
