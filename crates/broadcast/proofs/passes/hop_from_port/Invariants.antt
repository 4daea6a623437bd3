use Rattle.std.specs.List.{flat_map}
use Rattle.order_tracker.specs.Order.{upwards}
use Rattle.chip_model.specs.Schedules.{hops_from}
use Rattle.broadcast.specs.Sweeps.{Sweeps}
use Rattle.broadcast.proofs.passes.hop_from_port.Given as goal

-- the channels so far were swept through
abbrev pub invariant-loop-slot : goal.invariant-loop-slot
invariant-loop-slot l = Sweeps (flat_map (hops_from l.router l.port) (upwards 0 l.slot)) l.initial.net l.net l.moved
