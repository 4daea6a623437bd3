use Rattle.std.specs.List.{flat_map}
use Rattle.order_tracker.specs.Order.{upwards}
use Rattle.chip_model.specs.Schedules.{hops_from}
use Rattle.progress_core.specs.Sweeping.{SweepsThrough}
use Rattle.progress_core.proofs.hops.hop_from_port.Given as goal

-- the channels so far were swept through
abbrev pub invariant-loop-slot : goal.invariant-loop-slot
invariant-loop-slot g l = SweepsThrough g.U.Unit.behaviour l.budget (flat_map (hops_from l.r l.port) (upwards 0 l.slot)) l.initial.machine l.machine
