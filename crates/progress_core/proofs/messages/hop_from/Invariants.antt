use Rattle.std.specs.Prelude.{map}
use Rattle.order_tracker.specs.Order.{upwards}
use Rattle.report_text.specs.declared.event.Event.TheVariants.{DataHop}
use Rattle.progress_core.specs.Sweeping.{SweepsThrough}
use Rattle.progress_core.proofs.messages.hop_from.Given as goal

-- the channels so far were swept through
abbrev pub invariant-loop-slot : goal.invariant-loop-slot
invariant-loop-slot g l = SweepsThrough g.U.Unit.behaviour l.budget (map (DataHop l.r l.port) (upwards 0 l.slot)) l.initial.machine l.machine
