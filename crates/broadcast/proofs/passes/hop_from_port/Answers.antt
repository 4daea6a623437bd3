use Rattle.order_tracker.specs.Order.{upwards}
use Rattle.chip_model.specs.Schedules.{hops_from}
use Rattle.broadcast.proofs.Sweeping.{sweeps_next, still_port}
use Rattle.broadcast.proofs.passes.hop_from_port.Goals as goal

pub returns-then-is_vacant : goal.returns-then-is_vacant
returns-then-is_vacant c = still_port c.args.net.now c.args.router c.args.port c.is_vacant.result c.if-is_vacant.true c.is_vacant.ensures.none (upwards 0 c.args.slots)

pub loop-slot-preserved : goal.loop-slot-preserved
loop-slot-preserved c =
    sweeps_next (hops_from c.args.router c.args.port) c.loop-slot.slot c.args.net.now c.loop-slot.net c.hop_by_sides-moved.new.net c.loop-slot.moved c.hop_by_sides-moved.result
    c.loop-slot.invariant c.hop_by_sides-moved.ensures
