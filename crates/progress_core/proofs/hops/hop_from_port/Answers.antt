use Rattle.chip_model.specs.Schedules.{hops_from}
use Rattle.progress_core.proofs.JoinedSweeps.{told, still_port, sweeps_none, sweeps_next}
use Rattle.progress_core.proofs.hops.hop_from_port.Goals as goal

pub returns-then-no_copies_at : goal.returns-then-no_copies_at
returns-then-no_copies_at g c =
    still_port g.U.Unit.behaviour c.args.budget c.args.machine.now c.args.r c.args.port c.args.slots c.requires.within
    (told c.no_copies_at.result _ c.if-no_copies_at.true c.no_copies_at.ensures.none)

pub loop-slot-init : goal.loop-slot-init
loop-slot-init g c = sweeps_none g.U.Unit.behaviour c.args.budget c.args.machine.now c.requires.within

pub loop-slot-preserved : goal.loop-slot-preserved
loop-slot-preserved g c =
    sweeps_next g.U.Unit.behaviour c.args.budget (hops_from c.args.r c.args.port) c.loop-slot.slot c.args.machine.now c.loop-slot.machine c.hop_by_sides.new.machine
    c.loop-slot.invariant c.hop_by_sides.ensures
