use Rattle.report_text.specs.declared.event.Event.TheVariants.{DataHop}
use Rattle.progress_core.proofs.JoinedSweeps.{told, still_messages_at, sweeps_none, sweeps_one_more}
use Rattle.progress_core.proofs.messages.hop_from.Goals as goal

pub returns-then-no_messages_at : goal.returns-then-no_messages_at
returns-then-no_messages_at g c =
    still_messages_at g.U.Unit.behaviour c.args.budget (DataHop c.args.r c.args.port) c.args.machine.now c.args.slots c.requires.within
    (told c.no_messages_at.result _ c.if-no_messages_at.true c.no_messages_at.ensures.hops)

pub loop-slot-init : goal.loop-slot-init
loop-slot-init g c = sweeps_none g.U.Unit.behaviour c.args.budget c.args.machine.now c.requires.within

pub loop-slot-preserved : goal.loop-slot-preserved
loop-slot-preserved g c =
    sweeps_one_more g.U.Unit.behaviour c.args.budget (DataHop c.args.r c.args.port) c.loop-slot.slot c.args.machine.now c.loop-slot.machine c.try_event.new.machine
    c.loop-slot.invariant c.try_event.ensures
