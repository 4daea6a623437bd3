use Rattle.report_text.specs.declared.event.Event.TheVariants.{DataEject}
use Rattle.progress_core.proofs.JoinedSweeps.{told, still_messages, sweeps_messages}
use Rattle.progress_core.proofs.messages.eject_messages.Goals as goal

pub returns-then-no_messages : goal.returns-then-no_messages
returns-then-no_messages g c =
    still_messages g.U.Unit.behaviour c.args.budget (DataEject c.args.r) c.args.machine.now c.requires.within
    (told c.no_messages.result _ c.if-no_messages.true c.no_messages.ensures.ejects)

pub returns : goal.returns
returns g c =
    sweeps_messages g.U.Unit.behaviour c.args.budget (DataEject c.args.r) c.data_vcs-slots.result c.args.machine.now c.eject_from.new.machine c.eject_from-2.new.machine
    c.eject_from-3.new.machine c.eject_from-4.new.machine c.eject_from-5.new.machine c.data_vcs-slots.ensures
    c.eject_from.ensures c.eject_from-2.ensures c.eject_from-3.ensures c.eject_from-4.ensures c.eject_from-5.ensures
