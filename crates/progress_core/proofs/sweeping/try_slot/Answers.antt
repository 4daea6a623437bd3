use Rattle.std.proofs.Common.{sym, subst, List}
use Rattle.report_text.specs.declared.event.Event.{Event}
use Rattle.chip_model.specs.Chip.{chip_of}
use Rattle.chip_model.specs.Schedules.{slots}
use Rattle.progress_core.specs.Sweeping.{SweepsThrough}
use Rattle.progress_core.proofs.SweptSlots.{one_between}
use Rattle.progress_core.proofs.sweeping.try_slot.Goals as goal

pub returns : goal.returns
returns g c =
    let old = c.args.machine.now in
    subst (λ (events : List Event). SweepsThrough g.U.Unit.behaviour c.args.budget events old c.try_event.new.machine)
    (sym (one_between c.args.k (slots (chip_of old.document)) c.slot-event.result c.slot-event.ensures)) c.try_event.ensures
