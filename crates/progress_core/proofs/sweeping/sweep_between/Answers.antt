use Rattle.std.proofs.Common.{◌≡◌, ◌+◌, sym, ◌∙◌, ap, arith}
use Rattle.chip_model.specs.Chip.{chip_of}
use Rattle.chip_model.specs.ChipState.{ChipState}
use Rattle.chip_model.specs.Schedules.{slots, swept}
use Rattle.progress_core.specs.Events.{events_between}
use Rattle.progress_core.proofs.SweptSlots.{between_split, swept_parts}
use Rattle.progress_core.proofs.sweeping.sweep_between.Goals as goal

pub loop-k-preserved : goal.loop-k-preserved
loop-k-preserved g c =
    let b = g.U.Unit.behaviour in
    let chip = chip_of c.args.machine.now.document in
    let so_far = c.loop-k.invariant in
    let next = c.loop-k.k + c.pass_slots-k.result in
    let passed : c.pass_slots-k.new.machine.state ≡ swept b chip c.args.budget c.loop-k.machine.state (events_between c.loop-k.k next (slots chip)) =
    (rw so_far.same.document at c.pass_slots-k.ensures.swept.swept_is) in
    record {
      same = record { document = c.pass_slots-k.ensures.swept.same.document ∙ so_far.same.document; room = c.pass_slots-k.ensures.swept.same.room ∙ so_far.same.room };
      ahead =
          ap (λ (s : ChipState). swept b chip c.args.budget s (events_between next c.args.last (slots chip))) passed
          ∙ sym (swept_parts b chip c.args.budget c.loop-k.machine.state (events_between c.loop-k.k next (slots chip)) (events_between next c.args.last (slots chip)))
          ∙ ap (swept b chip c.args.budget c.loop-k.machine.state) (sym (between_split c.loop-k.k next c.args.last (slots chip) (omega arith) c.pass_slots-k.ensures.inside))
          ∙ so_far.ahead;
      inside = c.pass_slots-k.ensures.inside;
      within = c.pass_slots-k.ensures.within;
    }
