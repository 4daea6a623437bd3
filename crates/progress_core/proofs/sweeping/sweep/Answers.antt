use Rattle.std.proofs.Common.{◌≡◌, ◌<◌, ℕ, sym, ◌∙◌, ap, subst}
use Rattle.doc_text.specs.Doc.{Doc}
use Rattle.chip_model.specs.Chip.{chip_of}
use Rattle.chip_model.specs.ChipState.{ChipState}
use Rattle.chip_model.specs.Schedules.{slots, slot_count, swept}
use Rattle.progress_core.specs.Events.{events_between}
use Rattle.progress_core.proofs.SweptSlots.{swept_parts, two_parts}
use Rattle.progress_core.proofs.sweeping.sweep.Goals as goal

pub returns-clause-swept : goal.returns-clause-swept
returns-clause-swept g c =
    let b = g.U.Unit.behaviour in
    let old = c.args.machine.now in
    let chip = chip_of old.document in
    let offset = c.offset-offset.result in
    let first = c.sweep_between.ensures.swept in
    let second = c.sweep_between-2.ensures.swept in
    let tail : c.sweep_between.new.machine.state ≡ swept b chip c.args.budget old.state (events_between offset (slot_count chip) (slots chip)) =
    first.swept_is ∙ ap (λ (n : ℕ). swept b chip c.args.budget old.state (events_between offset n (slots chip))) c.slots-slots.ensures in
    let head : c.sweep_between-2.new.machine.state ≡ swept b chip c.args.budget c.sweep_between.new.machine.state (events_between 0 offset (slots chip)) =
    second.swept_is ∙ ap (λ (d : Doc). swept b (chip_of d) c.args.budget c.sweep_between.new.machine.state (events_between 0 offset (slots (chip_of d)))) first.same.document in
    record {
      offset = offset;
      answer = subst (λ (n : ℕ). (goal.F-post g c.args.pace.now) c.args.k n offset) c.slots-slots.ensures c.offset-offset.ensures.answer;
      below = subst (λ (n : ℕ). offset < n) c.slots-slots.ensures c.offset-offset.ensures.below;
      same = record { document = second.same.document ∙ first.same.document; room = second.same.room ∙ first.same.room };
      swept_is =
          head
          ∙ ap (λ (s : ChipState). swept b chip c.args.budget s (events_between 0 offset (slots chip))) tail
          ∙ sym (swept_parts b chip c.args.budget old.state (events_between offset (slot_count chip) (slots chip)) (events_between 0 offset (slots chip)))
          ∙ ap (swept b chip c.args.budget old.state) (sym (two_parts offset (slot_count chip) (slots chip) c.progresses.ensures.count));
    }
