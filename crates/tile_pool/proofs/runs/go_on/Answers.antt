use Rattle.std.proofs.Common.{◌≡◌, ◌∷◌, [], List, Some, length, length-append, sym, ◌∙◌, ap, arith}
use Rattle.std.specs.Prelude.{find}
use Rattle.report_text.specs.declared.event.Event.{Event}
use Rattle.chip_model.specs.Chip.{chip_of}
use Rattle.chip_model.specs.Runs.{enabled}
use Rattle.chip_model.specs.Schedules.{slots}
use Rattle.tile_pool.proofs.GoingOn.{found_passes, was_done}
use Rattle.tile_pool.proofs.runs.go_on.Goals as goal

pub returns-clause-goes : goal.returns-clause-goes
returns-clause-goes g c =
    let b = g.U.Unit.behaviour in
    let chip = chip_of c.args.machine.now.document in
    let s = c.args.machine.now.state in
    let first : find (enabled b chip s) (slots chip) ≡ Some c.in-Some.event = sym c.first_enabled.ensures.first ∙ c.in-Some.is in
    record {
      going = c.requires.going;
      event = c.in-Some.event;
      first = first;
      done = was_done b chip s c.step-done.new.self.state c.in-Some.event c.step-done.result (found_passes (enabled b chip s) (slots chip) c.in-Some.event first)
          c.step-done.ensures.ok c.step-done.ensures.err;
    }

pub returns-clause-count : goal.returns-clause-count
returns-clause-count g c =
    let b = g.U.Unit.behaviour in
    let chip = chip_of c.args.machine.now.document in
    let s = c.args.machine.now.state in
    let first : find (enabled b chip s) (slots chip) ≡ Some c.in-Some.event = sym c.first_enabled.ensures.first ∙ c.in-Some.is in
    let done = was_done b chip s c.step-done.new.self.state c.in-Some.event c.step-done.result (found_passes (enabled b chip s) (slots chip) c.in-Some.event first)
    c.step-done.ensures.ok c.step-done.ensures.err in
    omega (
      arith,
      ap (λ (journal : List Event). length journal) (c.bound_laws.ensures.noted b chip s c.step-done.new.self.state c.in-Some.event done),
      length-append s.journal (c.in-Some.event ∷ []),
    )
