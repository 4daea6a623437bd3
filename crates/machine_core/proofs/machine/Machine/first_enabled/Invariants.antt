use Rattle.std.proofs.Common.{◌≡◌, ℕ, ◌<◌, false, Some}
use Rattle.std.specs.Prelude.{slice_get}
use Rattle.report_text.specs.declared.event.Event.{Event}
use Rattle.chip_model.specs.Chip.{chip_of}
use Rattle.chip_model.specs.Runs.{enabled}
use Rattle.chip_model.specs.Schedules.{slots}
use Rattle.machine_core.proofs.machine.Machine.first_enabled.Given as goal

abbrev pub invariant-loop-k : goal.invariant-loop-k
invariant-loop-k g l = (j : ℕ) (e : Event) → j < l.k → slice_get (slots (chip_of l.self.document)) j ≡ Some e
    → enabled g.U.Unit.behaviour (chip_of l.self.document) l.self.state e ≡ false
