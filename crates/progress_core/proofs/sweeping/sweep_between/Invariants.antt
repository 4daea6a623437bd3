use Rattle.std.proofs.Common.{◌≡◌, ◌≤◌, ◌-◌, length}
use Rattle.chip_model.specs.Chip.{chip_of}
use Rattle.chip_model.specs.Schedules.{slots, swept}
use Rattle.progress_core.specs.Events.{events_between}
use Rattle.progress_core.specs.Sweeping.{SameMachine}
use Rattle.progress_core.proofs.sweeping.sweep_between.Given as goal

-- what is left to sweep from here is what was left at the start
abbrev pub invariant-loop-k : goal.invariant-loop-k
invariant-loop-k g l = record {
  same : SameMachine l.initial.machine l.machine;
  ahead : swept g.U.Unit.behaviour (chip_of l.initial.machine.document) l.budget l.machine.state (events_between l.k l.last (slots (chip_of l.initial.machine.document)))
      ≡ swept g.U.Unit.behaviour (chip_of l.initial.machine.document) l.budget l.initial.machine.state (events_between l.first l.last (slots (chip_of l.initial.machine.document)));
  inside : l.k ≤ l.last;
  within : length l.machine.state.journal ≤ l.budget;
}

-- the slots that are left
abbrev pub decreases-loop-k : goal.decreases-loop-k
decreases-loop-k g l = l.last - l.k
