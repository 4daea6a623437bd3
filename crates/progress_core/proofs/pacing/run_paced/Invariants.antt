use Rattle.std.proofs.Common.{◌≡◌, ◌+◌, ◌-◌, ◌≤◌, length}
use Rattle.progress_core.specs.Sweeping.{SweepsBy}
use Rattle.progress_core.proofs.pacing.run_paced.Given as goal

-- the sweeps so far, of which each has done an event
abbrev pub invariant-loop-budget : goal.invariant-loop-budget
invariant-loop-budget g l = record {
  so_far : SweepsBy g.U.Unit.behaviour (goal.F-post g l.pace) l.budget l.initial.machine l.machine;
  number : length so_far.offsets ≡ l.k;
  few : l.k + length l.initial.machine.state.journal ≤ length l.machine.state.journal;
  within : length l.machine.state.journal ≤ l.budget;
}

-- the events that the budget has left
abbrev pub decreases-loop-budget : goal.decreases-loop-budget
decreases-loop-budget g l = l.budget - length l.machine.state.journal
