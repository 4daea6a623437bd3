-- Budgets that arguments name are within their limits.
use Rattle.std.specs.Prelude.{IfSome}
use Rattle.commands.specs.declared.options.StepOption.{StepOption}
use Rattle.commands.specs.declared.options.StepOption.TheVariants.{Pace, Budget}
use Rattle.commands.specs.Arguments.{step_by_both, KeepsLimits, IsWithinLimits}

pub both_keep : (one other : StepOption) → IsWithinLimits one → IsWithinLimits other → IfSome (step_by_both one other) KeepsLimits
both_keep (Pace pace) (Budget budget) first second = second
both_keep (Budget budget) (Pace pace) first second = first
both_keep (Pace pace) (Pace other) first second = tt
both_keep (Budget budget) (Budget other) first second = tt
