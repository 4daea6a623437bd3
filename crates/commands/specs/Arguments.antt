-- The arguments of each command.
use Rattle.std.specs.Prelude.{ℕ, ◌&&◌, nat_le, List, [], ◌∷◌, Option, Some, None, option_map, codes, if◌then◌else◌}
use Rattle.std.specs.Str.{bytes_eq}
use Rattle.std.specs.Bool.{⊤}
use Rattle.mesh_gen.specs.Limits.{IsFrom}
use Rattle.mesh_gen.specs.Partial.{◌>>=◌}
use Rattle.core_isa.specs.Operands.{is_digits, number_value}
use Rattle.commands.specs.declared.command.Command.{Command}
use Rattle.commands.specs.declared.command.Command.TheVariants.{Order, Show, Deliver, Step, Run, Gen, GenText}
use Rattle.commands.specs.declared.options.StepOption.{StepOption}
use Rattle.commands.specs.declared.options.StepOption.TheVariants.{Pace, Budget}

-- the greatest pace
abbrev pub most_pace : ℕ
most_pace = 4294967295

-- the greatest number of a load
abbrev pub most_load : ℕ
most_load = 4294967295

-- the greatest budget of events
abbrev pub most_budget : ℕ
most_budget = 4000000

-- the budget where none is named
abbrev pub default_budget : ℕ
default_budget = 1000000

-- the number of a word of one or more digits, where it is within these limits
abbrev pub number_within : ℕ → ℕ → List ℕ → Option ℕ
number_within least most word =
    if is_digits word && (nat_le least (number_value word) && nat_le (number_value word) most) then Some (number_value word) else None

-- the number of a load that a word is
abbrev pub load_numbered : List ℕ → Option ℕ
load_numbered word = number_within 0 most_load word

-- the budget that a word is
abbrev pub budget_numbered : List ℕ → Option ℕ
budget_numbered word = number_within 1 most_budget word

-- the option of a name and a number
abbrev pub option_named : List ℕ → List ℕ → Option StepOption
option_named name number =
    if bytes_eq name (codes "--pace") then option_map Pace (number_within 0 most_pace number)
    else if bytes_eq name (codes "--budget") then option_map Budget (budget_numbered number)
    else None

-- `step` with one option; the other one has its default
abbrev pub step_by : StepOption → Command
step_by (Pace pace) = Step pace default_budget
step_by (Budget budget) = Step 0 budget

-- `step` with both, in either order; neither may stand twice
abbrev pub step_by_both : StepOption → StepOption → Option Command
step_by_both (Pace pace) (Budget budget) = Some (Step pace budget)
step_by_both (Budget budget) (Pace pace) = Some (Step pace budget)
step_by_both one other = None

-- the number of an option is within its limits
abbrev pub IsWithinLimits : StepOption → Type 0
IsWithinLimits (Pace pace) = ⊤
IsWithinLimits (Budget budget) = IsFrom 1 most_budget budget

-- the numbers of a command are within their limits
abbrev pub KeepsLimits : Command → Type 0
KeepsLimits (Step pace budget) = IsFrom 1 most_budget budget
KeepsLimits (Run budget) = IsFrom 1 most_budget budget
KeepsLimits command = ⊤

-- the number of the load that a command makes, in place of a document that it reads
abbrev pub load_of : Command → Option ℕ
load_of (Gen number) = Some number
load_of (GenText number) = Some number
load_of command = None

-- the command that one word is the form of
abbrev pub named : List ℕ → Option Command
named word =
    if bytes_eq word (codes "order") then Some Order
    else if bytes_eq word (codes "show") then Some Show
    else if bytes_eq word (codes "deliver") then Some Deliver
    else if bytes_eq word (codes "step") then Some (Step 0 default_budget)
    else if bytes_eq word (codes "run") then Some (Run default_budget)
    else None

-- the command of these arguments; none where they are the form of no command
abbrev pub command_named : List (List ℕ) → Option Command
command_named (word ∷ []) = named word
command_named (word ∷ number ∷ []) =
    if bytes_eq word (codes "gen") then option_map Gen (load_numbered number) else None
command_named (word ∷ second ∷ third ∷ []) =
    if bytes_eq word (codes "step") then option_map step_by (option_named second third)
    else if bytes_eq word (codes "run") && bytes_eq second (codes "--budget") then option_map Run (budget_numbered third)
    else if bytes_eq word (codes "gen") && bytes_eq third (codes "--text") then option_map GenText (load_numbered second)
    else None
command_named (word ∷ name ∷ number ∷ other_name ∷ other_number ∷ []) =
    if bytes_eq word (codes "step")
    then (do
      one ← option_named name number
      other ← option_named other_name other_number
      step_by_both one other)
    else None
command_named arguments = None
