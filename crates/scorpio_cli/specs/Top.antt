-- What the program does with arguments and bytes.
use Rattle.std.specs.Prelude.{◌≡◌, ◌⊎◌, ◌≤◌, ℕ, List, Option, None, Some, IsSome, IsTrue, true}
use Rattle.report_text.specs.declared.report.Report.{Report}
use Rattle.commands.specs.declared.command.Command.{Command}
use Rattle.commands.specs.Arguments.{command_named, load_of}
use Rattle.commands.specs.Input.{OfDocument, WritesFor, WritesPartFor}
use Rattle.commands.specs.Texts.{runs_machine, runs_threads, IsReportOf}

-- the arguments are the form of no command
abbrev pub IsNoForm : List (List ℕ) → Type 0
IsNoForm words = command_named words ≡ None

-- the arguments are those of a command that makes a load
pub record MakesLoad (words : List (List ℕ)) : Type 0 where
  pub command : Command
  pub named : command_named words ≡ Some command
  pub made : IsSome (load_of command)

-- the arguments are those of a command that reads a document
pub record ReadsDocument (words : List (List ℕ)) : Type 0 where
  pub command : Command
  pub named : command_named words ≡ Some command
  pub read : load_of command ≡ None

-- the statuses that speak of the input
abbrev pub SpeaksOfInput : ℕ → Type 0
SpeaksOfInput status = (status ≡ 2) ⊎ (status ≡ 4) ⊎ (status ≡ 7)

-- a whole text of the command that the arguments name was appended, for its document, and by its report where it has one
abbrev pub WritesText : List (List ℕ) → Option (List ℕ) → ℕ → Option Report → Option (List ℕ) → Option (List ℕ) → Type 0
WritesText words input left report old new = (command : Command) × (command_named words ≡ Some command) × WritesFor command input left report old new

-- a prefix of it was appended
abbrev pub WritesPart : List (List ℕ) → Option (List ℕ) → ℕ → Option Report → Option (List ℕ) → Option (List ℕ) → Type 0
WritesPart words input left report old new = (command : Command) × (command_named words ≡ Some command) × WritesPartFor command input left report old new

-- the statuses at which the whole text was written
abbrev pub HasWritten : ℕ → Type 0
HasWritten status = (status ≡ 0) ⊎ (status ≡ 3)

-- the arguments are those of a command that runs a machine, whose run came to its end: its text was written, or a write failed
pub record Reports (words : List (List ℕ)) (status : ℕ) : Type 0 where
  pub command : Command
  pub named : command_named words ≡ Some command
  pub runs : IsTrue (runs_machine command)
  pub ran : HasWritten status ⊎ (status ≡ 5)

-- it is the report of a run of the command's document, the one that the bytes describe or the load that the arguments name,
-- by the pace and the budget that they name, or by threads, with so many rounds left out
pub record IsRunOf (words : List (List ℕ)) (input : Option (List ℕ)) (left : ℕ) (report : Report) : Type 0 where
  pub command : Command
  pub named : command_named words ≡ Some command
  pub reported : OfDocument (load_of command) input (λ doc. IsReportOf command doc left report)

-- the arguments are those of a command that has a thread for each tile
pub record RunsByThreads (words : List (List ℕ)) : Type 0 where
  pub command : Command
  pub named : command_named words ≡ Some command
  pub threads : runs_threads command ≡ true

-- the statuses of this program
abbrev pub IsStatus : ℕ → Type 0
IsStatus status = status ≤ 7
