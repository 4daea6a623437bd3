-- The text that each command writes of its document, and its report.
use Rattle.std.specs.Prelude.{◌≡◌, ◌≢◌, ℕ, Bool, true, false, List, Option, Some, None, is_some, Ok}
use Rattle.report_text.specs.declared.report.Report.{Report}
use Rattle.report_text.specs.Report.{report_text}
use Rattle.doc_text.specs.Doc.{Doc}
use Rattle.doc_text.specs.Canonical.{canonical}
use Rattle.mesh_doc.specs.Reading.{reading}
use Rattle.commands.specs.declared.command.Command.{Command}
use Rattle.commands.specs.declared.command.Command.TheVariants.{Order, Show, Deliver, Step, Run, Gen, GenText}
use Rattle.commands.specs.Arguments.{default_budget}
use Rattle.commands.specs.Line.{order_text}
use Rattle.commands.specs.Deliveries.{IsDelivered}
use Rattle.commands.specs.Loads.{summary_text}
use Rattle.commands.specs.Steps.{IsReportOfSteps}
use Rattle.commands.specs.Rounds.{IsReportOfRounds}

-- the canonical text of a document, which is read back as the same document
pub record IsShown (doc : Doc) (text : List ℕ) : Type 0 where
  pub canonical_is : text ≡ canonical doc
  pub read_back : reading text ≡ Ok doc

-- what a command that runs no machine writes of a document: its order, its canonical text, or what its broadcast delivers
abbrev pub IsPlainTextOf : Command → Doc → List ℕ → Type 0
IsPlainTextOf Order doc text = text ≡ order_text doc
IsPlainTextOf Show doc text = IsShown doc text
IsPlainTextOf Deliver doc text = IsDelivered doc text
IsPlainTextOf (GenText number) doc text = IsShown doc text
IsPlainTextOf command doc text = ⊥

-- the report of a command for a document, with so many rounds left out: only `step`, `run` and `gen` make one, `gen` at the
-- pace of the load's number
abbrev pub IsReportOf : Command → Doc → ℕ → Report → Type 0
IsReportOf (Step pace budget) doc left report = IsReportOfSteps pace budget doc report
IsReportOf (Run budget) doc left report = IsReportOfRounds budget left doc report
IsReportOf (Gen number) doc left report = IsReportOfSteps number default_budget doc report
IsReportOf command doc left report = ⊥

-- what a command writes of its report: `gen` a summary, and `step` and `run` all of it
abbrev pub told_of : Command → Report → List ℕ
told_of (Gen number) report = summary_text number report
told_of command report = report_text report

-- the text of a command for a document, beside its report, where it has one: the text is then what it writes of the report
abbrev pub IsTextOf : Command → Doc → ℕ → Option Report → List ℕ → Type 0
IsTextOf command doc left None text = IsPlainTextOf command doc text
IsTextOf command doc left (Some report) text = IsReportOf command doc left report × (text ≡ told_of command report)

-- whether a command runs a machine
abbrev pub runs_machine : Command → Bool
runs_machine (Step pace budget) = true
runs_machine (Run budget) = true
runs_machine (Gen number) = true
runs_machine command = false

-- a command that ran a machine has a report, and no other has
abbrev pub HasReport : Command → Option Report → Type 0
HasReport command report = is_some report ≡ runs_machine command

-- whether a command has a thread for each tile
abbrev pub runs_threads : Command → Bool
runs_threads (Run budget) = true
runs_threads command = false

-- only where there are threads is a round left out
abbrev pub LeavesOut : Command → ℕ → Type 0
LeavesOut command left = left ≢ 0 → runs_threads command ≡ true
