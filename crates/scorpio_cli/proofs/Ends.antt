-- What a command did, as the end of the program tells it.
use Rattle.std.proofs.Common.{◌≡◌, ◌⊎◌, ℕ, List, Option, Some, None, Result, Ok, Err, inl, inr, refl, sym, ◌∙◌, ap, arith}
use Rattle.std.specs.Prelude.{◌↔◌, IfSome, IsSome, is_some}
use Rattle.std.proofs.lemmas.Option.{same_Some}
use Rattle.outside_io.specs.Streams.{Stream, Appends, AppendsPart}
use Rattle.report_text.specs.declared.finish.Finish.{Finish}
use Rattle.report_text.specs.declared.finish.Finish.TheVariants.{Finished, Budget}
use Rattle.report_text.specs.declared.report.Report.{Report}
use Rattle.doc_text.specs.Doc.{Doc}
use Rattle.commands.specs.declared.command.Command.{Command}
use Rattle.commands.specs.declared.stop.Stop.{Stop}
use Rattle.commands.specs.declared.stop.Stop.TheVariants.{Usage, Document, ReadFault, WriteFault, NoMemory, TooLong}
use Rattle.commands.specs.Arguments.{command_named, load_of}
use Rattle.commands.specs.Input.{OfDocument}
use Rattle.commands.specs.Outcome.{Ran}
use Rattle.commands.specs.Texts.{IsTextOf, IsReportOf, runs_machine}
use Rattle.scorpio_cli.specs.Ended.{finish_status, written_status, ended_with}
use Rattle.scorpio_cli.specs.Top.{HasWritten, SpeaksOfInput, ReadsDocument, Reports, IsRunOf}

finished_or_spent : (finish : Finish) → HasWritten (finish_status finish)
finished_or_spent Finished = inl refl
finished_or_spent Budget = inr refl

-- the statuses of a whole text
whole_text : (report : Option Report) → HasWritten (written_status report)
whole_text None = inl refl
whole_text (Some report) = finished_or_spent report.ended

not_of_input : (status : ℕ) → HasWritten status → SpeaksOfInput status → ⊥
not_of_input status (inl zero_is) (inl two) = omega arith
not_of_input status (inl zero_is) (inr (inl four)) = omega arith
not_of_input status (inl zero_is) (inr (inr seven)) = omega arith
not_of_input status (inr three) (inl two) = omega arith
not_of_input status (inr three) (inr (inl four)) = omega arith
not_of_input status (inr three) (inr (inr seven)) = omega arith

other_than_input : (status : ℕ) → (status ≡ 5) ⊎ (status ≡ 6) → SpeaksOfInput status → ⊥
other_than_input status (inl five) (inl two) = omega arith
other_than_input status (inl five) (inr (inl four)) = omega arith
other_than_input status (inl five) (inr (inr seven)) = omega arith
other_than_input status (inr six) (inl two) = omega arith
other_than_input status (inr six) (inr (inl four)) = omega arith
other_than_input status (inr six) (inr (inr seven)) = omega arith

-- only a command that reads a document ends with a status that speaks of the input
pub only_readers : (words : List (List ℕ)) (command : Command) (source sink : Stream) (left : ℕ) (report : Option Report) (result : Result Unit Stop)
    → command_named words ≡ Some command → Ran command source sink left report result → SpeaksOfInput (ended_with report left result).status → ReadsDocument words
only_readers words command source sink left report (Ok done) named ran speaks = absurd (not_of_input (written_status report) (whole_text report) speaks)
only_readers words command source sink left report (Err Usage) named ran speaks = absurd ran
only_readers words command source sink left report (Err (Document fault)) named ran speaks = record { command = command; named = named; read = ran.0 }
only_readers words command source sink left report (Err ReadFault) named ran speaks = record { command = command; named = named; read = ran.0 }
only_readers words command source sink left report (Err WriteFault) named ran speaks = absurd (other_than_input 5 (inl refl) speaks)
only_readers words command source sink left report (Err NoMemory) named ran speaks = absurd (other_than_input 6 (inr refl) speaks)
only_readers words command source sink left report (Err TooLong) named ran speaks = record { command = command; named = named; read = ran.0 }

-- what follows for each document follows for that of a command
of_document : (number : Option ℕ) (input : Option (List ℕ)) (Holds Wanted : Doc → Type 0) → ((doc : Doc) → Holds doc → Wanted doc)
    → OfDocument number input Holds → OfDocument number input Wanted
of_document (Some number) input Holds Wanted so held = so _ held
of_document None None Holds Wanted so held = tt
of_document None (Some bytes) Holds Wanted so (doc, is, held) = (doc, is, so doc held)

no_report : {P : Type 0} (report : Report) → Some report ≡ None → P
no_report report e = absurd cc

-- a report is that of a run of the command's document
pub report_of_run : (words : List (List ℕ)) (command : Command) (source sink : Stream) (left : ℕ) (report : Option Report) (result : Result Unit Stop)
    → command_named words ≡ Some command → Ran command source sink left report result → IfSome report (IsRunOf words source.old left)
report_of_run words command source sink left None result named ran = tt
report_of_run words command source sink left (Some report) (Ok done) named ran = record {
  command = command;
  named = named;
  reported =
      of_document (load_of command) source.old (λ doc. (text : List ℕ) × IsTextOf command doc left (Some report) text × Appends sink.old sink.new text) (λ doc. IsReportOf command doc left report)
      (λ doc written. written.1.0) ran.0;
}
report_of_run words command source sink left (Some report) (Err WriteFault) named ran = record {
  command = command;
  named = named;
  reported =
      of_document (load_of command) source.old (λ doc. (text : List ℕ) × IsTextOf command doc left (Some report) text × AppendsPart sink.old sink.new text) (λ doc. IsReportOf command doc left report)
      (λ doc written. written.1.0) ran.0;
}
report_of_run words command source sink left (Some report) (Err Usage) named ran = absurd ran
report_of_run words command source sink left (Some report) (Err (Document fault)) named ran = no_report report ran.3
report_of_run words command source sink left (Some report) (Err ReadFault) named ran = no_report report ran.3
report_of_run words command source sink left (Some report) (Err NoMemory) named ran = no_report report ran.1
report_of_run words command source sink left (Some report) (Err TooLong) named ran = no_report report ran.3

same_command : (words : List (List ℕ)) (one other : Command) → command_named words ≡ Some one → command_named words ≡ Some other → one ≡ other
same_command words one other first second = same_Some one other (sym first ∙ second)

-- the arguments of a command that runs a machine are those of one that has a report
has_one : (words : List (List ℕ)) (command : Command) (report : Option Report) (status : ℕ) → command_named words ≡ Some command → is_some report ≡ runs_machine command
    → Reports words status → IsSome report
has_one words command report status named has reports =
    has ∙ ap runs_machine (same_command words command reports.command named reports.named) ∙ reports.runs

none_is_no_report : (report : Option Report) → report ≡ None → IsSome report → ⊥
none_is_no_report None none some = absurd cc
none_is_no_report (Some report) none some = no_report report none

-- the statuses of a command that does not come to writing
not_written : (status : ℕ) → (status ≡ 2) ⊎ (status ≡ 4) ⊎ (status ≡ 6) ⊎ (status ≡ 7) → HasWritten status ⊎ (status ≡ 5) → ⊥
not_written status (inl one) (inl (inl end)) = omega arith
not_written status (inl one) (inl (inr end)) = omega arith
not_written status (inl one) (inr end) = omega arith
not_written status (inr (inl one)) (inl (inl end)) = omega arith
not_written status (inr (inl one)) (inl (inr end)) = omega arith
not_written status (inr (inl one)) (inr end) = omega arith
not_written status (inr (inr (inl one))) (inl (inl end)) = omega arith
not_written status (inr (inr (inl one))) (inl (inr end)) = omega arith
not_written status (inr (inr (inl one))) (inr end) = omega arith
not_written status (inr (inr (inr one))) (inl (inl end)) = omega arith
not_written status (inr (inr (inr one))) (inl (inr end)) = omega arith
not_written status (inr (inr (inr one))) (inr end) = omega arith

-- exactly a command that runs a machine and comes to writing has a report
pub reports_exactly : (words : List (List ℕ)) (command : Command) (source sink : Stream) (left : ℕ) (report : Option Report) (result : Result Unit Stop)
    → command_named words ≡ Some command → Ran command source sink left report result → IsSome report ↔ Reports words (ended_with report left result).status
reports_exactly words command source sink left report (Ok done) named ran = (
  λ some. record { command = command; named = named; runs = sym ran.1 ∙ some; ran = inl (whole_text report) },
  λ reports. has_one words command report (written_status report) named ran.1 reports,
)
reports_exactly words command source sink left report (Err WriteFault) named ran =
    (λ some. record { command = command; named = named; runs = sym ran.2 ∙ some; ran = inr refl }, λ reports. has_one words command report 5 named ran.2 reports)
reports_exactly words command source sink left report (Err Usage) named ran = absurd ran
reports_exactly words command source sink left report (Err (Document fault)) named ran =
    (λ some. absurd (none_is_no_report report ran.3 some), λ reports. absurd (not_written 2 (inl refl) reports.ran))
reports_exactly words command source sink left report (Err ReadFault) named ran =
    (λ some. absurd (none_is_no_report report ran.3 some), λ reports. absurd (not_written 4 (inr (inl refl)) reports.ran))
reports_exactly words command source sink left report (Err NoMemory) named ran =
    (λ some. absurd (none_is_no_report report ran.1 some), λ reports. absurd (not_written 6 (inr (inr (inl refl))) reports.ran))
reports_exactly words command source sink left report (Err TooLong) named ran =
    (λ some. absurd (none_is_no_report report ran.3 some), λ reports. absurd (not_written 7 (inr (inr (inr refl))) reports.ran))
