-- How a command ends: its statuses.
use Rattle.std.specs.Prelude.{ℕ, Option, None, Some, Result, Ok, Err}
use Rattle.report_text.specs.declared.finish.Finish.{Finish}
use Rattle.report_text.specs.declared.finish.Finish.TheVariants.{Finished, Budget}
use Rattle.report_text.specs.declared.report.Report.{Report}
use Rattle.doc_text.specs.declared.fault.DocFault.{DocFault}
use Rattle.commands.specs.declared.stop.Stop.{Stop}
use Rattle.commands.specs.declared.stop.Stop.TheVariants.{Usage, Document, ReadFault, WriteFault, NoMemory, TooLong}
use Rattle.commands.specs.declared.outcome.Outcome.{Outcome}
use Rattle.scorpio_cli.specs.declared.ended.Ended.{Ended}

-- the number of a run's end, where its whole text was written
abbrev pub finish_status : Finish → ℕ
finish_status Finished = 0
finish_status Budget = 3

-- the number of an end by which the whole text was written: the budget of a run may be spent
abbrev pub written_status : Option Report → ℕ
written_status None = 0
written_status (Some report) = finish_status report.ended

-- the number of each other end
abbrev pub status_of : Stop → ℕ
status_of Usage = 1
status_of (Document fault) = 2
status_of ReadFault = 4
status_of WriteFault = 5
status_of NoMemory = 6
status_of TooLong = 7

-- the document's fault, where the end speaks of one
abbrev pub fault_of_stop : Stop → Option DocFault
fault_of_stop (Document fault) = Some fault
fault_of_stop _ = None

-- how the program ends by the report and the result of its command, and how many rounds this left out
abbrev pub ended_with : Option Report → ℕ → Result Unit Stop → Ended
ended_with report left (Ok done) = record { status = written_status report; at = 0; doc_fault = None; report = report; left = left }
ended_with report left (Err stop) = record { status = status_of stop; at = 0; doc_fault = fault_of_stop stop; report = report; left = left }

-- how it ends by how its command did
abbrev pub ended_of : Outcome → Ended
ended_of outcome = ended_with outcome.report outcome.left outcome.result
