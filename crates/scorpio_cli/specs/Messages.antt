-- What is said on standard error.
use Rattle.std.specs.Prelude.{ℕ, ◌==◌, List, [], ◌++◌, codes, Option, Some, None, if◌then◌else◌}
use Rattle.doc_text.specs.declared.fault.DocFault.{DocFault}
use Rattle.doc_text.specs.Messages.{fault_text}
use Rattle.scorpio_cli.specs.declared.ended.Ended.{Ended}

-- the forms of the words
abbrev pub usage : List ℕ
usage = codes "usage:\n  scorpio order\n  scorpio show\n  scorpio deliver\n  scorpio step [--pace n] [--budget n]\n  scorpio run [--budget n]\n  scorpio gen n [--text]"

-- what is said of a status that comes without a fault of the document
abbrev pub said_of : ℕ → List ℕ
said_of status =
    if status == 1 then usage
    else if status == 3 then codes "scorpio: budget spent"
    else if status == 4 then codes "scorpio: read failed"
    else if status == 5 then codes "scorpio: write failed"
    else if status == 6 then codes "scorpio: out of memory"
    else if status == 7 then codes "scorpio: input too long"
    else []

-- what is said of a status: the fault of the document, where there is one
abbrev pub message_with : ℕ → Option DocFault → List ℕ
message_with status None = said_of status
message_with status (Some fault) = codes "scorpio: document: " ++ fault_text fault

-- what is said of an end
abbrev pub message : Ended → List ℕ
message ended = message_with ended.status ended.doc_fault
