-- From what a command did with its document to what it did with its input.
use Rattle.std.proofs.Common.{◌≡◌, ◌≤◌, ℕ, List, length, Option, Some, None, Result, Ok, Err, refl, sym, subst}
use Rattle.std.specs.Prelude.{IfSome, IfErr}
use Rattle.outside_io.specs.Streams.{Stream, Appends, AppendsPart, Writes}
use Rattle.report_text.specs.declared.report.Report.{Report}
use Rattle.doc_text.specs.declared.document.Document.{Document}
use Rattle.doc_text.specs.Doc.{Doc, doc_of}
use Rattle.mesh_doc.specs.Reading.{reading}
use Rattle.load_gen.specs.Load.{load}
use Rattle.commands.specs.declared.command.Command.{Command}
use Rattle.commands.specs.declared.stop.Stop.{Stop}
use Rattle.commands.specs.declared.stop.Stop.TheVariants.{Usage, Document as Faulty, ReadFault, WriteFault, NoMemory, TooLong}
use Rattle.commands.specs.Arguments.{load_of}
use Rattle.commands.specs.Input.{OfDocument, input_limit}
use Rattle.commands.specs.Outcome.{Did, IsRead, IsTaken, Ran}
use Rattle.commands.specs.Texts.{IsTextOf, IsReportOf, HasReport, told_of}

-- what follows for each document follows for that of a command
of_document : (number : Option ℕ) (input : Option (List ℕ)) (Holds Wanted : Doc → Type 0) → ((doc : Doc) → Holds doc → Wanted doc)
    → OfDocument number input Holds → OfDocument number input Wanted
of_document (Some number) input Holds Wanted so held = so (load number) held
of_document None None Holds Wanted so held = tt
of_document None (Some bytes) Holds Wanted so (doc, is, held) = (doc, is, so doc held)

-- a document that the input describes
described : (input : Option (List ℕ)) (document : Doc) → IfSome input (λ bytes. (length bytes ≤ input_limit) × (reading bytes ≡ Ok document))
    → OfDocument None input (λ doc. doc ≡ document)
described None document reads = tt
described (Some bytes) document reads = (document, record { limited = reads.0; accepted = reads.1 }, refl)

-- what was read is the document of a command that makes no load
pub read_is_taken : (source : Stream) (result : Result Document Stop) → IsRead source result → IsTaken None source result
read_is_taken source (Ok document) read = described source.old (doc_of document) read
read_is_taken source (Err NoMemory) read = tt
read_is_taken source (Err Usage) read = (refl, read)
read_is_taken source (Err (Faulty fault)) read = (refl, read)
read_is_taken source (Err ReadFault) read = (refl, read)
read_is_taken source (Err WriteFault) read = (refl, read)
read_is_taken source (Err TooLong) read = (refl, read)

-- a command that has no document writes nothing
pub ran_without : (command : Command) (source sink : Stream) (left : ℕ) (stop : Stop) → IsTaken (load_of command) source (Err stop) → sink.new ≡ sink.old
    → Ran command source sink left None (Err stop)
ran_without command source sink left NoMemory taken same = (same, refl)
ran_without command source sink left Usage taken same = absurd taken.1
ran_without command source sink left (Faulty fault) taken same = (taken.0, taken.1, same, refl)
ran_without command source sink left ReadFault taken same = (taken.0, taken.1, same, refl)
ran_without command source sink left WriteFault taken same = absurd taken.1
ran_without command source sink left TooLong taken same = (taken.0, taken.1, same, refl)

-- what was written of a document was written of that of the command
written_for : (command : Command) (document : Doc) (input : Option (List ℕ)) (left : ℕ) (report : Option Report) (Out : List ℕ → Type 0)
    → OfDocument (load_of command) input (λ doc. doc ≡ document) → (text : List ℕ) × IsTextOf command document left report text × Out text
    → OfDocument (load_of command) input (λ doc. (text : List ℕ) × IsTextOf command doc left report text × Out text)
written_for command document input left report Out taken written =
    of_document (load_of command) input (λ doc. doc ≡ document) (λ doc. (text : List ℕ) × IsTextOf command doc left report text × Out text)
    (λ doc is. subst (λ (d : Doc). (text : List ℕ) × IsTextOf command d left report text × Out text) (sym is) written) taken

pub ran : (command : Command) (document : Doc) (source sink : Stream) (left : ℕ) (report : Option Report) (result : Result Unit Stop)
    → OfDocument (load_of command) source.old (λ doc. doc ≡ document) → Did command document sink left report result → Ran command source sink left report result
ran command document source sink left report (Ok done) taken did = (written_for command document source.old left report (Appends sink.old sink.new) taken did.0, did.1)
ran command document source sink left report (Err WriteFault) taken did =
    (written_for command document source.old left report (AppendsPart sink.old sink.new) taken did.0, did.1, did.2)
ran command document source sink left report (Err NoMemory) taken did = did
ran command document source sink left report (Err Usage) taken did = absurd did
ran command document source sink left report (Err (Faulty fault)) taken did = absurd did
ran command document source sink left report (Err ReadFault) taken did = absurd did
ran command document source sink left report (Err TooLong) taken did = absurd did

-- what a command tells of its report was written
pub report_was_written : (command : Command) (doc : Doc) (sink : Stream) (left : ℕ) (report : Report) (result : Result Unit Stop)
    → IsReportOf command doc left report → HasReport command (Some report) → Writes sink (told_of command report) result → IfErr result (λ stop. stop ≡ WriteFault)
    → Did command doc sink left (Some report) result
report_was_written command doc sink left report (Ok done) is has writes fault = ((told_of command report, (is, refl), writes.ok), has)
report_was_written command doc sink left report (Err stop) is has writes fault =
    subst (λ (end : Stop). Did command doc sink left (Some report) (Err end)) (sym fault) ((told_of command report, (is, refl), writes.err), writes.fault, has)
