-- What a command did, by the way it ended.
use Rattle.std.specs.Prelude.{◌≡◌, ◌≤◌, ℕ, List, length, Option, None, IfSome, Result, Ok, Err}
use Rattle.outside_io.specs.Streams.{Stream, Rose, Appends, AppendsPart}
use Rattle.report_text.specs.declared.report.Report.{Report}
use Rattle.doc_text.specs.declared.document.Document.{Document}
use Rattle.doc_text.specs.Doc.{Doc, doc_of}
use Rattle.mesh_doc.specs.Reading.{reading}
use Rattle.commands.specs.declared.command.Command.{Command}
use Rattle.commands.specs.declared.stop.Stop.{Stop}
use Rattle.commands.specs.declared.stop.Stop.TheVariants.{Usage, Document as Faulty, ReadFault, WriteFault, NoMemory, TooLong}
use Rattle.commands.specs.Arguments.{load_of}
use Rattle.commands.specs.Input.{HasFault, OfDocument, WritesFor, WritesPartFor, IsTooLong, input_limit}
use Rattle.commands.specs.Texts.{IsTextOf, HasReport}

-- of writing a text: all of it, or a prefix after the sink failed, or nothing where there is no memory
abbrev pub Wrote : Stream → List ℕ → Result Unit Stop → Type 0
Wrote sink text (Ok done) = Appends sink.old sink.new text
Wrote sink text (Err WriteFault) = AppendsPart sink.old sink.new text × Rose sink.before sink.now
Wrote sink text (Err NoMemory) = sink.new ≡ sink.old
Wrote sink text (Err _) = ⊥

-- of writing one of the texts of which this holds: all of it, or a prefix after the sink failed, or nothing where there is
-- no memory
abbrev pub WroteSome : (List ℕ → Type 0) → Stream → Result Unit Stop → Type 0
WroteSome IsText sink (Ok done) = (text : List ℕ) × IsText text × Appends sink.old sink.new text
WroteSome IsText sink (Err WriteFault) = ((text : List ℕ) × IsText text × AppendsPart sink.old sink.new text) × Rose sink.before sink.now
WroteSome IsText sink (Err NoMemory) = sink.new ≡ sink.old
WroteSome IsText sink (Err _) = ⊥

-- of a command that has its document, with this report or none, and so many rounds left out
abbrev pub Did : Command → Doc → Stream → ℕ → Option Report → Result Unit Stop → Type 0
Did command doc sink left report (Ok done) = ((text : List ℕ) × IsTextOf command doc left report text × Appends sink.old sink.new text) × HasReport command report
Did command doc sink left report (Err WriteFault) =
    ((text : List ℕ) × IsTextOf command doc left report text × AppendsPart sink.old sink.new text) × Rose sink.before sink.now × HasReport command report
Did command doc sink left report (Err NoMemory) = (sink.new ≡ sink.old) × (report ≡ None)
Did command doc sink left report (Err _) = ⊥

-- of reading a document: it is that of the input, where this is told, or the cause of the refusal
abbrev pub IsRead : Stream → Result Document Stop → Type 0
IsRead source (Ok document) = IfSome source.old (λ bytes. (length bytes ≤ input_limit) × (reading bytes ≡ Ok (doc_of document)))
IsRead source (Err (Faulty fault)) = IfSome source.old (λ bytes. HasFault bytes fault)
IsRead source (Err ReadFault) = Rose source.before source.now
IsRead source (Err NoMemory) = Unit
IsRead source (Err TooLong) = IsTooLong source.old source.new
IsRead source (Err _) = ⊥

-- of getting the document of a command: it is the one, or the cause of the refusal. Only where it is read is there another
-- cause than memory
abbrev pub IsTaken : Option ℕ → Stream → Result Document Stop → Type 0
IsTaken number source (Ok document) = OfDocument number source.old (λ doc. doc ≡ doc_of document)
IsTaken number source (Err NoMemory) = Unit
IsTaken number source (Err stop) = (number ≡ None) × IsRead source (Err stop)

-- of a command that gets its document and writes its text: what was written, the report, and the cause of each refusal
abbrev pub Ran : Command → Stream → Stream → ℕ → Option Report → Result Unit Stop → Type 0
Ran command source sink left report (Ok done) = WritesFor command source.old left report sink.old sink.new × HasReport command report
Ran command source sink left report (Err Usage) = ⊥
Ran command source sink left report (Err (Faulty fault)) =
    (load_of command ≡ None) × IfSome source.old (λ bytes. HasFault bytes fault) × (sink.new ≡ sink.old) × (report ≡ None)
Ran command source sink left report (Err ReadFault) = (load_of command ≡ None) × Rose source.before source.now × (sink.new ≡ sink.old) × (report ≡ None)
Ran command source sink left report (Err WriteFault) = WritesPartFor command source.old left report sink.old sink.new × Rose sink.before sink.now × HasReport command report
Ran command source sink left report (Err NoMemory) = (sink.new ≡ sink.old) × (report ≡ None)
Ran command source sink left report (Err TooLong) = (load_of command ≡ None) × IsTooLong source.old source.new × (sink.new ≡ sink.old) × (report ≡ None)
