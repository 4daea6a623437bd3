-- What an input of a command is.
use Rattle.std.specs.Prelude.{◌≡◌, ℕ, ◌<◌, ◌≤◌, ◌+◌, List, length, drop, Option, Some, None, IfSome, Ok, Err}
use Rattle.outside_io.specs.Streams.{Appends, AppendsPart}
use Rattle.report_text.specs.declared.report.Report.{Report}
use Rattle.doc_text.specs.declared.fault.DocFault.{DocFault}
use Rattle.doc_text.specs.Doc.{Doc}
use Rattle.mesh_doc.specs.Reading.{reading}
use Rattle.load_gen.specs.Load.{load}
use Rattle.commands.specs.declared.command.Command.{Command}
use Rattle.commands.specs.Arguments.{load_of}
use Rattle.commands.specs.Texts.{IsTextOf}

-- how many bytes an input may have
abbrev pub input_limit : ℕ
input_limit = 1048576

-- the bytes are within the limit, and describe this document
pub record Describes (bytes : List ℕ) (doc : Doc) : Type 0 where
  pub limited : length bytes ≤ input_limit
  pub accepted : reading bytes ≡ Ok doc

-- this holds of the document of a command: of the load of this number, or of the document that the input describes, if the
-- input is told
abbrev pub OfDocument : Option ℕ → Option (List ℕ) → (Doc → Type 0) → Type 0
OfDocument (Some number) input Holds = Holds (load number)
OfDocument None input Holds = IfSome input (λ bytes. (doc : Doc) × Describes bytes doc × Holds doc)

-- the bytes are within the limit, and have this first fault
pub record HasFault (bytes : List ℕ) (fault : DocFault) : Type 0 where
  pub limited : length bytes ≤ input_limit
  pub refused : reading bytes ≡ Err fault

-- a whole text of a command for its document was appended, that of its report where it has one
abbrev pub WritesFor : Command → Option (List ℕ) → ℕ → Option Report → Option (List ℕ) → Option (List ℕ) → Type 0
WritesFor command input left report old new = OfDocument (load_of command) input (λ doc. (text : List ℕ) × IsTextOf command doc left report text × Appends old new text)

-- a prefix of it was appended
abbrev pub WritesPartFor : Command → Option (List ℕ) → ℕ → Option Report → Option (List ℕ) → Option (List ℕ) → Type 0
WritesPartFor command input left report old new = OfDocument (load_of command) input (λ doc. (text : List ℕ) × IsTextOf command doc left report text × AppendsPart old new text)

-- more bytes came than the limit, of which one more than the limit was taken
abbrev pub IsTooLong : Option (List ℕ) → Option (List ℕ) → Type 0
IsTooLong input left = IfSome input (λ bytes. (input_limit < length bytes) × (left ≡ Some (drop (input_limit + 1) bytes)))
