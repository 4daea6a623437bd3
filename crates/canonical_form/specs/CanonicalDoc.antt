-- Which documents have a canonical text that is read back.
use Rattle.std.specs.List.{AllByRecursion}
use Rattle.core_isa.specs.Program.{IsProgram}
use Rattle.doc_text.specs.Doc.{Doc}
use Rattle.mesh_doc.specs.Laws.{KeepsLimits}

-- the document keeps every limit, and each of its programs is one that a core may be given
pub record IsCanonicalDoc (doc : Doc) : Type 0 where
  pub keeps : KeepsLimits doc
  pub programs : AllByRecursion IsProgram doc.programs
