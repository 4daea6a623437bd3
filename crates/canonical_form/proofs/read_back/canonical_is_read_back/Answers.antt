use Rattle.doc_text.specs.Doc.{doc_of}
use Rattle.canonical_form.proofs.read_back.canonical_is_read_back.Goals as goal

pub returns : goal.returns
returns c = c.canonical_doc_is_read.ensures.read (doc_of c.args.document.now) c.document_is_canonical.ensures
