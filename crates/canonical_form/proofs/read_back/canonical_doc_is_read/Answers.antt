use Rattle.canonical_form.proofs.CanonicalDocs.{canonical_read, canonical_apart}
use Rattle.canonical_form.proofs.read_back.canonical_doc_is_read.Goals as goal

pub returns-clause-read : goal.returns-clause-read
returns-clause-read c = canonical_read

pub returns-clause-apart : goal.returns-clause-apart
returns-clause-apart c = canonical_apart
