use Rattle.canonical_form.proofs.WholeText.{canonical-is_utf8, canonical-written}
use Rattle.canonical_form.proofs.laws.canonical_text_laws.Goals as goal

pub returns-clause-utf8 : goal.returns-clause-utf8
returns-clause-utf8 c = canonical-is_utf8

pub returns-clause-writes : goal.returns-clause-writes
returns-clause-writes c = canonical-written
