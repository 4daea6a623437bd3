use Rattle.report_text.proofs.ReadBack.{journal_is_told}
use Rattle.report_text.proofs.laws.journal_is_read_back.Goals as goal

pub returns : goal.returns
returns c = journal_is_told
