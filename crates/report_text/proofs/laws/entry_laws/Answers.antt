use Rattle.report_text.proofs.Packing.{tile_named-packed}
use Rattle.report_text.proofs.Journals.{events_of-append, length-recorded, words_record}
use Rattle.report_text.proofs.laws.entry_laws.Goals as goal

pub returns-clause-recorded : goal.returns-clause-recorded
returns-clause-recorded c = events_of-append

pub returns-clause-count : goal.returns-clause-count
returns-clause-count c = length-recorded

pub returns-clause-some : goal.returns-clause-some
returns-clause-some c = words_record

pub returns-clause-named : goal.returns-clause-named
returns-clause-named c = tile_named-packed
