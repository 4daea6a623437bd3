-- The words are those of entries of one event each.
use Rattle.text_tests.proofs.OneEventWords.{AreOneEventWords}
use Rattle.text_tests.proofs.reports.journal_of.Given as goal

abbrev pub invariant-loop-event : goal.invariant-loop-event
invariant-loop-event l = AreOneEventWords l.words.items
