-- The zeros left out so far are not shown.
use Rattle.std.proofs.Common.{◌≡◌, length}
use Rattle.doc_text.specs.Canonical.{shown_words}
use Rattle.doc_text.proofs.memory.shown_words.Given as goal

abbrev pub invariant-loop-last : goal.invariant-loop-last
invariant-loop-last l = shown_words l.words ≡ shown_words l.shown

abbrev pub decreases-loop-last : goal.decreases-loop-last
decreases-loop-last l = length l.shown
