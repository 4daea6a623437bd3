-- The words so far are kept.
use Rattle.std.proofs.Common.{◌≡◌}
use Rattle.report_text.proofs.scanning.split_words.Given as goal

abbrev pub invariant-loop-word : goal.invariant-loop-word
invariant-loop-word l = l.words.items ≡ l.yielded
