use Rattle.std.proofs.Common.{◌≡◌, refl, sym, ap, ◌∙◌, subst, arith, [], ◌∷◌, ◌++◌, get_or, ℕ}
use Rattle.report_text.specs.declared.entry.Entry.{Entry}
use Rattle.report_text.specs.declared.event.Event.TheVariants.{Tick}
use Rattle.report_text.specs.Entry.{IsValid}
use Rattle.text_tests.proofs.OneEventWords.{AreOneEventWords, no_words, one_word_more}
use Rattle.text_tests.proofs.reports.journal_of.Goals as goal
use Rattle.text_tests.proofs.reports.journal_of.Goals.{then-is_valid+in_ok-push, else-is_valid}

pub loop-event-init : goal.loop-event-init
loop-event-init c = subst AreOneEventWords (sym c.new-words.ensures.items) no_words

pub loop-event-preserved : goal.loop-event-preserved
loop-event-preserved c = elim c.if-is_valid.branch [
  | then-is_valid+in_ok-push w ↦ (
      let valid = (w.if-is_valid.ensures).0 refl in
      let entry : Entry = record { by = 0; cores = 0; event = get_or c.args.events.now c.loop-event.event-index Tick } in
      let pushed = w.in_ok-push.ensures.items ∙ ap (λ (word : ℕ). c.loop-event.words.items ++ word ∷ []) w.pack.ensures in
      rw (w.words-is, pushed) (one_word_more c.entry_laws.ensures.recorded c.entry_laws.ensures.count c.loop-event.words.items entry valid refl c.loop-event.invariant))
  | else-is_valid w ↦ rw w.words-is c.loop-event.invariant
]

pub new-requires-clause-words : goal.new-requires-clause-words
new-requires-clause-words c = c.loop-event.invariant.words

pub new-requires-clause-events : goal.new-requires-clause-events
new-requires-clause-events c = let h = c.loop-event.invariant.count in omega arith
