use Rattle.doc_text.proofs.ShownWords.{shown_words-padded, shown_words-last}
use Rattle.doc_text.proofs.laws.shown_words_laws.Goals as goal

pub returns-clause-padded : goal.returns-clause-padded
returns-clause-padded c = shown_words-padded

pub returns-clause-ended : goal.returns-clause-ended
returns-clause-ended c = shown_words-last
