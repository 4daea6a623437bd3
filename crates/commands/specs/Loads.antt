-- The summary that `gen` writes of the run of a load.
use Rattle.std.specs.Prelude.{ℕ, List, [], ◌∷◌, length, codes, slice_get, unwrap_or}
use Rattle.report_text.specs.declared.report.Report.{Report}
use Rattle.report_text.specs.Lines.{joined_words, text_of_lines}
use Rattle.report_text.specs.Rows.{finish_words}
use Rattle.report_text.specs.Report.{count_row}

-- the word that a run left at an address, and 0 where the run was not finished
abbrev pub word_left : Report → ℕ → ℕ
word_left report address = unwrap_or (slice_get report.memory address) 0

-- the number of the load, how its run ended, the token and the counter that it left, and how many requests, windows and
-- events it had
abbrev pub summary_lines : ℕ → Report → List (List ℕ)
summary_lines number report =
    count_row (codes "load") number ∷ joined_words (finish_words report.ended) ∷ count_row (codes "token") (word_left report 0)
    ∷ count_row (codes "counter") (word_left report 4) ∷ count_row (codes "requests") (length report.requests)
    ∷ count_row (codes "windows") report.windows ∷ count_row (codes "events") (length report.journal) ∷ []

-- the text of these lines
abbrev pub summary_text : ℕ → Report → List ℕ
summary_text number report = text_of_lines (summary_lines number report)
