-- What packed words record.
use Rattle.std.proofs.Common.{◌≡◌, ℕ, ◌+◌, ◌≤◌, List, [], ◌∷◌, ◌++◌, length, refl, sym, ap, subst, ◌∙◌, arith, replicate, drop, get_or, zero, suc, ◌<◌}
use Rattle.std.proofs.lemmas.Grind.{flat_map-append}
use Rattle.std.proofs.lemmas.List.{append-nil, length-append, length-replicate, drop_more, map-append}
use Rattle.report_text.specs.declared.entry.Entry.{Entry}
use Rattle.report_text.specs.declared.event.Event.{Event}
use Rattle.report_text.specs.declared.event.Event.TheVariants.{Core}
use Rattle.report_text.specs.Entry.{packed, IsValid}
use Rattle.report_text.specs.Unpacking.{entry_near}
use Rattle.report_text.specs.Journals.{recorded, recorded_by, IsEntryWord, AreEntryWords, events_of}
use Rattle.report_text.specs.Lines.{ended, text_of_lines}
use Rattle.report_text.specs.Report.{event_rows, event_line}
use Rattle.report_text.proofs.Packing.{entry_near-packed}

-- the word of an entry records the entry's events
pub recorded-packed : (entry : Entry) → IsValid entry → recorded_by (entry_near (packed entry)) ≡ recorded entry
recorded-packed entry valid = ap recorded_by (entry_near-packed entry valid)

-- one entry more
pub events_of-append : (words : List ℕ) (entry : Entry) → IsValid entry → events_of (words ++ packed entry ∷ []) ≡ events_of words ++ recorded entry
events_of-append words entry valid =
    flat_map-append (λ word. recorded_by (entry_near word)) words (packed entry ∷ [])
    ∙ ap (λ (events : List Event). events_of words ++ events) (append-nil (recorded_by (entry_near (packed entry))) ∙ recorded-packed entry valid)

-- it records those of the core, and one
pub length-recorded : (entry : Entry) → length (recorded entry) ≡ entry.cores + 1
length-recorded entry =
    length-append (replicate entry.cores (Core entry.by)) (entry.event ∷ []) ∙ ap (λ n. n + 1) (length-replicate entry.cores (Core entry.by))

-- each word records an event at least
word_records : (word : ℕ) → IsEntryWord word → 1 ≤ length (recorded_by (entry_near word))
word_records word is =
    subst (λ (w : ℕ). 1 ≤ length (recorded_by (entry_near w))) is.is
    (omega (arith, ap (λ (events : List Event). length events) (recorded-packed is.entry is.valid), length-recorded is.entry))

pub words_record : (words : List ℕ) → AreEntryWords words → length words ≤ length (events_of words)
words_record [] all = omega arith
words_record (word ∷ words) all =
    let rest : length (events_of (word ∷ words)) ≡ length (recorded_by (entry_near word)) + length (events_of words) =
    length-append (recorded_by (entry_near word)) (events_of words) in
    omega (arith, rest, word_records word (all 0 0 (omega arith)), words_record words (λ k d below. all (suc k) d (omega (arith, below))))

-- of what an entry records, the next one after so many is an event of the core, or in the end its own
pub next_of_core : (entry : Entry) (k : ℕ) → k < entry.cores → drop k (recorded entry) ≡ Core entry.by ∷ drop (k + 1) (recorded entry)
next_of_core entry k below = next entry.cores k below where
  next : (n k : ℕ) → k < n → drop k (replicate n (Core entry.by) ++ entry.event ∷ []) ≡ Core entry.by ∷ drop (k + 1) (replicate n (Core entry.by) ++ entry.event ∷ [])
  next zero k below = absurd (omega (arith, below))
  next (suc n) zero below = refl
  next (suc n) (suc k) below = let same : suc k + 1 ≡ suc (k + 1) = omega arith in next n k (omega (arith, below)) ∙ ap (λ m. Core entry.by ∷ drop m (replicate (suc n) (Core entry.by) ++ entry.event ∷ [])) (sym same)

pub own_last : (entry : Entry) → drop entry.cores (recorded entry) ≡ entry.event ∷ []
own_last entry = last entry.cores where
  last : (n : ℕ) → drop n (replicate n (Core entry.by) ++ entry.event ∷ []) ≡ entry.event ∷ []
  last zero = refl
  last (suc n) = last n

-- the events of the words from here on begin with those of the next word
pub events_of-drop : (words : List ℕ) (i : ℕ) → i < length words → events_of (drop i words) ≡ recorded_by (entry_near (get_or words i 0)) ++ events_of (drop (i + 1) words)
events_of-drop words i below = ap events_of (drop_more words i 0 below)

-- what the word of a valid entry records
pub records : (word : ℕ) (entry : Entry) → IsValid entry × (packed entry ≡ word) → recorded_by (entry_near word) ≡ recorded entry
records word entry is = ap (λ (w : ℕ). recorded_by (entry_near w)) (sym is.1) ∙ recorded-packed entry is.0

-- the text of the events of the words from here on begins with that of the next word
pub rows_of_next : (words : List ℕ) (i : ℕ) → i < length words
    → text_of_lines (event_rows (events_of (drop i words))) ≡ text_of_lines (event_rows (recorded_by (entry_near (get_or words i 0)))) ++ text_of_lines (event_rows (events_of (drop (i + 1) words)))
rows_of_next words i below =
    let now = recorded_by (entry_near (get_or words i 0)) in
    let rest = events_of (drop (i + 1) words) in
    ap (λ (events : List Event). text_of_lines (event_rows events)) (events_of-drop words i below)
    ∙ ap text_of_lines (map-append event_line now rest) ∙ flat_map-append ended (event_rows now) (event_rows rest)
