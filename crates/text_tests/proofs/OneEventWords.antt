-- Words of entries that record one event each.
use Rattle.std.proofs.Common.{◌≡◌, ◌+◌, List, [], ◌∷◌, ◌++◌, length, ℕ, refl, ap, ◌∙◌, arith}
use Rattle.std.proofs.lemmas.List.{length-append}
use Rattle.std.proofs.lemmas.List.Elements.{All-append, All-cons}
use Rattle.report_text.specs.declared.entry.Entry.{Entry}
use Rattle.report_text.specs.declared.event.Event.{Event}
use Rattle.report_text.specs.Entry.{packed, IsValid}
use Rattle.report_text.specs.Journals.{recorded, IsEntryWord, AreEntryWords, events_of}

-- what is kept of the words
pub record AreOneEventWords (all : List ℕ) : Type 0 where
  pub words : AreEntryWords all
  pub count : length (events_of all) ≡ length all

pub no_words : AreOneEventWords []
no_words = record { words = λ k d below. absurd (omega (arith, below)); count = omega arith }

pub one_word_more : ((words : List ℕ) (entry : Entry) → IsValid entry → events_of (words ++ packed entry ∷ []) ≡ events_of words ++ recorded entry)
    → ((entry : Entry) → length (recorded entry) ≡ entry.cores + 1)
    → (words : List ℕ) (entry : Entry) → IsValid entry → entry.cores ≡ 0 → AreOneEventWords words → AreOneEventWords (words ++ packed entry ∷ [])
one_word_more more count words entry valid none is = record {
  words = All-append IsEntryWord words (packed entry ∷ []) is.words
      (All-cons IsEntryWord (packed entry) [] (record { entry = entry; valid = valid; is = refl }) (λ k d below. absurd (omega (arith, below))));
  count =
      let events : length (events_of (words ++ packed entry ∷ [])) ≡ length (events_of words) + length (recorded entry) =
      ap (λ (xs : List Event). length xs) (more words entry valid) ∙ length-append (events_of words) (recorded entry) in
      omega (arith, events, count entry, none, is.count, length-append words (packed entry ∷ []));
}
