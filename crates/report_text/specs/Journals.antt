-- A journal in packed words: each is the word of an entry, and records the entry's events.
use Rattle.std.specs.Prelude.{◌≡◌, ℕ, ◌/◌, ◌%◌, ◌^◌, List, [], ◌∷◌, ◌++◌, replicate, All, Option, Some, None}
use Rattle.std.specs.List.{flat_map}
use Rattle.report_text.specs.declared.entry.Entry.{Entry}
use Rattle.report_text.specs.declared.event.Event.{Event}
use Rattle.report_text.specs.declared.event.Event.TheVariants.{Core}
use Rattle.report_text.specs.Entry.{packed, IsValid}
use Rattle.report_text.specs.Unpacking.{entry_near}

-- the events that an entry records: those of its tile's core, and then its own
abbrev pub recorded : Entry → List Event
recorded entry = replicate entry.cores (Core entry.by) ++ entry.event ∷ []

-- a word is that of a valid entry
pub record IsEntryWord (word : ℕ) : Type 0 where
  pub entry : Entry
  pub valid : IsValid entry
  pub is : packed entry ≡ word

-- the words of a journal are those of valid entries
abbrev pub AreEntryWords : List ℕ → Type 0
AreEntryWords words = All IsEntryWord words

-- the events of an entry, where there is one
abbrev pub recorded_by : Option Entry → List Event
recorded_by None = []
recorded_by (Some entry) = recorded entry

-- the events that words record, in their order
abbrev pub events_of : List ℕ → List Event
events_of words = flat_map (λ word. recorded_by (entry_near word)) words

-- the tile that an entry's word names
abbrev pub tile_named : ℕ → ℕ
tile_named word = word / 2 ^ 20 % 64
