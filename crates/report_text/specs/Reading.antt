-- What is read from the lines of a report: its events.
use Rattle.std.specs.Prelude.{◌≡◌, ℕ, ◌+◌, Bool, ◌⊎◌, IsTrue, List, [], ◌∷◌, ◌++◌, length, filter, map, codes}
use Rattle.std.specs.List.{before_first, list_any, AllByRecursion}
use Rattle.std.specs.Str.{bytes_eq}
use Rattle.report_text.specs.declared.event.Event.{Event}
use Rattle.report_text.specs.Events.{IsWithinLimits}
use Rattle.report_text.specs.declared.fault.LinesEnd.{LinesEnd}
use Rattle.report_text.specs.declared.fault.LinesEnd.TheVariants.{EventFault, NoMemory}
use Rattle.report_text.specs.Lines.{is_space}
use Rattle.report_text.specs.Report.{event_line}

-- what stands before a line's first space, or the whole line
abbrev pub first_word : List ℕ → List ℕ
first_word line = before_first is_space line

-- the first words of the lines with a count, and of those of the lists but the journal's
abbrev pub count_row_words : List (List ℕ)
count_row_words =
    codes "requests" ∷ codes "seen" ∷ codes "accesses" ∷ codes "memory" ∷ codes "windows" ∷ codes "hops" ∷ codes "journal" ∷ []

-- the first words of the lines of the lists
abbrev pub item_row_words : List (List ℕ)
item_row_words = codes "q" ∷ codes "s" ∷ codes "a" ∷ codes "m" ∷ []

-- the first words of the lines of a report that tell no event
abbrev pub passed_words : List (List ℕ)
passed_words = count_row_words ++ item_row_words ++ codes "ended" ∷ []

-- such a line, whatever stands after its first word
abbrev pub is_passed : List ℕ → Bool
is_passed line = list_any (bytes_eq (first_word line)) passed_words

-- whether a line tells an event
abbrev pub begins_with_e : List ℕ → Bool
begins_with_e line = bytes_eq (first_word line) (codes "e")

-- a line is good where it tells no event, or is the line of one within the limits
abbrev pub IsGood : List ℕ → Type 0
IsGood line = IsTrue (is_passed line) ⊎ ((e : Event) × IsWithinLimits e × (line ≡ event_line e))

-- the events that lines tell: those that begin with the word `e` are the events' lines, and the others tell none
pub record Tells (lines : List (List ℕ)) (events : List Event) : Type 0 where
  pub told : filter begins_with_e lines ≡ map event_line events
  pub within : AllByRecursion IsWithinLimits events
  pub good : AllByRecursion IsGood lines

-- so many lines, of which the last is the first bad one
pub record IsFirstBadLine (lines : List (List ℕ)) (number : ℕ) : Type 0 where
  pub before : List (List ℕ)
  pub line : List ℕ
  pub after : List (List ℕ)
  pub split : lines ≡ before ++ line ∷ after
  pub counted : number ≡ length before + 1
  pub good : AllByRecursion IsGood before
  pub bad : IsGood line → ⊥

-- lines were not read: one is the first bad one, or out of memory
abbrev pub IsEndOf : List (List ℕ) → LinesEnd → Type 0
IsEndOf lines (EventFault line) = IsFirstBadLine lines line
IsEndOf lines NoMemory = Unit {0}
