-- The sequential order of a run's accesses, and the value that a line has at a place of the global order.
use Rattle.std.specs.Prelude.{ℕ, ◌==◌, Bool, ◌&&◌, ◌||◌, List, [], ◌∷◌, set, nat_lt, nat_le, if◌then◌else◌}
use Rattle.std.specs.List.{fold, filter}
use Rattle.report_text.specs.declared.access.Access.{Access}
use Rattle.report_text.specs.Accesses.{writes}
use Rattle.doc_text.specs.Doc.{Doc}
use Rattle.chip_model.specs.Chip.{line_of, word_of}
use Rattle.chip_model.specs.Node.{words_at}
use Rattle.chip_model.specs.ChipState.{ChipState}

-- one access comes before another: by time, then by tile, then by number
abbrev pub is_before : Access → Access → Bool
is_before a b =
    nat_lt a.time b.time || ((a.time == b.time) && (nat_lt a.tile b.tile || ((a.tile == b.tile) && nat_lt a.number b.number)))

-- the accesses with one more at its place: after those that come before it
abbrev pub inserted : Access → List Access → List Access
inserted a [] = a ∷ []
inserted a (b ∷ rest) = if is_before b a then b ∷ inserted a rest else a ∷ b ∷ rest

-- the accesses in sequence
abbrev pub in_sequence : List Access → List Access
in_sequence [] = []
in_sequence (a ∷ rest) = inserted a (in_sequence rest)

-- the accesses of a state in that order
unfoldable pub witness : ChipState → List Access
witness s = in_sequence s.accesses

-- an access that writes
abbrev pub is_write : Access → Bool
is_write access = writes access.kind

-- a write to a line at a place of the order, or before it
abbrev pub writes_by : ℕ → ℕ → Access → Bool
writes_by line place access = is_write access && (line_of access.address == line) && nat_le access.time place

-- the words of a line after one of its writes
abbrev pub with_write : List ℕ → Access → List ℕ
with_write words access = set words (word_of access.address) access.value

-- the words of a line at a place of the order: what the writes up to it make of the words before the first step
unfoldable pub line_value : Doc → List Access → ℕ → ℕ → List ℕ
line_value d accesses line place =
    fold with_write (words_at d.memory line) (filter (writes_by line place) (in_sequence accesses))
