-- A cache: its sets, each a list of ways. A way is empty or holds a line with its state and its words.
use Rattle.std.specs.Prelude.{ℕ, ◌==◌, Bool, true, false, ◌||◌, List, [], ◌∷◌, Option, Some, None, is_some, option_map, slice_index_or, set, replicate, if◌then◌else◌}
use Rattle.chip_model.specs.declared.line_state.State.{State}
use Rattle.chip_model.specs.declared.line_state.State.TheVariants.{M, O, S}
use Rattle.chip_model.specs.declared.victim.Victim.{Victim}
use Rattle.chip_model.specs.declared.victim.Victim.TheVariants.{Empty, DropS, Put}
use Rattle.chip_model.specs.Chip.{Chip, set_number}

-- a copy of a line: its state and its words
pub record Held : Type 0 where
  pub line : ℕ
  pub state : State
  pub words : List ℕ

-- the ways of a set
abbrev pub Ways : Type 0
Ways = List (Option Held)

-- the sets of a cache
abbrev pub Cache : Type 0
Cache = List Ways

-- a cache that holds no line
abbrev pub empty_cache : Chip → Cache
empty_cache chip = replicate chip.sets (replicate chip.ways None)

-- a copy that others own
abbrev pub is_shared : State → Bool
is_shared S = true
is_shared M = false
is_shared O = false

-- the copy of a line among the ways of a set
abbrev pub found : ℕ → Ways → Option Held
found line [] = None
found line (None ∷ ways) = found line ways
found line (Some held ∷ ways) = if held.line == line then Some held else found line ways

-- a way is empty
abbrev pub has_empty : Ways → Bool
has_empty [] = false
has_empty (None ∷ ways) = true
has_empty (Some held ∷ ways) = has_empty ways

-- the ways with a line's way empty
abbrev pub emptied : ℕ → Ways → Ways
emptied line [] = []
emptied line (None ∷ ways) = None ∷ emptied line ways
emptied line (Some held ∷ ways) = if held.line == line then None ∷ emptied line ways else Some held ∷ emptied line ways

-- a copy in the way that holds its line
abbrev pub replaced : Held → Ways → Ways
replaced new [] = []
replaced new (None ∷ ways) = None ∷ replaced new ways
replaced new (Some held ∷ ways) = if held.line == new.line then Some new ∷ ways else Some held ∷ replaced new ways

-- a copy in the lowest empty way
abbrev pub filled : Held → Ways → Ways
filled new [] = []
filled new (None ∷ ways) = Some new ∷ ways
filled new (Some held ∷ ways) = Some held ∷ filled new ways

-- a copy in the way that holds its line, and else in the lowest empty way
abbrev pub placed : Held → Ways → Ways
placed new ways = if is_some (found new.line ways) then replaced new ways else filled new ways

-- the ways with the lowest shared one empty
abbrev pub freed : Ways → Option Ways
freed [] = None
freed (None ∷ ways) = option_map (λ rest. None ∷ rest) (freed ways)
freed (Some held ∷ ways) = if is_shared held.state then Some (None ∷ ways) else option_map (λ rest. Some held ∷ rest) (freed ways)

-- what the lowest way holds
abbrev pub lowest : Ways → Option Held
lowest [] = None
lowest (way ∷ ways) = way

-- the ways of the set to which a line belongs
abbrev pub ways_for : Chip → Cache → ℕ → Ways
ways_for chip cache line = slice_index_or cache (set_number chip line) []

-- the cache with other ways in the set of a line
abbrev pub with_ways : Chip → ℕ → Ways → Cache → Cache
with_ways chip line ways cache = set cache (set_number chip line) ways

-- the copy of a line
unfoldable pub lookup : Chip → Cache → ℕ → Option Held
lookup chip cache line = found line (ways_for chip cache line)

-- the set of a line has an empty way
unfoldable pub has_room : Chip → Cache → ℕ → Bool
has_room chip cache line = has_empty (ways_for chip cache line)

-- a line is in the cache, or may come in without another one leaving
unfoldable pub fits : Chip → Cache → ℕ → Bool
fits chip cache line = is_some (lookup chip cache line) || has_room chip cache line

-- the cache with a copy put into its set
unfoldable pub installed : Chip → Held → Cache → Cache
installed chip new cache = with_ways chip new.line (placed new (ways_for chip cache new.line)) cache

-- the cache without the copy of a line
unfoldable pub without_line : Chip → ℕ → Cache → Cache
without_line chip line cache = with_ways chip line (emptied line (ways_for chip cache line)) cache

-- the cache without the lowest shared line of a line's set
unfoldable pub without_shared : Chip → ℕ → Cache → Option Cache
without_shared chip line cache = option_map (λ ways. with_ways chip line ways cache) (freed (ways_for chip cache line))

-- what the lowest way of a line's set holds
unfoldable pub lowest_for : Chip → ℕ → Cache → Option Held
lowest_for chip line cache = lowest (ways_for chip cache line)

-- What leaves a full set before one more line comes in: its lowest shared line, and where none is shared the line of its
-- lowest way.

-- the line of the lowest way that is shared
abbrev pub lowest_shared : Ways → Option ℕ
lowest_shared [] = None
lowest_shared (None ∷ ways) = lowest_shared ways
lowest_shared (Some held ∷ ways) = if is_shared held.state then Some held.line else lowest_shared ways

-- the victim that has to be written back
abbrev pub put_of : Option Held → Victim
put_of None = Empty
put_of (Some held) = Put held.line

-- the shared line where there is one, and else what the lowest way holds
abbrev pub victim_among : Option ℕ → Option Held → Victim
victim_among (Some line) lowest = DropS line
victim_among None lowest = put_of lowest

-- the victim among the ways of a set
abbrev pub victim_of : Ways → Victim
victim_of ways = if has_empty ways then Empty else victim_among (lowest_shared ways) (lowest ways)

-- what has to leave before a line comes in
unfoldable pub victim : Chip → Cache → ℕ → Victim
victim chip cache line = victim_of (ways_for chip cache line)
