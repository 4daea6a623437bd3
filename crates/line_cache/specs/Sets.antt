-- The sets of a cache. Of a chip its rules need the number of sets alone.
use Rattle.std.specs.Prelude.{◌≡◌, ℕ, ◌%◌, true, false, IsTrue, IsSome, List, [], length, Some, None, slice_index_or}
use Rattle.chip_model.specs.declared.line_state.State.{State}
use Rattle.chip_model.specs.declared.victim.Victim.{Victim}
use Rattle.chip_model.specs.declared.victim.Victim.TheVariants.{Empty, DropS, Put}
use Rattle.chip_model.specs.Chip.{Chip}
use Rattle.chip_model.specs.Cache.{Held, Cache, is_shared, found, lookup, has_room, fits, without_line, without_shared, lowest_for}

-- the cache has as many sets as those of the chip
abbrev pub HasSets : Chip → Cache → Type 0
HasSets chip cache = length cache ≡ chip.sets

-- for such a chip the line is in the cache, or its set has an empty way
abbrev pub Fits : Cache → ℕ → Type 0
Fits cache line = (chip : Chip) × HasSets chip cache × IsTrue (fits chip cache line)

-- the copy of a line with this state and these words
abbrev pub copy_of : ℕ → State × List ℕ → Held
copy_of line copy = record { line = line; state = copy.0; words = copy.1 }

-- a line stands in its own set alone
abbrev pub AreInPlace : Cache → Type 0
AreInPlace cache = (set line : ℕ) → IsSome (found line (slice_index_or cache set [])) → line % length cache ≡ set

-- the set of a line is full; another line is its lowest shared one, without which the line has room
pub record DropsShared (chip : Chip) (cache : Cache) (line leaving : ℕ) : Type 0 where
  pub full : has_room chip cache line ≡ false
  pub dropped : without_shared chip line cache ≡ Some (without_line chip leaving cache)
  pub room : has_room chip (without_line chip leaving cache) line ≡ true
  pub held : Held
  pub there : lookup chip cache leaving ≡ Some held
  pub shared : is_shared held.state ≡ true

-- the set of a line is full, and none of its ways is shared; another line stands in the lowest one, without which the
-- line has room
pub record EvictsLowest (chip : Chip) (cache : Cache) (line leaving : ℕ) : Type 0 where
  pub full : has_room chip cache line ≡ false
  pub unshared : without_shared chip line cache ≡ None
  pub room : has_room chip (without_line chip leaving cache) line ≡ true
  pub held : Held
  pub lowest : lowest_for chip line cache ≡ Some held
  pub same : held.line ≡ leaving
  pub there : lookup chip cache leaving ≡ Some held
  pub owned : is_shared held.state ≡ false

-- what a victim says of the set of a line
abbrev pub IsVictim : Chip → Cache → ℕ → Victim → Type 0
IsVictim chip cache line Empty = has_room chip cache line ≡ true
IsVictim chip cache line (DropS leaving) = DropsShared chip cache line leaving
IsVictim chip cache line (Put leaving) = EvictsLowest chip cache line leaving
