-- A cache that fills up: theorems that compute.
use Rattle.std.specs.Prelude.{◌≡◌, ℕ, [], ◌∷◌, Some, None, refl}
use Rattle.chip_model.specs.declared.line_state.State.{State}
use Rattle.chip_model.specs.declared.line_state.State.TheVariants.{M, O, S}
use Rattle.chip_model.specs.declared.victim.Victim.{Victim}
use Rattle.chip_model.specs.declared.victim.Victim.TheVariants.{Empty, DropS, Put}
use Rattle.chip_model.specs.Chip.{Chip, set_number}
use Rattle.chip_model.specs.Cache.{Cache, empty_cache, lookup, installed, without_line, victim}

-- one set of two ways
abbrev pub two_ways : Chip
two_ways = record {
  grid = record { cols = 1; rows = 1 };
  window = 1;
  vcs = 1;
  data_vcs = 1;
  lines = 16;
  sets = 1;
  ways = 2;
  controllers = 0 ∷ [];
}

-- a cache with one more copy
abbrev pub with_copy : ℕ → State → Cache → Cache
with_copy line state cache = installed two_ways (record { line = line; state = state; words = 5 ∷ 2 ∷ 3 ∷ 4 ∷ [] }) cache

-- an owned line and a shared one; then two owned ones; then one
abbrev pub owned_and_shared : Cache
owned_and_shared = with_copy 1 S (with_copy 0 M (empty_cache two_ways))

-- the same with both lines owned
abbrev pub both_owned : Cache
both_owned = with_copy 1 O owned_and_shared

-- the same without the first line
abbrev pub one_owned : Cache
one_owned = without_line two_ways 0 both_owned

-- what has to leave before line 2 comes in
abbrev pub leaving : Cache → Victim
leaving cache = victim two_ways cache 2

-- the victim of each of these caches
pub leaving_one_by_one : leaving owned_and_shared ∷ leaving both_owned ∷ leaving one_owned ∷ [] ≡ DropS 1 ∷ Put 0 ∷ Empty ∷ []
unfolding victim installed without_line set_number
leaving_one_by_one = refl

-- what the last one holds
pub copies_left : lookup two_ways one_owned 0 ∷ lookup two_ways one_owned 1 ∷ [] ≡ None ∷ Some (record { line = 1; state = O; words = 5 ∷ 2 ∷ 3 ∷ 4 ∷ [] }) ∷ []
unfolding lookup installed without_line set_number
copies_left = refl
