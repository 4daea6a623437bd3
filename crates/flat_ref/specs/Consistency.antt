-- Sequential consistency by its parts: each core alone makes its own accesses, and reads the words that were
-- written last.
use Rattle.std.specs.Prelude.{◌≡◌, ℕ, true, ◌<◌, ◌==◌, List, ◌∷◌, ◌++◌, Option, Some, IsSome, All, filter, length, slice_get, slice_index}
use Rattle.std.specs.List.{fold}
use Rattle.core_isa.specs.declared.instr.Instr.{Instr}
use Rattle.core_isa.specs.Core.{CoreState, new_core}
use Rattle.report_text.specs.declared.access.Access.{Access}
use Rattle.report_text.specs.Accesses.{reads, read_by}
use Rattle.mesh_gen.specs.Partial.{◌>>=◌}
use Rattle.flat_ref.specs.Taking.{core_at, made_by}
use Rattle.flat_ref.specs.Order.{last_written}

-- the accesses of a tile, in their order
abbrev pub accesses_of : ℕ → List Access → List Access
accesses_of t accesses = filter (λ a. a.tile == t) accesses

-- the core after it made these accesses of its own, among so many words; none where it makes others
unfoldable pub made_all : ℕ → List Instr → CoreState → List Access → Option CoreState
made_all words program core accesses = fold (λ found a. found >>= λ before. made_by words program before a) (Some core) accesses

-- the core alone: it makes these accesses, and receives the words that they read, and then gets to its number of steps
abbrev pub run_alone : ℕ → List Instr → CoreState → List Access → ℕ → Option CoreState
run_alone words program core accesses number = made_all words program core accesses >>= λ last. core_at number program last

-- each access that reads received the value of the last write to its address before it, or else the word that was
-- there at first
abbrev pub ReadsLast : List ℕ → List Access → Type 0
ReadsLast memory accesses =
    (before rest : List Access) (a : Access) → accesses ≡ before ++ a ∷ rest → reads a.kind ≡ true → read_by a ≡ last_written a.address (slice_index memory a.address) before

-- each core alone makes its own accesses and gets to its number of steps, and reads the words that were
-- written last
pub record IsConsistent (programs : List (List Instr)) (memory : List ℕ) (accesses : List Access) (steps : List ℕ) : Type 0 where
  pub numbers : length steps ≡ length programs
  pub tiles : All (λ a. a.tile < length programs) accesses
  pub cores : (t n : ℕ) (program : List Instr) → slice_get programs t ≡ Some program → slice_get steps t ≡ Some n → IsSome (run_alone (length memory) program (new_core t) (accesses_of t accesses) n)
  pub reads : ReadsLast memory accesses
