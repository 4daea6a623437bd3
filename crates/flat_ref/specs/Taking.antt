-- Taking accesses on flat memory, one after another.
-- A new kind of access has a clause in `made`.
use Rattle.std.specs.Prelude.{◌≡◌, ℕ, Bool, ◌+◌, ◌<◌, ◌-◌, ◌%◌, ◌==◌, ◌&&◌, ◌||◌, not, nat_le, if◌then◌else◌, List, Option, Some, None, option_and_then, IsSome, length, take, slice_get, slice_index, slice_set}
use Rattle.std.specs.List.{fold}
use Rattle.mesh_gen.specs.Partial.{◌>>=◌}
use Rattle.core_isa.specs.declared.instr.Instr.{Instr}
use Rattle.core_isa.specs.declared.next.Next.{Next}
use Rattle.core_isa.specs.declared.next.Next.TheVariants as next
use Rattle.core_isa.specs.Core.{CoreState, next_of, advanced, loaded, stored}
use Rattle.report_text.specs.declared.access.Access.{Access}
use Rattle.report_text.specs.declared.access.AccessKind.{AccessKind}
use Rattle.report_text.specs.declared.access.AccessKind.TheVariants as kind
use Rattle.report_text.specs.Accesses.{reads, writes, word_after, read_by}
use Rattle.flat_ref.specs.declared.flat.Flat.{Flat}

-- the flat state of these cores and this memory
abbrev pub flat_of : List CoreState → List ℕ → Flat
flat_of cores memory = record { cores = cores; memory = memory }

-- the core once it has done this many instructions, register instructions from here on;
-- none where an access or a halt comes before, or it has done more already
unfoldable pub core_at : ℕ → List Instr → CoreState → Option CoreState
core_at number program core = if nat_le core.steps number then advanced program (number - core.steps) core else None

-- the core after the access, where it is of the kind and address of what the core does next, among so many words:
-- a load's register receives the value; a store's value is the register's; a swap's and an add's value is what they
-- leave by the register's value and the old word, which the register receives
abbrev pub made : ℕ → List Instr → CoreState → Access → Next → AccessKind → Option CoreState
made words program core a (next.Load rd address) kind.Load =
    if address % words == a.address then Some (loaded program a.value core) else None
made words program core a (next.Store address value) kind.Store =
    if (address % words == a.address) && (value == a.value) then Some (stored core) else None
made words program core a (next.Swap rd address value) kind.Swap =
    if (address % words == a.address) && (word_after kind.Swap value a.old == a.value)
    then Some (loaded program a.old core)
    else None
made words program core a (next.Add rd address value) kind.Add =
    if (address % words == a.address) && (word_after kind.Add value a.old == a.value)
    then Some (loaded program a.old core)
    else None
made words program core a _ _ = None

-- the core after it has got to the access and made it; none where it cannot
unfoldable pub made_by : ℕ → List Instr → CoreState → Access → Option CoreState
made_by words program core a = do
  ready ← core_at a.number program core
  made words program ready a (next_of program ready) a.kind

-- the access gave its core the word that is at its address, where it reads
abbrev pub reads_right : List ℕ → Access → Bool
reads_right memory a = not (reads a.kind) || (slice_index memory a.address == read_by a)

-- memory after the access, which has to read the word that is there; the value of one that writes becomes the word
abbrev pub memory_after : List ℕ → Access → Option (List ℕ)
memory_after memory a =
    if reads_right memory a
    then Some (if writes a.kind then slice_set memory a.address a.value else memory)
    else None

-- the cores and the memory after the core of its tile takes the access; none where there is no such tile or it cannot
unfoldable pub taken : List (List Instr) → Flat → Access → Option Flat
taken programs flat a = do
  program ← slice_get programs a.tile
  core ← slice_get flat.cores a.tile
  after ← made_by (length flat.memory) program core a
  words ← memory_after flat.memory a
  Some (flat_of (slice_set flat.cores a.tile after) words)

-- what the accesses leave, taken from first to last; none where one of them cannot be taken
unfoldable pub taken_all : List (List Instr) → Flat → List Access → Option Flat
taken_all programs flat accesses = fold (λ found a. found >>= λ before. taken programs before a) (Some flat) accesses

-- the access at this position is the first of these that cannot be taken
pub record StopsAt (programs : List (List Instr)) (flat : Flat) (accesses : List Access) (at : ℕ) : Type 0 where
  pub within : at < length accesses
  pub before : IsSome (taken_all programs flat (take at accesses))
  pub here : taken_all programs flat (take (at + 1) accesses) ≡ None
