-- Sequential executions of programs: one access after another on one memory.
use Rattle.std.specs.Prelude.{◌≡◌, ℕ, ◌+◌, ◌<◌, ◌≤◌, List, [], ◌∷◌, Option, Some, None, IsSome, option_map, length, map, take, slice_get}
use Rattle.std.specs.List.{range_with_len}
use Rattle.core_isa.specs.declared.instr.Instr.{Instr}
use Rattle.core_isa.specs.declared.next.Next.TheVariants.{Halted}
use Rattle.core_isa.specs.Core.{CoreState, new_core, next_of}
use Rattle.doc_text.specs.declared.document.Document.{Document}
use Rattle.report_text.specs.declared.access.Access.{Access}
use Rattle.flat_ref.specs.declared.flat.Flat.{Flat}
use Rattle.flat_ref.specs.declared.ending.CheckEnd.{CheckEnd}
use Rattle.flat_ref.specs.declared.ending.CheckEnd.TheVariants.{FirstBad, NoMemory}
use Rattle.mesh_gen.specs.Partial.{◌>>=◌}
use Rattle.flat_ref.specs.Taking.{flat_of, core_at, taken_all}

-- a new core for each of so many programs, and this memory
abbrev pub start : List (List Instr) → List ℕ → Flat
start programs memory = flat_of (map new_core (range_with_len 0 (length programs))) memory

-- each core at its number of steps, by register instructions alone; none where one cannot get there, or there is not one
-- number for each core
unfoldable pub cores_at : List ℕ → List (List Instr) → List CoreState → Option (List CoreState)
cores_at (number ∷ numbers) (program ∷ programs) (core ∷ cores) = do
  ready ← core_at number program core
  rest ← cores_at numbers programs cores
  Some (ready ∷ rest)
cores_at [] [] [] = Some []
cores_at _ _ _ = None

-- What the accesses and numbers of steps leave, from this flat state: all accesses are taken, and each core then gets to
-- exactly its number of steps. None where one cannot be taken, or a core cannot get there.
unfoldable pub executed_from : List (List Instr) → Flat → List Access → List ℕ → Option Flat
executed_from programs flat accesses steps = do
  after ← taken_all programs flat accesses
  cores ← cores_at steps programs after.cores
  Some (flat_of cores after.memory)

-- what they leave where the programs begin with this memory
abbrev pub executed : List (List Instr) → List ℕ → List Access → List ℕ → Option Flat
executed programs memory accesses steps = executed_from programs (start programs memory) accesses steps

-- the accesses and numbers of steps are a sequential execution of the programs, from this memory
abbrev pub IsExecution : List (List Instr) → List ℕ → List Access → List ℕ → Type 0
IsExecution programs memory accesses steps = IsSome (executed programs memory accesses steps)

-- each core has halted
abbrev pub AreHalted : List (List Instr) → List CoreState → Type 0
AreHalted programs cores =
    (t : ℕ) (program : List Instr) (core : CoreState) → slice_get programs t ≡ Some program → slice_get cores t ≡ Some core → next_of program core ≡ Halted

-- it is one of the whole programs
pub record IsWholeExecution (programs : List (List Instr)) (memory : List ℕ) (accesses : List Access) (steps : List ℕ) : Type 0 where
  pub after : Flat
  pub executed : executed programs memory accesses steps ≡ Some after
  pub halted : AreHalted programs after.cores

-- the memory after the accesses
abbrev pub flat_memory : List (List Instr) → List ℕ → List Access → Option (List ℕ)
flat_memory programs memory accesses =
    option_map (λ after. after.memory) (taken_all programs (start programs memory) accesses)

-- the access at this position is the first that cannot be taken; or all can, it is their number, and some core does not
-- get to its number of steps
pub record IsFirstBadAccess (programs : List (List Instr)) (flat : Flat) (accesses : List Access) (steps : List ℕ) (at : ℕ) : Type 0 where
  pub within : at ≤ length accesses
  pub before : IsSome (taken_all programs flat (take at accesses))
  pub here : at < length accesses → taken_all programs flat (take (at + 1) accesses) ≡ None
  pub refused : executed_from programs flat accesses steps ≡ None

-- the fact holds of the position, where the end names one
abbrev pub IfFirstBad : (ℕ → Type 0) → CheckEnd → Type 0
IfFirstBad P (FirstBad at) = P at
IfFirstBad P NoMemory = Unit {0}

-- a document's new cores and memory
abbrev pub start_of : Document → Flat
start_of document = start document.programs document.memory

-- an execution of a document's programs
abbrev pub executed_by : Document → List Access → List ℕ → Option Flat
executed_by document accesses steps = executed document.programs document.memory accesses steps
