-- What an execution leaves: the numbers of steps, and the memory.
use Rattle.std.proofs.Common.{◌≡◌, ℕ, List, [], ◌∷◌, Option, Some, option_map, map, sym, ap, ◌∙◌}
use Rattle.std.proofs.Math.Path.{ap₂}
use Rattle.std.proofs.lemmas.Option.{same_Some, option_and_then_some}
use Rattle.core_isa.specs.declared.instr.Instr.{Instr}
use Rattle.core_isa.specs.Core.{CoreState}
use Rattle.report_text.specs.declared.access.Access.{Access}
use Rattle.flat_ref.specs.declared.flat.Flat.{Flat}
use Rattle.mesh_gen.specs.Partial.{◌>>=◌}
use Rattle.flat_ref.specs.Taking.{core_at, taken_all}
use Rattle.flat_ref.specs.Execution.{start, cores_at, executed_from, executed, flat_memory}
use Rattle.flat_ref.proofs.Takings.{Counted, gets_to}

abbrev steps_of : List CoreState → List ℕ
steps_of cores = map (λ core. core.steps) cores

steps_of-cores_at : Counted → (steps : List ℕ) (programs : List (List Instr)) (cores after : List CoreState) → cores_at steps programs cores ≡ Some after → steps_of after ≡ steps
unfolding cores_at
steps_of-cores_at counted [] [] [] after e = ap steps_of (sym (same_Some [] after e))
steps_of-cores_at counted (n ∷ steps) (program ∷ programs) (core ∷ cores) after e =
    option_and_then_some (λ ready. cores_at steps programs cores >>= λ rest. Some (ready ∷ rest)) (core_at n program core) after e (λ ready there e1.
    option_and_then_some (λ rest. Some (ready ∷ rest)) (cores_at steps programs cores) after e1 (λ rest others e2.
    let way = gets_to counted program core ready n there in
    ap steps_of (sym (same_Some (ready ∷ rest) after e2)) ∙ ap₂ (λ (x : ℕ) (xs : List ℕ). x ∷ xs) way.steps (steps_of-cores_at counted steps programs cores rest others)))
steps_of-cores_at counted steps programs cores after e = cc

abbrev with_memory : List ℕ → List CoreState → Option Flat
with_memory memory cores = Some (record { cores = cores; memory = memory })

abbrev finished : List (List Instr) → List ℕ → Flat → Option Flat
finished programs steps last = cores_at steps programs last.cores >>= λ cores. with_memory last.memory cores

-- each core is at its number of steps
pub steps_of_execution : Counted → (programs : List (List Instr)) (flat after : Flat) (accesses : List Access) (steps : List ℕ) → executed_from programs flat accesses steps ≡ Some after → steps_of after.cores ≡ steps
unfolding executed_from
steps_of_execution counted programs flat after accesses steps e =
    option_and_then_some (finished programs steps) (taken_all programs flat accesses) after e (λ last taken e1.
    option_and_then_some (with_memory last.memory) (cores_at steps programs last.cores) after e1 (λ cores reached e2.
    let same = same_Some (record { cores = cores; memory = last.memory }) after e2 in
    ap (λ (state : Flat). steps_of state.cores) (sym same) ∙ steps_of-cores_at counted steps programs last.cores cores reached))

-- the memory is that of the accesses
pub memory_of_execution : (programs : List (List Instr)) (memory steps : List ℕ) (accesses : List Access) (after : Flat) → executed programs memory accesses steps ≡ Some after → flat_memory programs memory accesses ≡ Some after.memory
unfolding executed_from
memory_of_execution programs memory steps accesses after e =
    option_and_then_some (finished programs steps) (taken_all programs (start programs memory) accesses) after e (λ last taken e1.
    option_and_then_some (with_memory last.memory) (cores_at steps programs last.cores) after e1 (λ cores reached e2.
    let same = same_Some (record { cores = cores; memory = last.memory }) after e2 in
    ap (option_map (λ (state : Flat). state.memory)) taken ∙ ap (λ (state : Flat). Some state.memory) same))
