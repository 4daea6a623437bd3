-- What an execution leaves of each core: what the core makes alone.
use Rattle.std.proofs.Common.{◌≡◌, ℕ, zero, suc, List, [], ◌∷◌, Some, length, slice_get, sym, ap, ◌∙◌, refl}
use Rattle.std.proofs.lemmas.Option.{same_Some, none-some, option_and_then_some, slice_get_within}
use Rattle.core_isa.specs.declared.instr.Instr.{Instr}
use Rattle.core_isa.specs.Core.{CoreState, new_core}
use Rattle.report_text.specs.declared.access.Access.{Access}
use Rattle.mesh_gen.specs.Partial.{◌>>=◌}
use Rattle.flat_ref.specs.declared.flat.Flat.{Flat}
use Rattle.flat_ref.specs.Taking.{flat_of, core_at, taken_all}
use Rattle.flat_ref.specs.Execution.{start, cores_at, executed_from, executed}
use Rattle.flat_ref.specs.Consistency.{accesses_of, made_all, run_alone}
use Rattle.flat_ref.proofs.Parts.{parts}
use Rattle.flat_ref.proofs.Consistent.{first_core}

-- where each core gets to its number of steps, one of them is what gets there
core_reached : (steps : List ℕ) (programs : List (List Instr)) (cores after : List CoreState) (t n : ℕ) (program : List Instr) (core : CoreState)
    → cores_at steps programs cores ≡ Some after
    → slice_get steps t ≡ Some n → slice_get programs t ≡ Some program → slice_get cores t ≡ Some core → slice_get after t ≡ core_at n program core
unfolding cores_at
core_reached [] [] [] after t n program core e is_n is_program is_core = absurd (none-some n is_n)
core_reached (m ∷ steps) (p ∷ programs) (c ∷ cores) after zero n program core e is_n is_program is_core =
    option_and_then_some (λ ready. cores_at steps programs cores >>= λ rest. Some (ready ∷ rest)) (core_at m p c) after e (λ ready there e1.
    option_and_then_some (λ rest. Some (ready ∷ rest)) (cores_at steps programs cores) after e1 (λ rest others e2.
    ap (λ (xs : List CoreState). slice_get xs 0) (sym (same_Some (ready ∷ rest) after e2))
    ∙ sym there
    ∙ ap (λ (x : ℕ). core_at x p c) (same_Some m n is_n)
    ∙ ap (λ (x : List Instr). core_at n x c) (same_Some p program is_program)
    ∙ ap (core_at n program) (same_Some c core is_core)))
core_reached (m ∷ steps) (p ∷ programs) (c ∷ cores) after (suc t) n program core e is_n is_program is_core =
    option_and_then_some (λ ready. cores_at steps programs cores >>= λ rest. Some (ready ∷ rest)) (core_at m p c) after e (λ ready there e1.
    option_and_then_some (λ rest. Some (ready ∷ rest)) (cores_at steps programs cores) after e1 (λ rest others e2.
    ap (λ (xs : List CoreState). slice_get xs (suc t)) (sym (same_Some (ready ∷ rest) after e2))
    ∙ core_reached steps programs cores rest t n program core others is_n is_program is_core))
core_reached steps programs cores after t n program core e is_n is_program is_core = cc

-- the core that makes its accesses alone is the one that the execution leaves
pub core_left : (programs : List (List Instr)) (memory steps : List ℕ) (accesses : List Access) (after : Flat) (t n : ℕ) (program : List Instr)
    (core : CoreState)
    → executed programs memory accesses steps ≡ Some after → slice_get steps t ≡ Some n → slice_get programs t ≡ Some program
    → run_alone (length memory) program (new_core t) (accesses_of t accesses) n ≡ Some core → slice_get after.cores t ≡ Some core
unfolding executed_from
core_left programs memory steps accesses after t n program core e is_n is_program alone =
    option_and_then_some (λ last. cores_at steps programs last.cores >>= λ cores. Some (flat_of cores last.memory))
    (taken_all programs (start programs memory) accesses) after e (λ last taken e1.
    option_and_then_some (λ cores. Some (flat_of cores last.memory)) (cores_at steps programs last.cores) after e1 (λ cores reached e2.
    option_and_then_some (λ made. core_at n program made) (made_all (length memory) program (new_core t) (accesses_of t accesses)) core alone
    (λ made is_made there.
    let whole = parts (length memory) programs (start programs memory) last accesses refl taken in
    let first = first_core programs memory t (slice_get_within programs t program is_program) in
    let its_core = sym (whole.cores t program (new_core t) is_program first) ∙ is_made in
    ap (λ (flat : Flat). slice_get flat.cores t) (sym (same_Some (flat_of cores last.memory) after e2))
    ∙ core_reached steps programs last.cores cores t n program made reached is_n is_program its_core
    ∙ there)))
