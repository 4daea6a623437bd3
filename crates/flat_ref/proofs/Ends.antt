-- How an execution ends: at an access, at a core that does not get to its steps, or with all done.
use Rattle.std.proofs.Common.{◌≡◌, ℕ, List, Option, Some, None, is_some, length, take, ap, ◌∙◌, arith}
use Rattle.std.proofs.lemmas.List.{take_all}
use Rattle.core_isa.specs.declared.instr.Instr.{Instr}
use Rattle.core_isa.specs.Core.{CoreState}
use Rattle.report_text.specs.declared.access.Access.{Access}
use Rattle.flat_ref.specs.declared.flat.Flat.{Flat}
use Rattle.mesh_gen.specs.Partial.{◌>>=◌}
use Rattle.flat_ref.specs.Taking.{taken_all, StopsAt}
use Rattle.flat_ref.specs.Execution.{cores_at, executed_from, IsFirstBadAccess}
use Rattle.flat_ref.proofs.Runs.{taken_all_stuck}

abbrev with_memory : List ℕ → Option (List CoreState) → Option Flat
with_memory memory found = found >>= λ cores. Some (record { cores = cores; memory = memory })

-- what the cores leave once all accesses are taken
pub executed_from-taken : (programs : List (List Instr)) (flat after : Flat) (accesses : List Access) (steps : List ℕ) (found : Option (List CoreState)) → taken_all programs flat accesses ≡ Some after → cores_at steps programs after.cores ≡ found → executed_from programs flat accesses steps ≡ with_memory after.memory found
unfolding executed_from
executed_from-taken programs flat after accesses steps found taken reached =
    ap (λ (o : Option Flat). o >>= λ last. with_memory last.memory (cores_at steps programs last.cores)) taken ∙ ap (with_memory after.memory) reached

pub bad_access : (programs : List (List Instr)) (flat : Flat) (accesses : List Access) (steps : List ℕ) (at : ℕ) → StopsAt programs flat accesses at → IsFirstBadAccess programs flat accesses steps at
unfolding executed_from
bad_access programs flat accesses steps at stop = record {
  within = omega (arith, stop.within);
  before = stop.before;
  here = λ _. stop.here;
  refused = ap (λ (o : Option Flat). o >>= λ last. with_memory last.memory (cores_at steps programs last.cores)) (taken_all_stuck programs flat accesses _ stop.here);
}

pub bad_steps : (programs : List (List Instr)) (flat after : Flat) (accesses : List Access) (steps : List ℕ) → taken_all programs flat accesses ≡ Some after → cores_at steps programs after.cores ≡ None → IsFirstBadAccess programs flat accesses steps (length accesses)
bad_steps programs flat after accesses steps taken stuck =
    let all : take (length accesses) accesses ≡ accesses = take_all (length accesses) accesses (omega arith) in
    record {
      within = omega arith;
      before = ap is_some (ap (taken_all programs flat) all ∙ taken);
      here = λ past. absurd (omega (arith, past));
      refused = executed_from-taken programs flat after accesses steps None taken stuck;
    }
