-- Cores that get to their numbers of steps one after another.
use Rattle.std.proofs.Common.{◌≡◌, ℕ, ◌+◌, ◌<◌, List, [], ◌∷◌, ◌++◌, Option, Some, None, option_map, length, take, drop, get_or, set, sym, ap, ◌∙◌, refl, arith}
use Rattle.std.proofs.lemmas.List.{append-nil, append_assoc, drop_more, drop_all, take_all, take_more_set, drop-set-lt}
use Rattle.core_isa.specs.declared.instr.Instr.{Instr}
use Rattle.core_isa.specs.Core.{CoreState}
use Rattle.mesh_gen.specs.Partial.{◌>>=◌}
use Rattle.flat_ref.specs.Taking.{core_at}
use Rattle.flat_ref.specs.Execution.{cores_at}

-- what comes of cores of which the first ones have got there already
abbrev pub joined : List CoreState → Option (List CoreState) → Option (List CoreState)
joined front rest = option_map (λ cores. front ++ cores) rest

abbrev pub cores_from : ℕ → List ℕ → List (List Instr) → List CoreState → Option (List CoreState)
cores_from t steps programs cores =
    joined (take t cores) (cores_at (drop t steps) (drop t programs) (drop t cores))

-- none has: all are left
pub cores_from_none : (steps : List ℕ) (programs : List (List Instr)) (cores : List CoreState) → cores_from 0 steps programs cores ≡ cores_at steps programs cores
cores_from_none steps programs cores = same_joined (cores_at steps programs cores)
  where
    same_joined : (rest : Option (List CoreState)) → joined [] rest ≡ rest
    same_joined None = refl
    same_joined (Some rest) = refl

pub one_first : (number : ℕ) (numbers : List ℕ) (program : List Instr) (programs : List (List Instr)) (core : CoreState) (cores : List CoreState) → cores_at (number ∷ numbers) (program ∷ programs) (core ∷ cores) ≡ (core_at number program core >>= λ ready. cores_at numbers programs cores >>= λ rest. Some (ready ∷ rest))
unfolding cores_at
one_first number numbers program programs core cores = refl

-- the core at t is the next
abbrev at_front : ℕ → List ℕ → List (List Instr) → List CoreState → Option (List CoreState)
at_front t steps programs cores = cores_at (drop t steps) (drop t programs) (drop t cores)

next_core : (t : ℕ) (steps : List ℕ) (programs : List (List Instr)) (cores : List CoreState) (p : List Instr) (d : CoreState) → t < length steps → t < length programs → t < length cores → p ≡ get_or programs t p → at_front t steps programs cores ≡ (core_at (get_or steps t 0) p (get_or cores t d) >>= λ ready. at_front (t + 1) steps programs cores >>= λ rest. Some (ready ∷ rest))
next_core t steps programs cores p d in_steps in_programs in_cores is_p =
    rw (drop_more steps t 0 in_steps, drop_more programs t p in_programs, drop_more cores t d in_cores, ← is_p) (one_first (get_or steps t 0) (drop (t + 1) steps) p (drop (t + 1) programs) (get_or cores t d) (drop (t + 1) cores))

push_joined : (front : List CoreState) (ready : CoreState) (rest : Option (List CoreState)) → joined (front ++ ready ∷ []) rest ≡ joined front (rest >>= λ cores. Some (ready ∷ cores))
push_joined front ready None = refl
push_joined front ready (Some cores) = ap (λ (all : List CoreState). Some all) (append_assoc front (ready ∷ []) cores)

-- one core more gets there
pub cores_from_more : (t : ℕ) (steps : List ℕ) (programs : List (List Instr)) (cores : List CoreState) (p : List Instr) (d ready : CoreState) → t < length steps → t < length programs → t < length cores → p ≡ get_or programs t p → core_at (get_or steps t 0) p (get_or cores t d) ≡ Some ready → cores_from (t + 1) steps programs (set cores t ready) ≡ cores_from t steps programs cores
cores_from_more t steps programs cores p d ready in_steps in_programs in_cores is_p reached =
    let after = next_core t steps programs cores p d in_steps in_programs in_cores is_p in
    let more = ap (λ (found : Option CoreState). found >>= λ core. at_front (t + 1) steps programs cores >>= λ rest. Some (core ∷ rest)) reached in
    let kept : drop (t + 1) (set cores t ready) ≡ drop (t + 1) cores = drop-set-lt (t + 1) cores t ready (omega arith) in
    rw (take_more_set cores t ready in_cores, kept) (push_joined (take t cores) ready (at_front (t + 1) steps programs cores) ∙ ap (joined (take t cores)) (sym (after ∙ more)))

-- one core cannot
pub cores_from_stuck : (t : ℕ) (steps : List ℕ) (programs : List (List Instr)) (cores : List CoreState) (p : List Instr) (d : CoreState) → t < length steps → t < length programs → t < length cores → p ≡ get_or programs t p → core_at (get_or steps t 0) p (get_or cores t d) ≡ None → cores_from t steps programs cores ≡ None
cores_from_stuck t steps programs cores p d in_steps in_programs in_cores is_p stuck =
    let after = next_core t steps programs cores p d in_steps in_programs in_cores is_p in
    let none = ap (λ (found : Option CoreState). found >>= λ core. at_front (t + 1) steps programs cores >>= λ rest. Some (core ∷ rest)) stuck in
    ap (joined (take t cores)) (after ∙ none)

-- all have got there
pub cores_from_all : (t : ℕ) (steps : List ℕ) (programs : List (List Instr)) (cores : List CoreState) → length steps ≡ t → length programs ≡ t → length cores ≡ t → cores_from t steps programs cores ≡ Some cores
unfolding cores_at
cores_from_all t steps programs cores in_steps in_programs in_cores =
    rw (drop_all t steps (omega arith), drop_all t programs (omega arith), drop_all t cores (omega arith), take_all t cores (omega arith), append-nil) refl
