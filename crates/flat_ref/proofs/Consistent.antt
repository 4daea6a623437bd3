-- A sequential execution is one whose parts are consistent, and the other way round.
use Rattle.std.proofs.Common.{◌≡◌, ℕ, ◌+◌, ◌<◌, zero, suc, List, [], ◌∷◌, Option, Some, None, IsSome, is_some, option_and_then, length, slice_get, map, sym, ap, ◌∙◌, subst, refl, add-zero, arith}
use Rattle.std.specs.List.{range_with_len}
use Rattle.std.proofs.lemmas.Option.{same_Some, none-some, option_and_then_some, slice_get_within}
use Rattle.std.proofs.lemmas.List.{length-map}
use Rattle.std.proofs.lemmas.List.FromFn.{length-range_with_len}
use Rattle.std.proofs.lemmas.List.Elements.{All-from_recursion, recursion_from_All}
use Rattle.core_isa.specs.declared.instr.Instr.{Instr}
use Rattle.core_isa.specs.Core.{CoreState, new_core}
use Rattle.report_text.specs.declared.access.Access.{Access}
use Rattle.flat_ref.specs.declared.flat.Flat.{Flat}
use Rattle.mesh_gen.specs.Partial.{◌>>=◌}
use Rattle.flat_ref.specs.Taking.{core_at, taken_all}
use Rattle.flat_ref.specs.Execution.{start, cores_at, executed_from, IsExecution}
use Rattle.flat_ref.specs.Consistency.{accesses_of, made_all, IsConsistent}
use Rattle.flat_ref.proofs.Ends.{executed_from-taken}
use Rattle.flat_ref.proofs.Takings.{Counted, Received}
use Rattle.flat_ref.proofs.Values.{reads_last}
use Rattle.flat_ref.proofs.Parts.{some_of, found, parts}
use Rattle.flat_ref.proofs.Together.{RunsAlone, together}

-- there is a number for each core, and each core gets to its own
record AllGetThere (steps : List ℕ) (programs : List (List Instr)) (cores : List CoreState) : Type 0 where
  numbers : length steps ≡ length programs
  many : length cores ≡ length programs
  each : (t n : ℕ) (program : List Instr) (core : CoreState) → slice_get steps t ≡ Some n → slice_get programs t ≡ Some program → slice_get cores t ≡ Some core → IsSome (core_at n program core)

no_core : (t n : ℕ) (program : List Instr) (core : CoreState) → slice_get {X = ℕ} [] t ≡ Some n → IsSome (core_at n program core)
no_core t n program core e = absurd (none-some n e)

one_more : (n : ℕ) (steps : List ℕ) (program : List Instr) (programs : List (List Instr)) (core : CoreState) (cores : List CoreState) → IsSome (core_at n program core) → AllGetThere steps programs cores → AllGetThere (n ∷ steps) (program ∷ programs) (core ∷ cores)
one_more n steps program programs core cores first others = record {
  numbers = ap (λ (k : ℕ). suc k) others.numbers;
  many = ap (λ (k : ℕ). suc k) others.many;
  each = each_of;
}
  where
    each_of : (t k : ℕ) (p : List Instr) (c : CoreState) → slice_get (n ∷ steps) t ≡ Some k → slice_get (program ∷ programs) t ≡ Some p → slice_get (core ∷ cores) t ≡ Some c → IsSome (core_at k p c)
    each_of zero k p c is_k is_p is_c =
        subst (λ (x : ℕ). IsSome (core_at x p c)) (same_Some n k is_k) (subst (λ (x : List Instr). IsSome (core_at n x c)) (same_Some program p is_p) (subst (λ (x : CoreState). IsSome (core_at n program x)) (same_Some core c is_c) first))
    each_of (suc t) k p c is_k is_p is_c = others.each t k p c is_k is_p is_c

get_there : (steps : List ℕ) (programs : List (List Instr)) (cores after : List CoreState) → cores_at steps programs cores ≡ Some after → AllGetThere steps programs cores
unfolding cores_at
get_there [] [] [] after e = record {
  numbers = refl;
  many = refl;
  each = λ t n program core is_n is_program is_core. no_core t n program core is_n;
}
get_there (n ∷ steps) (program ∷ programs) (core ∷ cores) after e =
    option_and_then_some (λ ready. cores_at steps programs cores >>= λ rest. Some (ready ∷ rest)) (core_at n program core) after e (λ ready there e1.
    option_and_then_some (λ rest. Some (ready ∷ rest)) (cores_at steps programs cores) after e1 (λ rest others e2.
    one_more n steps program programs core cores (ap is_some there) (get_there steps programs cores rest others)))
get_there steps programs cores after e = cc

all_there : (steps : List ℕ) (programs : List (List Instr)) (cores : List CoreState) → AllGetThere steps programs cores → IsSome (cores_at steps programs cores)
unfolding cores_at
all_there [] [] [] g = refl
all_there [] [] (core ∷ cores) g = let many = g.many in absurd (omega arith)
all_there [] (program ∷ programs) cores g = let numbers = g.numbers in absurd (omega arith)
all_there (n ∷ steps) [] cores g = let numbers = g.numbers in absurd (omega arith)
all_there (n ∷ steps) (program ∷ programs) [] g = let many = g.many in absurd (omega arith)
all_there (n ∷ steps) (program ∷ programs) (core ∷ cores) g =
    let others : AllGetThere steps programs cores = record { numbers = omega (arith, g.numbers); many = omega (arith, g.many); each = λ t k p c is_k is_p is_c. g.each (suc t) k p c is_k is_p is_c } in
    let ready = some_of (core_at n program core) (g.each 0 n program core refl refl refl) in
    let rest = some_of (cores_at steps programs cores) (all_there steps programs cores others) in
    ap is_some (ap (λ (o : Option CoreState). o >>= λ r. cores_at steps programs cores >>= λ x. Some (r ∷ x)) ready.1 ∙ ap (λ (o : Option (List CoreState)). o >>= λ x. Some (ready.0 ∷ x)) rest.1)

-- each core at the start is a new one

new_at : (count k t : ℕ) → t < count → slice_get (map new_core (range_with_len k count)) t ≡ Some (new_core (k + t))
new_at zero k t within = absurd (omega arith)
new_at (suc count) k zero within = ap (λ (n : ℕ). Some (new_core n)) (sym (add-zero k))
new_at (suc count) k (suc t) within =
    let same : (k + 1) + t ≡ k + suc t = omega arith in
    new_at count (k + 1) t (omega arith) ∙ ap (λ (n : ℕ). Some (new_core n)) same

pub first_core : (programs : List (List Instr)) (memory : List ℕ) (t : ℕ) → t < length programs → slice_get (start programs memory).cores t ≡ Some (new_core t)
first_core programs memory t within =
    let same : 0 + t ≡ t = omega arith in
    new_at (length programs) 0 t within ∙ ap (λ (n : ℕ). Some (new_core n)) same

as_many : (programs : List (List Instr)) (memory : List ℕ) → length (start programs memory).cores ≡ length programs
as_many programs memory =
    length-map (range_with_len 0 (length programs)) new_core ∙ length-range_with_len 0 (length programs)

abbrev with_memory : List ℕ → List CoreState → Option Flat
with_memory memory cores = Some (record { cores = cores; memory = memory })

abbrev finished : List (List Instr) → List ℕ → Flat → Option Flat
finished programs steps last = cores_at steps programs last.cores >>= λ cores. with_memory last.memory cores

pub consistent : Counted → Received → (programs : List (List Instr)) (memory : List ℕ) (accesses : List Access) (steps : List ℕ) → 0 < length memory → IsExecution programs memory accesses steps → IsConsistent programs memory accesses steps
unfolding executed_from
consistent counted received programs memory accesses steps some h =
    let flat = start programs memory in
    let all = some_of (executed_from programs (start programs memory) accesses steps) h in
    option_and_then_some (finished programs steps) (taken_all programs (start programs memory) accesses) all.0 all.1 (λ last taken e1.
    option_and_then_some (with_memory last.memory) (cores_at steps programs last.cores) all.0 e1 (λ cores reached e2.
    let p = parts (length memory) programs (start programs memory) last accesses refl taken in
    let g = get_there steps programs last.cores cores reached in
    record {
      numbers = g.numbers;
      tiles = All-from_recursion (λ a. a.tile < length programs) accesses p.tiles;
      cores = λ t n program is_program is_n. let within = slice_get_within programs t program is_program in let c = found last.cores t (omega (arith, g.many, within)) in let made = p.cores t program (new_core t) is_program (first_core programs memory t within) in ap is_some (ap (option_and_then (core_at n program)) (made ∙ c.1)) ∙ g.each t n program c.0 is_n is_program c.1;
      reads = λ before rest a e is_load. reads_last counted received programs (start programs memory) last before rest a some (ap (taken_all programs (start programs memory)) (sym e) ∙ taken) is_load;
    }))

-- what goes on from a core needs the core
some_before : {X Y : Type 0} (f : X → Option Y) (o : Option X) → IsSome (option_and_then f o) → IsSome o
some_before f None h = h
some_before f (Some x) h = refl

alone_of : (programs : List (List Instr)) (memory : List ℕ) (accesses : List Access) (steps : List ℕ) → IsConsistent programs memory accesses steps → RunsAlone (length memory) programs (start programs memory).cores accesses
alone_of programs memory accesses steps h t program core is_program is_core =
    let within = slice_get_within programs t program is_program in
    let n = found steps t (omega (arith, h.numbers, within)) in
    let run = some_before (core_at n.0 program) (made_all (length memory) program (new_core t) (accesses_of t accesses)) (h.cores t n.0 program is_program n.1) in
    let same = same_Some (new_core t) core (sym (first_core programs memory t within) ∙ is_core) in
    subst (λ (c : CoreState). IsSome (made_all (length memory) program c (accesses_of t accesses))) same run

pub execution : (programs : List (List Instr)) (memory : List ℕ) (accesses : List Access) (steps : List ℕ) → 0 < length memory → IsConsistent programs memory accesses steps → IsExecution programs memory accesses steps
execution programs memory accesses steps some h =
    let whole = together (length memory) programs (start programs memory) accesses refl some (as_many programs memory) (recursion_from_All (λ a. a.tile < length programs) accesses h.tiles) (alone_of programs memory accesses steps h) h.reads in
    let there : AllGetThere steps programs whole.new.cores = record {
      numbers = h.numbers;
      many = whole.many ∙ as_many programs memory;
      each = λ t n program core is_n is_program is_core. let within = slice_get_within programs t program is_program in let made = whole.cores t program (new_core t) is_program (first_core programs memory t within) ∙ is_core in ap is_some (ap (option_and_then (core_at n program)) (sym made)) ∙ h.cores t n program is_program is_n;
    } in
    let cores = some_of (cores_at steps programs whole.new.cores) (all_there steps programs whole.new.cores there) in
    ap is_some (executed_from-taken programs (start programs memory) whole.new accesses steps (Some cores.0) whole.taken cores.1)
