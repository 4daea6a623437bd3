-- An execution and its parts: each core with its own accesses, and memory.
use Rattle.std.proofs.Common.{◌≡◌, ℕ, ◌%◌, ◌<◌, ◌==◌, ◌&&◌, ◌||◌, not, cond, zero, suc, Bool, true, false, eqb, List, [], ◌∷◌, Option, Some, None, IsSome, option_and_then, length, slice_get, get_or, set, sym, ap, ◌∙◌, inl, inr, refl, length-set, arith}
use Rattle.std.specs.List.{fold, AllByRecursion}
use Rattle.std.proofs.lemmas.Bool.{cases_eq, and_parts, eq-eqb, false≢true}
use Rattle.std.proofs.lemmas.Bool.Decides.{nat_tests}
use Rattle.std.proofs.lemmas.Option.{same_Some, cond_some, option_and_then_some, slice_get_within}
use Rattle.std.proofs.lemmas.List.Folds.{fold_stays}
use Rattle.core_isa.specs.declared.instr.Instr.{Instr}
use Rattle.core_isa.specs.declared.next.Next.{Next}
use Rattle.core_isa.specs.declared.next.Next.TheVariants as next
use Rattle.core_isa.specs.Core.{CoreState, next_of, loaded, stored, wrapped_sum}
use Rattle.report_text.specs.declared.access.Access.{Access}
use Rattle.report_text.specs.declared.access.AccessKind.{AccessKind}
use Rattle.report_text.specs.declared.access.AccessKind.TheVariants as kind
use Rattle.report_text.specs.Accesses.{reads, writes, read_by}
use Rattle.flat_ref.specs.declared.flat.Flat.{Flat}
use Rattle.mesh_gen.specs.Partial.{◌>>=◌}
use Rattle.flat_ref.specs.Taking.{core_at, made, made_by, reads_right, memory_after, taken, taken_all}
use Rattle.flat_ref.specs.Order.{word_by}
use Rattle.flat_ref.specs.Consistency.{accesses_of, made_all}
use Rattle.flat_ref.proofs.Runs.{taken_all_none, taken_all_cons}
use Rattle.flat_ref.proofs.Takings.{Sides, sides}
use Rattle.flat_ref.proofs.ProgramOrder.{slice_get-set_same, slice_get-set_other}
use Rattle.flat_ref.proofs.Values.{set_word}

pub some_of : {X : Type 0} (o : Option X) → IsSome o → (x : X) × (o ≡ Some x)
some_of None h = absurd (false≢true h)
some_of (Some x) h = (x, refl)

-- one core with its accesses

pub made_all_none : (words : ℕ) (program : List Instr) (core : CoreState) → made_all words program core [] ≡ Some core
unfolding made_all
made_all_none words program core = refl

of_made : (words : ℕ) (program : List Instr) (found : Option CoreState) (accesses : List Access) → fold (λ o a. o >>= λ before. made_by words program before a) found accesses ≡ (found >>= λ core. fold (λ o a. o >>= λ before. made_by words program before a) (Some core) accesses)
of_made words program None accesses =
    fold_stays (λ (o : Option CoreState) (a : Access). o >>= λ before. made_by words program before a) None (λ a. refl) accesses
of_made words program (Some core) accesses = refl

pub made_all_cons : (words : ℕ) (program : List Instr) (core : CoreState) (a : Access) (rest : List Access) → made_all words program core (a ∷ rest) ≡ (made_by words program core a >>= λ next. made_all words program next rest)
unfolding made_all
made_all_cons words program core a rest = of_made words program (made_by words program core a) rest

pub own_first : (t : ℕ) (a : Access) (rest : List Access) → a.tile ≡ t → accesses_of t (a ∷ rest) ≡ a ∷ accesses_of t rest
own_first t a rest same = let test : eqb a.tile t ≡ true = grind (arith, nat_tests) in rw test refl

pub own_other : (t : ℕ) (a : Access) (rest : List Access) → (a.tile ≡ t → ⊥) → accesses_of t (a ∷ rest) ≡ accesses_of t rest
own_other t a rest other = let test : eqb a.tile t ≡ false = grind (arith, nat_tests) in rw test refl

-- memory, where an access that reads has the word that it has to have
pub record Serves (memory : List ℕ) (a : Access) : Type 0 where
  pub words : List ℕ
  pub served_is : memory_after memory a ≡ Some words
  pub as_long : length words ≡ length memory
  pub word : (address : ℕ) → a.address < length memory → get_or words address 0 ≡ word_by address a (get_or memory address 0)

-- a word of memory after an access of this kind
word_as : (memory : List ℕ) (a : Access) (written : Bool) (address : ℕ) → a.address < length memory → get_or (cond written (set memory a.address a.value) memory) address 0 ≡ cond (written && (a.address == address)) a.value (get_or memory address 0)
word_as memory a true address within = set_word memory a.address a.value address within
word_as memory a false address within = refl

length_as : (memory : List ℕ) (a : Access) (written : Bool) → length (cond written (set memory a.address a.value) memory) ≡ length memory
length_as memory a true = length-set memory a.address a.value
length_as memory a false = refl

reads_as : (memory : List ℕ) (a : Access) (read : Bool) → (read ≡ true → read_by a ≡ get_or memory a.address 0) → (not read || (get_or memory a.address 0 == read_by a)) ≡ true
reads_as memory a true right = eq-eqb _ _ (sym (right refl))
reads_as memory a false right = refl

pub serves_by : (memory : List ℕ) (a : Access) → (reads a.kind ≡ true → read_by a ≡ get_or memory a.address 0) → Serves memory a
serves_by memory a right =
    let test = reads_as memory a (reads a.kind) right in
    record {
      words = cond (writes a.kind) (set memory a.address a.value) memory;
      served_is = rw test refl;
      as_long = length_as memory a (writes a.kind);
      word = λ address within. word_as memory a (writes a.kind) address within;
    }

length_served : (memory words : List ℕ) (a : Access) → memory_after memory a ≡ Some words → length words ≡ length memory
length_served memory words a e =
    ap length (sym (cond_some (reads_right memory a) (cond (writes a.kind) (set memory a.address a.value) memory) words e).1) ∙ length_as memory a (writes a.kind)

address_within_words : (words address : ℕ) (a : Access) → 0 < words → (address % words == a.address) ≡ true → a.address < words
address_within_words words address a some test = let same : address % words ≡ a.address = grind (arith, nat_tests) in omega arith

address_made : (words : ℕ) (program : List Instr) (ready after : CoreState) (a : Access) (n : Next) (k : AccessKind) → 0 < words → made words program ready a n k ≡ Some after → a.address < words
address_made words program ready after a (next.Load rd address) kind.Load some e =
    address_within_words words address a some (cond_some (address % words == a.address) (loaded program a.value ready) after e).0
address_made words program ready after a (next.Load rd address) kind.Store some e = cc
address_made words program ready after a (next.Load rd address) kind.Swap some e = cc
address_made words program ready after a (next.Load rd address) kind.Add some e = cc
address_made words program ready after a (next.Store address value) kind.Load some e = cc
address_made words program ready after a (next.Store address value) kind.Store some e =
    let tests = (cond_some ((address % words == a.address) && (value == a.value)) (stored ready) after e).0 in
    address_within_words words address a some (and_parts (address % words == a.address) (value == a.value) tests).0
address_made words program ready after a (next.Store address value) kind.Swap some e = cc
address_made words program ready after a (next.Store address value) kind.Add some e = cc
address_made words program ready after a (next.Swap rd address value) kind.Load some e = cc
address_made words program ready after a (next.Swap rd address value) kind.Store some e = cc
address_made words program ready after a (next.Swap rd address value) kind.Swap some e =
    let tests = (cond_some ((address % words == a.address) && (value == a.value)) (loaded program a.old ready) after e).0 in
    address_within_words words address a some (and_parts (address % words == a.address) (value == a.value) tests).0
address_made words program ready after a (next.Swap rd address value) kind.Add some e = cc
address_made words program ready after a (next.Add rd address value) kind.Load some e = cc
address_made words program ready after a (next.Add rd address value) kind.Store some e = cc
address_made words program ready after a (next.Add rd address value) kind.Swap some e = cc
address_made words program ready after a (next.Add rd address value) kind.Add some e =
    let tests = (cond_some ((address % words == a.address) && (wrapped_sum a.old value == a.value)) (loaded program a.old ready) after e).0 in
    address_within_words words address a some (and_parts (address % words == a.address) (wrapped_sum a.old value == a.value) tests).0
address_made words program ready after a next.Register k some e = cc
address_made words program ready after a next.Halted k some e = cc

pub address_within : (words : ℕ) (program : List Instr) (core after : CoreState) (a : Access) → 0 < words → made_by words program core a ≡ Some after → a.address < words
unfolding made_by
address_within words program core after a some e =
    option_and_then_some (λ ready. made words program ready a (next_of program ready) a.kind) (core_at a.number program core) after e (λ ready there makes. address_made words program ready after a (next_of program ready) a.kind some makes)

pub found : {X : Type 0} (xs : List X) (k : ℕ) → k < length xs → (x : X) × (slice_get xs k ≡ Some x)
found [] k within = absurd (omega arith)
found (x ∷ xs) zero within = (x, refl)
found (x ∷ xs) (suc k) within = found xs k (omega arith)

pub same_run : (words : ℕ) (accesses : List Access) (p q : List Instr) (c d : CoreState) (t u : ℕ) (o : Option CoreState) → p ≡ q → c ≡ d → t ≡ u → made_all words q d (accesses_of u accesses) ≡ o → made_all words p c (accesses_of t accesses) ≡ o
same_run words accesses p q c d t u o same_program same_core same_tile e =
    ap (λ (x : List Instr). made_all words x c (accesses_of t accesses)) same_program ∙ (ap (λ (x : CoreState). made_all words q x (accesses_of t accesses)) same_core ∙ (ap (λ (x : ℕ). made_all words q d (accesses_of x accesses)) same_tile ∙ e))

-- the core's own accesses where the first of all is its own
pub run_first : (words : ℕ) (program : List Instr) (core after : CoreState) (a : Access) (rest : List Access) (o : Option CoreState) → made_by words program core a ≡ Some after → made_all words program after (accesses_of a.tile rest) ≡ o → made_all words program core (accesses_of a.tile (a ∷ rest)) ≡ o
run_first words program core after a rest o makes others =
    ap (made_all words program core) (own_first a.tile a rest refl) ∙ (made_all_cons words program core a (accesses_of a.tile rest) ∙ (ap (option_and_then (λ next. made_all words program next (accesses_of a.tile rest))) makes ∙ others))

-- and where it is another's
pub run_other : (words : ℕ) (program : List Instr) (core : CoreState) (t : ℕ) (a : Access) (rest : List Access) → (a.tile ≡ t → ⊥) → made_all words program core (accesses_of t (a ∷ rest)) ≡ made_all words program core (accesses_of t rest)
run_other words program core t a rest other = ap (made_all words program core) (own_other t a rest other)

-- what each core leaves alone is what it leaves among the others
abbrev pub CoresAlone : ℕ → List (List Instr) → List CoreState → List CoreState → List Access → Type 0
CoresAlone words programs old new accesses =
    (t : ℕ) (program : List Instr) (core : CoreState) → slice_get programs t ≡ Some program → slice_get old t ≡ Some core → made_all words program core (accesses_of t accesses) ≡ slice_get new t

pub record Parts (words : ℕ) (programs : List (List Instr)) (old new : Flat) (accesses : List Access) : Type 0 where
  pub tiles : AllByRecursion (λ a. a.tile < length programs) accesses
  pub cores : CoresAlone words programs old.cores new.cores accesses

first_part : (words : ℕ) (programs : List (List Instr)) (old next new : Flat) (a : Access) (rest : List Access) → words ≡ length old.memory → Sides programs old next a → CoresAlone words programs next.cores new.cores rest → CoresAlone words programs old.cores new.cores (a ∷ rest)
first_part words programs old next new a rest is_words s others t program core is_program is_core =
    elim (cases_eq t a.tile) [
      | inl same ↦ let p = same_Some program s.program (sym is_program ∙ (ap (slice_get programs) same ∙ s.its_program)) in let c = same_Some core s.core (sym is_core ∙ (ap (slice_get old.cores) same ∙ s.its_core)) in let makes = ap (λ (w : ℕ). made_by w s.program s.core a) is_words ∙ s.core_side in let its_core = ap (λ (cores : List CoreState). slice_get cores a.tile) s.cores ∙ slice_get-set_same old.cores a.tile s.core s.after s.its_core in same_run words (a ∷ rest) program s.program core s.core t a.tile (slice_get new.cores t) p c same (run_first words s.program s.core s.after a rest (slice_get new.cores t) makes (others a.tile s.program s.after s.its_program its_core ∙ ap (slice_get new.cores) (sym same)))
      | inr other ↦ let its_core = ap (λ (cores : List CoreState). slice_get cores t) s.cores ∙ (slice_get-set_other old.cores t a.tile s.after other ∙ is_core) in run_other words program core t a rest (λ e. other (sym e)) ∙ others t program core is_program its_core
    ]

-- what can be taken has its parts
pub parts : (words : ℕ) (programs : List (List Instr)) (old new : Flat) (accesses : List Access) → words ≡ length old.memory → taken_all programs old accesses ≡ Some new → Parts words programs old new accesses
parts words programs old new [] is_words e =
    let same = same_Some old new (sym (taken_all_none programs old) ∙ e) in
    record {
      tiles = tt;
      cores = λ t program core is_program is_core. made_all_none words program core ∙ (sym is_core ∙ ap (λ (flat : Flat). slice_get flat.cores t) same);
    }
parts words programs old new (a ∷ rest) is_words e =
    option_and_then_some (λ next. taken_all programs next rest) (taken programs old a) new (sym (taken_all_cons programs old a rest) ∙ e) (λ next one others.
    let s = sides programs old next a one in
    let long = length_served old.memory next.memory a s.memory_side in
    let later = parts words programs next new rest (is_words ∙ sym long) others in
    record {
      tiles = (slice_get_within programs a.tile s.program s.its_program, later.tiles);
      cores = first_part words programs old next new a rest is_words s later.cores;
    })
