-- What can be taken, as a relation.
use Rattle.std.proofs.Common.{◌≡◌, ℕ, ◌-◌, ◌%◌, ◌==◌, ◌&&◌, ◌||◌, not, if◌then◌else◌, eqb, leb, cond, Bool, true, false, List, Option, Some, None, option_and_then, length, slice_get, get_or, set, sym, ap, ◌∙◌, inl, inr, refl, arith}
use Rattle.std.proofs.lemmas.Option.{same_Some, cond_some, option_and_then_some}
use Rattle.std.proofs.lemmas.Bool.{and_parts, and_from, eqb-true, eq-eqb}
use Rattle.std.proofs.lemmas.Bool.Decides.{nat_tests}
use Rattle.core_isa.specs.declared.instr.Instr.{Instr}
use Rattle.core_isa.specs.declared.next.Next.{Next}
use Rattle.core_isa.specs.declared.next.Next.TheVariants as next
use Rattle.core_isa.specs.Core.{CoreState, DidMore, next_of, advanced, loaded, stored, with_result, wrapped_sum}
use Rattle.report_text.specs.declared.access.Access.{Access}
use Rattle.report_text.specs.declared.access.AccessKind.{AccessKind}
use Rattle.report_text.specs.declared.access.AccessKind.TheVariants as kind
use Rattle.report_text.specs.Accesses.{reads, writes}
use Rattle.flat_ref.specs.declared.flat.Flat.{Flat}
use Rattle.flat_ref.specs.Taking.{flat_of, core_at, made, made_by, memory_after, taken}
use Rattle.flat_ref.specs.Order.{IsLoadOf, IsStoreOf, IsSwapOf, IsAddOf, IsAccessOf, Takes}

-- register instructions are counted
abbrev pub Counted : Type 0
Counted =
    (program : List Instr) (n : ℕ) (core new : CoreState) → advanced program n core ≡ Some new → DidMore n core new

-- the register of a load, a swap and an add receives the word that was read
pub record Received : Type 0 where
  pub by_load : (program : List Instr) (core : CoreState) (rd address word : ℕ) → next_of program core ≡ next.Load rd address → loaded program word core ≡ with_result rd word core
  pub by_swap : (program : List Instr) (core : CoreState) (rd address value word : ℕ) → next_of program core ≡ next.Swap rd address value → loaded program word core ≡ with_result rd word core
  pub by_add : (program : List Instr) (core : CoreState) (rd address value word : ℕ) → next_of program core ≡ next.Add rd address value → loaded program word core ≡ with_result rd word core

-- what memory gives an access of this kind
abbrev pub served_as : List ℕ → Access → AccessKind → Option (List ℕ)
served_as memory a k =
    if not (reads k) || (get_or memory a.address 0 == (if writes k then a.old else a.value))
    then Some (if writes k then set memory a.address a.value else memory)
    else None

-- what was made and served is an access
access_by : Received → (program : List Instr) (ready after : CoreState) (memory words : List ℕ) (a : Access) (n : Next) (k : AccessKind) → next_of program ready ≡ n → a.kind ≡ k → made (length memory) program ready a n k ≡ Some after → served_as memory a k ≡ Some words → IsAccessOf program ready after memory words a
access_by received program ready after memory words a (next.Load rd address) kind.Load is_next is_kind core_side memory_side =
    let core = cond_some (eqb (address % length memory) a.address) (loaded program a.value ready) after core_side in
    let word = cond_some (eqb (get_or memory a.address 0) a.value) memory words memory_side in
    inl (record {
      rd = rd;
      address = address;
      is_next = is_next;
      kind = is_kind;
      at = grind (arith, nat_tests, core.0);
      value = grind (arith, nat_tests, word.0);
      core = sym core.1 ∙ received.by_load program ready rd address a.value is_next;
      memory = sym word.1;
    })
access_by received program ready after memory words a (next.Load rd address) kind.Store is_next is_kind core_side memory_side = cc
access_by received program ready after memory words a (next.Store address value) kind.Load is_next is_kind core_side memory_side = cc
access_by received program ready after memory words a (next.Store address value) kind.Store is_next is_kind core_side memory_side =
    let core = cond_some ((eqb (address % length memory) a.address) && (eqb value a.value)) (stored ready) after core_side in
    let tests = and_parts (eqb (address % length memory) a.address) (eqb value a.value) core.0 in
    let same : value ≡ a.value = grind (arith, nat_tests) in
    inr (inl (record {
      address = address;
      is_next = is_next ∙ ap (λ (v : ℕ). next.Store address v) same;
      kind = is_kind;
      at = grind (arith, nat_tests);
      core = sym core.1;
      memory = sym (same_Some _ _ memory_side);
    }))
access_by received program ready after memory words a (next.Swap rd address value) kind.Swap is_next is_kind core_side memory_side =
    let core = cond_some ((eqb (address % length memory) a.address) && (eqb value a.value)) (loaded program a.old ready) after core_side in
    let tests = and_parts (eqb (address % length memory) a.address) (eqb value a.value) core.0 in
    let word = cond_some (eqb (get_or memory a.address 0) a.old) (set memory a.address a.value) words memory_side in
    let same : value ≡ a.value = grind (arith, nat_tests) in
    inr (inr (inl (record {
      rd = rd;
      address = address;
      is_next = is_next ∙ ap (λ (v : ℕ). next.Swap rd address v) same;
      kind = is_kind;
      at = grind (arith, nat_tests);
      before = grind (arith, nat_tests, word.0);
      core = sym core.1 ∙ received.by_swap program ready rd address value a.old is_next;
      memory = sym word.1;
    })))
access_by received program ready after memory words a (next.Add rd address value) kind.Add is_next is_kind core_side memory_side =
    let core = cond_some ((eqb (address % length memory) a.address) && (eqb (wrapped_sum a.old value) a.value)) (loaded program a.old ready) after core_side in
    let tests = and_parts (eqb (address % length memory) a.address) (eqb (wrapped_sum a.old value) a.value) core.0 in
    let word = cond_some (eqb (get_or memory a.address 0) a.old) (set memory a.address a.value) words memory_side in
    inr (inr (inr (record {
      rd = rd;
      address = address;
      value = value;
      is_next = is_next;
      kind = is_kind;
      at = grind (arith, nat_tests);
      before = grind (arith, nat_tests, word.0);
      sum = sym (eqb-true (wrapped_sum a.old value) a.value tests.1);
      core = sym core.1 ∙ received.by_add program ready rd address value a.old is_next;
      memory = sym word.1;
    })))
access_by received program ready after memory words a (next.Load rd address) kind.Swap is_next is_kind core_side memory_side = cc
access_by received program ready after memory words a (next.Load rd address) kind.Add is_next is_kind core_side memory_side = cc
access_by received program ready after memory words a (next.Store address value) kind.Swap is_next is_kind core_side memory_side = cc
access_by received program ready after memory words a (next.Store address value) kind.Add is_next is_kind core_side memory_side = cc
access_by received program ready after memory words a (next.Swap rd address value) kind.Load is_next is_kind core_side memory_side = cc
access_by received program ready after memory words a (next.Swap rd address value) kind.Store is_next is_kind core_side memory_side = cc
access_by received program ready after memory words a (next.Swap rd address value) kind.Add is_next is_kind core_side memory_side = cc
access_by received program ready after memory words a (next.Add rd address value) kind.Load is_next is_kind core_side memory_side = cc
access_by received program ready after memory words a (next.Add rd address value) kind.Store is_next is_kind core_side memory_side = cc
access_by received program ready after memory words a (next.Add rd address value) kind.Swap is_next is_kind core_side memory_side = cc
access_by received program ready after memory words a next.Register k is_next is_kind core_side memory_side = cc
access_by received program ready after memory words a next.Halted k is_next is_kind core_side memory_side = cc

-- how a core got to a number of steps
pub record GetsTo (program : List Instr) (core ready : CoreState) (number : ℕ) : Type 0 where
  pub between : ℕ
  pub gets_there : advanced program between core ≡ Some ready
  pub steps : ready.steps ≡ number

pub gets_to : Counted → (program : List Instr) (core ready : CoreState) (number : ℕ) → core_at number program core ≡ Some ready → GetsTo program core ready number
unfolding core_at
gets_to counted program core ready number e =
    first_part counted program core ready number (leb core.steps number) refl e
  where
    first_part : Counted → (program : List Instr) (core ready : CoreState) (number : ℕ) (b : Bool) → b ≡ leb core.steps number → cond b (advanced program (number - core.steps) core) None ≡ Some ready → GetsTo program core ready number
    first_part counted program core ready number true within e =
        let did = counted program (number - core.steps) core ready e in
        record { between = number - core.steps; gets_there = e; steps = grind (arith, nat_tests, did.steps) }
    first_part counted program core ready number false within e = cc

is_at : Counted → (program : List Instr) (core ready : CoreState) (number : ℕ) → GetsTo program core ready number → core_at number program core ≡ Some ready
unfolding core_at
is_at counted program core ready number way =
    let did = counted program way.between core ready way.gets_there in
    let within : leb core.steps number ≡ true = grind (arith, nat_tests) in
    let same : number - core.steps ≡ way.between = omega arith in
    rw (within, same) way.gets_there

abbrev made_next : ℕ → List Instr → Access → CoreState → Option CoreState
made_next words program a ready = made words program ready a (next_of program ready) a.kind

abbrev with_words : Flat → Access → CoreState → List ℕ → Option Flat
with_words old a after words = Some (record { cores = set old.cores a.tile after; memory = words })

abbrev with_core : Flat → Access → CoreState → Option Flat
with_core old a after = option_and_then (with_words old a after) (memory_after old.memory a)

abbrev by_core : Flat → Access → List Instr → CoreState → Option Flat
by_core old a program core =
    option_and_then (with_core old a) (made_by (length old.memory) program core a)

abbrev by_program : Flat → Access → List Instr → Option Flat
by_program old a program = option_and_then (by_core old a program) (slice_get old.cores a.tile)

-- the two sides of an access that was taken: its core's and memory's
pub record Sides (programs : List (List Instr)) (old new : Flat) (a : Access) : Type 0 where
  pub program : List Instr
  pub core : CoreState
  pub after : CoreState
  pub its_program : slice_get programs a.tile ≡ Some program
  pub its_core : slice_get old.cores a.tile ≡ Some core
  pub core_side : made_by (length old.memory) program core a ≡ Some after
  pub memory_side : memory_after old.memory a ≡ Some new.memory
  pub cores : new.cores ≡ set old.cores a.tile after

pub sides : (programs : List (List Instr)) (old new : Flat) (a : Access) → taken programs old a ≡ Some new → Sides programs old new a
unfolding taken
sides programs old new a e =
    option_and_then_some (by_program old a) (slice_get programs a.tile) new e (λ program its_program e1.
    option_and_then_some (by_core old a program) (slice_get old.cores a.tile) new e1 (λ core its_core e2.
    option_and_then_some (with_core old a) (made_by (length old.memory) program core a) new e2 (λ after core_side e3.
    option_and_then_some (with_words old a after) (memory_after old.memory a) new e3 (λ words memory_side e4.
    let is_new = same_Some (record { cores = set old.cores a.tile after; memory = words }) new e4 in
    record {
      program = program;
      core = core;
      after = after;
      its_program = its_program;
      its_core = its_core;
      core_side = core_side;
      memory_side = memory_side ∙ ap (λ (flat : Flat). Some flat.memory) is_new;
      cores = sym (ap (λ (flat : Flat). flat.cores) is_new);
    }))))

-- both sides together are taken
pub taken_by_sides : (programs : List (List Instr)) (old : Flat) (a : Access) (program : List Instr) (core after : CoreState) (words : List ℕ) → slice_get programs a.tile ≡ Some program → slice_get old.cores a.tile ≡ Some core → made_by (length old.memory) program core a ≡ Some after → memory_after old.memory a ≡ Some words → taken programs old a ≡ Some (flat_of (set old.cores a.tile after) words)
unfolding taken
taken_by_sides programs old a program core after words its_program its_core core_side memory_side =
    rw (its_program, its_core, core_side, memory_side) refl

-- what is taken is an access by the relation
pub takes : Counted → Received → (programs : List (List Instr)) (old new : Flat) (a : Access) → taken programs old a ≡ Some new → Takes programs old new a
unfolding made_by
takes counted received programs old new a e =
    let s = sides programs old new a e in
    option_and_then_some (made_next (length old.memory) s.program a) (core_at a.number s.program s.core) s.after s.core_side (λ ready there makes.
    let way = gets_to counted s.program s.core ready a.number there in
    record {
      program = s.program;
      core = s.core;
      its_program = s.its_program;
      its_core = s.its_core;
      between = way.between;
      ready = ready;
      gets_there = way.gets_there;
      number = way.steps;
      after = s.after;
      access = access_by received s.program ready s.after old.memory new.memory a (next_of s.program ready) a.kind refl refl makes s.memory_side;
      cores = s.cores;
    })

-- the two sides of an access by the relation
record Makes (program : List Instr) (ready after : CoreState) (old new : List ℕ) (a : Access) : Type 0 where
  core_side : made_next (length old) program a ready ≡ Some after
  memory_side : memory_after old a ≡ Some new

makes_load : Received → (program : List Instr) (ready after : CoreState) (old new : List ℕ) (a : Access) → IsLoadOf program ready after old new a → Makes program ready after old new a
makes_load received program ready after old new a l =
    let there : eqb (l.address % length old) a.address ≡ true = grind (arith, nat_tests, l.at) in
    let right : eqb (get_or old a.address 0) a.value ≡ true = grind (arith, nat_tests, l.value) in
    let core = received.by_load program ready l.rd l.address a.value l.is_next ∙ sym l.core in
    record {
      core_side = rw (l.is_next, l.kind, there) (ap (λ (x : CoreState). Some x) core);
      memory_side = rw (l.kind, right) (ap (λ (words : List ℕ). Some words) (sym l.memory));
    }

makes_store : (program : List Instr) (ready after : CoreState) (old new : List ℕ) (a : Access) → IsStoreOf program ready after old new a → Makes program ready after old new a
makes_store program ready after old new a s =
    let there : eqb (s.address % length old) a.address ≡ true = grind (arith, nat_tests, s.at) in
    let right : eqb a.value a.value ≡ true = grind (arith, nat_tests) in
    let both = and_from _ _ there right in
    record {
      core_side = rw (s.is_next, s.kind, both) (ap (λ (x : CoreState). Some x) (sym s.core));
      memory_side = rw s.kind (ap (λ (words : List ℕ). Some words) (sym s.memory));
    }

makes_swap : Received → (program : List Instr) (ready after : CoreState) (old new : List ℕ) (a : Access) → IsSwapOf program ready after old new a → Makes program ready after old new a
makes_swap received program ready after old new a s =
    let there : eqb (s.address % length old) a.address ≡ true = grind (arith, nat_tests, s.at) in
    let right : eqb a.value a.value ≡ true = grind (arith, nat_tests) in
    let both = and_from _ _ there right in
    let word : eqb (get_or old a.address 0) a.old ≡ true = grind (arith, nat_tests, s.before) in
    let core = received.by_swap program ready s.rd s.address a.value a.old s.is_next ∙ sym s.core in
    record {
      core_side = rw (s.is_next, s.kind, both) (ap (λ (x : CoreState). Some x) core);
      memory_side = rw (s.kind, word) (ap (λ (words : List ℕ). Some words) (sym s.memory));
    }

makes_add : Received → (program : List Instr) (ready after : CoreState) (old new : List ℕ) (a : Access) → IsAddOf program ready after old new a → Makes program ready after old new a
makes_add received program ready after old new a s =
    let there : eqb (s.address % length old) a.address ≡ true = grind (arith, nat_tests, s.at) in
    let right : eqb (wrapped_sum a.old s.value) a.value ≡ true = eq-eqb (wrapped_sum a.old s.value) a.value (sym s.sum) in
    let both = and_from _ _ there right in
    let word : eqb (get_or old a.address 0) a.old ≡ true = grind (arith, nat_tests, s.before) in
    let core = received.by_add program ready s.rd s.address s.value a.old s.is_next ∙ sym s.core in
    record {
      core_side = rw (s.is_next, s.kind, both) (ap (λ (x : CoreState). Some x) core);
      memory_side = rw (s.kind, word) (ap (λ (words : List ℕ). Some words) (sym s.memory));
    }

makes : Received → (program : List Instr) (ready after : CoreState) (old new : List ℕ) (a : Access) → IsAccessOf program ready after old new a → Makes program ready after old new a
makes received program ready after old new a (inl l) = makes_load received program ready after old new a l
makes received program ready after old new a (inr (inl s)) = makes_store program ready after old new a s
makes received program ready after old new a (inr (inr (inl s))) = makes_swap received program ready after old new a s
makes received program ready after old new a (inr (inr (inr s))) = makes_add received program ready after old new a s

-- an access by the relation is taken
pub taken_from : Counted → Received → (programs : List (List Instr)) (old new : Flat) (a : Access) → Takes programs old new a → taken programs old a ≡ Some new
unfolding made_by
taken_from counted received programs old new a t =
    let there = is_at counted t.program t.core t.ready a.number (record { between = t.between; gets_there = t.gets_there; steps = t.number }) in
    let both = makes received t.program t.ready t.after old.memory new.memory a t.access in
    let core_side = ap (option_and_then (made_next (length old.memory) t.program a)) there ∙ both.core_side in
    taken_by_sides programs old a t.program t.core t.after new.memory t.its_program t.its_core core_side both.memory_side ∙ ap (λ (cores : List CoreState). Some (record { cores = cores; memory = new.memory })) (sym t.cores)
