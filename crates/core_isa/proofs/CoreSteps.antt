-- What register instructions keep of a core, and how they follow each other.
use Rattle.std.proofs.Common.{◌≡◌, ℕ, ◌+◌, ◌<◌, zero, suc, List, Option, Some, None, option_and_then, IsSome, ◌↔◌, ap, ◌∙◌, subst, refl, inl, inr, add-one, add-zero, add-suc, arith}
use Rattle.std.proofs.lemmas.Bool.{cases_lt}
use Rattle.std.proofs.lemmas.Option.{same_Some, option_and_then_some}
use Rattle.core_isa.specs.declared.instr.Instr.{Instr}
use Rattle.core_isa.specs.declared.instr.Instr.TheVariants.{Li, Add, Sub, Addi, Ld, St, Swap, Fadd, Beq, Bne, Jmp, Tid, Halt}
use Rattle.core_isa.specs.declared.next.Next.TheVariants as next
use Rattle.core_isa.specs.Core.{CoreState, Effect, Becomes, Loads, Stores, Swaps, Adds, Halts, becomes, effect_of, instr_at, next_of, stepped, advanced, loaded, with_result, next_kind, received, DidMore}

one_more : (x core new : CoreState) → DidMore 1 core x → Some x ≡ Some new → DidMore 1 core new
one_more x core new h e = subst (DidMore 1 core) (same_Some x new e) h

did_one : (i : Instr) (core new : CoreState) → becomes (effect_of i core) ≡ Some new → DidMore 1 core new
did_one (Li rd n) core new e = one_more _ core new (record { steps = refl; tile = refl }) e
did_one (Add rd ra rb) core new e = one_more _ core new (record { steps = refl; tile = refl }) e
did_one (Sub rd ra rb) core new e = one_more _ core new (record { steps = refl; tile = refl }) e
did_one (Addi rd ra n) core new e = one_more _ core new (record { steps = refl; tile = refl }) e
did_one (Ld rd ra n) core new e = cc
did_one (St rs ra n) core new e = cc
did_one (Swap rd ra n) core new e = cc
did_one (Fadd rd ra n) core new e = cc
did_one (Beq ra rb target) core new e = one_more _ core new (record { steps = refl; tile = refl }) e
did_one (Bne ra rb target) core new e = one_more _ core new (record { steps = refl; tile = refl }) e
did_one (Jmp target) core new e = one_more _ core new (record { steps = refl; tile = refl }) e
did_one (Tid rd) core new e = one_more _ core new (record { steps = refl; tile = refl }) e
did_one Halt core new e = cc

pub DidMore-stepped : (program : List Instr) (core new : CoreState) → stepped program core ≡ Some new → DidMore 1 core new
unfolding stepped
DidMore-stepped program core new e = did_one (instr_at program core.place) core new e

pub advanced-zero : (program : List Instr) (core : CoreState) → advanced program 0 core ≡ Some core
unfolding advanced
advanced-zero program core = refl

pub advanced_more : (program : List Instr) (n : ℕ) (core : CoreState) → advanced program (n + 1) core ≡ option_and_then (stepped program) (advanced program n core)
unfolding advanced
advanced_more program n core = ap (λ (k : ℕ). advanced program k core) (add-one n)

pub DidMore-advanced : (program : List Instr) (n : ℕ) (core new : CoreState) → advanced program n core ≡ Some new → DidMore n core new
unfolding advanced
DidMore-advanced program zero core new e =
    subst (DidMore 0 core) (same_Some core new e) (record { steps = omega arith; tile = refl })
DidMore-advanced program (suc n) core new e =
    option_and_then_some (stepped program) (advanced program n core) new e (λ x was step. let before = DidMore-advanced program n core x was in let last = DidMore-stepped program x new step in record { steps = omega arith; tile = last.tile ∙ before.tile })

-- a core that cannot do one more after m cannot do any greater number
pub advanced_stuck : (program : List Instr) (m n : ℕ) (core last : CoreState) → advanced program m core ≡ Some last → stepped program last ≡ None → m < n → advanced program n core ≡ None
unfolding advanced
advanced_stuck program m zero core last reached stuck less = absurd (omega arith)
advanced_stuck program m (suc n) core last reached stuck less =
    elim (cases_lt m n) [
      | inl before ↦ ap (option_and_then (stepped program)) (advanced_stuck program m n core last reached stuck before)
      | inr after ↦ let same : n ≡ m = omega arith in ap (λ (k : ℕ). option_and_then (stepped program) (advanced program k core)) same ∙ (ap (option_and_then (stepped program)) reached ∙ stuck)
    ]

none_more : (program : List Instr) (found : Option CoreState) → found ≡ option_and_then (advanced program 0) found
unfolding advanced
none_more program None = refl
none_more program (Some core) = refl

one_after : (program : List Instr) (n : ℕ) (found : Option CoreState) → option_and_then (stepped program) (option_and_then (advanced program n) found) ≡ option_and_then (advanced program (suc n)) found
unfolding advanced
one_after program n None = refl
one_after program n (Some core) = refl

-- m register instructions and then n are m + n
pub advanced-add : (program : List Instr) (m n : ℕ) (core : CoreState) → advanced program (m + n) core ≡ option_and_then (advanced program n) (advanced program m core)
unfolding advanced
advanced-add program m zero core =
    ap (λ (k : ℕ). advanced program k core) (add-zero m) ∙ none_more program (advanced program m core)
advanced-add program m (suc n) core =
    ap (λ (k : ℕ). advanced program k core) (add-suc m n) ∙ (ap (option_and_then (stepped program)) (advanced-add program m n core) ∙ one_after program n (advanced program m core))

can_step_by : (effect : Effect) → (next_kind effect ≡ next.Register) ↔ IsSome (becomes effect)
can_step_by (Becomes core) = (λ _. refl, λ _. refl)
can_step_by (Loads rd address) = (λ e. cc, λ h. cc)
can_step_by (Stores address value) = (λ e. cc, λ h. cc)
can_step_by (Swaps rd address value) = (λ e. cc, λ h. cc)
can_step_by (Adds rd address value) = (λ e. cc, λ h. cc)
can_step_by Halts = (λ e. cc, λ h. cc)

pub can_step : (program : List Instr) (core : CoreState) → (next_of program core ≡ next.Register) ↔ IsSome (stepped program core)
unfolding next_of stepped
can_step program core = can_step_by (effect_of (instr_at program core.place) core)

loaded_by : (effect : Effect) (core : CoreState) (rd address value : ℕ) → next_kind effect ≡ next.Load rd address → received effect value core ≡ with_result rd value core
loaded_by (Becomes new) core rd address value e = cc
loaded_by (Loads r a) core rd address value e = let same : r ≡ rd = cc in ap (λ (x : ℕ). with_result x value core) same
loaded_by (Stores a v) core rd address value e = cc
loaded_by (Swaps r a v) core rd address value e = cc
loaded_by (Adds r a v) core rd address value e = cc
loaded_by Halts core rd address value e = cc

pub loaded-at : (program : List Instr) (core : CoreState) (rd address value : ℕ) → next_of program core ≡ next.Load rd address → loaded program value core ≡ with_result rd value core
unfolding next_of loaded
loaded-at program core rd address value e =
    loaded_by (effect_of (instr_at program core.place) core) core rd address value e

swapped_by : (effect : Effect) (core : CoreState) (rd address value word : ℕ) → next_kind effect ≡ next.Swap rd address value → received effect word core ≡ with_result rd word core
swapped_by (Becomes new) core rd address value word e = cc
swapped_by (Loads r a) core rd address value word e = cc
swapped_by (Stores a v) core rd address value word e = cc
swapped_by (Swaps r a v) core rd address value word e = let same : r ≡ rd = cc in ap (λ (x : ℕ). with_result x word core) same
swapped_by (Adds r a v) core rd address value word e = cc
swapped_by Halts core rd address value word e = cc

pub swapped-at : (program : List Instr) (core : CoreState) (rd address value word : ℕ) → next_of program core ≡ next.Swap rd address value → loaded program word core ≡ with_result rd word core
unfolding next_of loaded
swapped-at program core rd address value word e =
    swapped_by (effect_of (instr_at program core.place) core) core rd address value word e

added_by : (effect : Effect) (core : CoreState) (rd address value word : ℕ) → next_kind effect ≡ next.Add rd address value → received effect word core ≡ with_result rd word core
added_by (Becomes new) core rd address value word e = cc
added_by (Loads r a) core rd address value word e = cc
added_by (Stores a v) core rd address value word e = cc
added_by (Swaps r a v) core rd address value word e = cc
added_by (Adds r a v) core rd address value word e = let same : r ≡ rd = cc in ap (λ (x : ℕ). with_result x word core) same
added_by Halts core rd address value word e = cc

pub added-at : (program : List Instr) (core : CoreState) (rd address value word : ℕ) → next_of program core ≡ next.Add rd address value → loaded program word core ≡ with_result rd word core
unfolding next_of loaded
added-at program core rd address value word e =
    added_by (effect_of (instr_at program core.place) core) core rd address value word e
