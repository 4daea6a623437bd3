-- Lists of accesses, and what the definitions give of each: an execution, or the position of the first that is bad.
use Rattle.std.specs.Prelude.{◌≡◌, ℕ, zero, suc, List, [], ◌∷◌, replicate, refl}
use Rattle.std.specs.Cmp.{below_irrefl}
use Rattle.std.proofs.Common.{lit≤}
use Rattle.std.proofs.Math.Path.{subst₂}
use Rattle.std.proofs.lemmas.Option.{same_Some, none-some}
use Rattle.core_isa.specs.declared.instr.Instr.{Instr}
use Rattle.core_isa.specs.declared.instr.Instr.TheVariants.{Li, Addi, Ld, St, Swap, Fadd, Halt}
use Rattle.core_isa.specs.declared.next.Next.TheVariants.{Halted}
use Rattle.core_isa.specs.Core.{CoreState, next_of, stepped, advanced, loaded}
use Rattle.report_text.specs.declared.access.Access.{Access}
use Rattle.report_text.specs.declared.access.AccessKind.TheVariants as kind
use Rattle.flat_ref.specs.declared.flat.Flat.{Flat}
use Rattle.flat_ref.specs.Taking.{core_at, made_by, taken, taken_all}
use Rattle.flat_ref.specs.Execution.{start, cores_at, executed_from, IsExecution, IsFirstBadAccess, AreHalted, IsWholeExecution}

-- tile, number, address, value
abbrev pub ld : ℕ → ℕ → ℕ → ℕ → Access
ld t n at v = record { tile = t; number = n; kind = kind.Load; address = at; value = v; time = 0; old = 0 }

-- a store, by the same
abbrev pub st : ℕ → ℕ → ℕ → ℕ → Access
st t n at v = record { tile = t; number = n; kind = kind.Store; address = at; value = v; time = 0; old = 0 }

-- tile, number, address, value, and the old word
abbrev pub sw : ℕ → ℕ → ℕ → ℕ → ℕ → Access
sw t n at v old = record { tile = t; number = n; kind = kind.Swap; address = at; value = v; time = 0; old = old }

-- an add, by the same
abbrev pub fa : ℕ → ℕ → ℕ → ℕ → ℕ → Access
fa t n at v old = record { tile = t; number = n; kind = kind.Add; address = at; value = v; time = 0; old = old }

-- eight words, in two lines
abbrev pub zeros : List ℕ
zeros = replicate 8 0

-- it is an execution
abbrev pub Runs : List (List Instr) → List Access → List ℕ → Type 0
Runs programs accesses steps = IsExecution programs zeros accesses steps

-- the first bad one is at this position
abbrev pub Refuses : List (List Instr) → List Access → List ℕ → ℕ → Type 0
Refuses programs accesses steps at = IsFirstBadAccess programs (start programs zeros) accesses steps at

-- a store, and a load of it
abbrev alone : List (List Instr)
alone = (Li 1 7 ∷ St 1 0 2 ∷ Ld 2 0 2 ∷ Halt ∷ []) ∷ []

-- what they leave: the core is at its `halt`, so this is an execution of the whole program
abbrev alone_after : Flat
alone_after = record { cores = record { tile = 0; registers = 0 ∷ 7 ∷ 7 ∷ 0 ∷ 0 ∷ 0 ∷ 0 ∷ 0 ∷ []; place = 3; steps = 3 } ∷ []; memory = 0 ∷ 0 ∷ 7 ∷ 0 ∷ [] }

one_halted : (program : List Instr) (core : CoreState) → next_of program core ≡ Halted → AreHalted (program ∷ []) (core ∷ [])
one_halted program core halted zero p c is_p is_c =
    subst₂ (λ x y. next_of x y ≡ Halted) (same_Some program p is_p) (same_Some core c is_c) halted
one_halted program core halted (suc t) p c is_p is_c = absurd (none-some p is_p)

alone_whole : IsWholeExecution alone (0 ∷ 0 ∷ 0 ∷ 0 ∷ []) (st 0 1 2 7 ∷ ld 0 2 2 7 ∷ []) (3 ∷ [])
unfolding executed_from cores_at taken_all taken made_by core_at advanced stepped next_of loaded
alone_whole = record { after = alone_after; executed = refl; halted = one_halted _ _ refl }

alone_other_value : Refuses alone (st 0 1 2 7 ∷ ld 0 2 2 8 ∷ []) (3 ∷ []) 1
unfolding executed_from cores_at taken_all taken made_by core_at advanced stepped next_of loaded
alone_other_value = record { within = lit≤ tt; before = refl; here = λ _. refl; refused = refl }

alone_no_load : Refuses alone (st 0 1 2 7 ∷ []) (3 ∷ []) 1
unfolding executed_from cores_at taken_all taken made_by core_at advanced stepped next_of loaded
alone_no_load = record { within = lit≤ tt; before = refl; here = λ past. absurd (below_irrefl 1 past); refused = refl }

-- the core is past its number of steps; it has halted before it; there is a number too many
alone_too_far : Refuses alone (st 0 1 2 7 ∷ ld 0 2 2 7 ∷ []) (2 ∷ []) 2
unfolding executed_from cores_at taken_all taken made_by core_at advanced stepped next_of loaded
alone_too_far = record { within = lit≤ tt; before = refl; here = λ past. absurd (below_irrefl 2 past); refused = refl }

alone_halted : Refuses alone (st 0 1 2 7 ∷ ld 0 2 2 7 ∷ []) (4 ∷ []) 2
unfolding executed_from cores_at taken_all taken made_by core_at advanced stepped next_of loaded
alone_halted = record { within = lit≤ tt; before = refl; here = λ past. absurd (below_irrefl 2 past); refused = refl }

alone_two_numbers : Refuses alone (st 0 1 2 7 ∷ ld 0 2 2 7 ∷ []) (3 ∷ 0 ∷ []) 2
unfolding executed_from cores_at taken_all taken made_by core_at advanced stepped next_of loaded
alone_two_numbers = record { within = lit≤ tt; before = refl; here = λ past. absurd (below_irrefl 2 past); refused = refl }

-- another number, another kind, another address, another tile
alone_other_number : Refuses alone (st 0 2 2 7 ∷ []) (3 ∷ []) 0
unfolding executed_from cores_at taken_all taken made_by core_at advanced stepped next_of loaded
alone_other_number = record { within = lit≤ tt; before = refl; here = λ _. refl; refused = refl }

alone_other_kind : Refuses alone (ld 0 1 2 7 ∷ []) (3 ∷ []) 0
unfolding executed_from cores_at taken_all taken made_by core_at advanced stepped next_of loaded
alone_other_kind = record { within = lit≤ tt; before = refl; here = λ _. refl; refused = refl }

alone_other_address : Refuses alone (st 0 1 3 7 ∷ []) (3 ∷ []) 0
unfolding executed_from cores_at taken_all taken made_by core_at advanced stepped next_of loaded
alone_other_address = record { within = lit≤ tt; before = refl; here = λ _. refl; refused = refl }

alone_other_tile : Refuses alone (st 1 1 2 7 ∷ []) (3 ∷ []) 0
unfolding executed_from cores_at taken_all taken made_by core_at advanced stepped next_of loaded
alone_other_tile = record { within = lit≤ tt; before = refl; here = λ _. refl; refused = refl }

-- addresses wrap: where memory has eight words, 14 is 6
abbrev wrapping : List (List Instr)
wrapping = (Li 1 4294967295 ∷ Addi 1 1 1 ∷ St 1 0 14 ∷ Ld 2 1 6 ∷ []) ∷ []

wraps : Runs wrapping (st 0 2 6 0 ∷ ld 0 3 6 0 ∷ []) (4 ∷ [])
unfolding executed_from cores_at taken_all taken made_by core_at advanced stepped next_of loaded
wraps = refl

not_wrapped : Refuses wrapping (st 0 2 14 0 ∷ []) (4 ∷ []) 0
unfolding executed_from cores_at taken_all taken made_by core_at advanced stepped next_of loaded
not_wrapped = record { within = lit≤ tt; before = refl; here = λ _. refl; refused = refl }

-- an add to a word, and a swap that puts the old word back
abbrev exchanging : List (List Instr)
exchanging = (Li 1 3 ∷ Fadd 1 0 0 ∷ Swap 1 0 0 ∷ Halt ∷ []) ∷ []

abbrev ten : List ℕ
ten = 10 ∷ 0 ∷ 0 ∷ 0 ∷ []

abbrev exchanging_after : Flat
exchanging_after = record { cores = record { tile = 0; registers = 0 ∷ 13 ∷ 0 ∷ 0 ∷ 0 ∷ 0 ∷ 0 ∷ 0 ∷ []; place = 3; steps = 3 } ∷ []; memory = ten }

exchanging_whole : IsWholeExecution exchanging ten (fa 0 1 0 13 10 ∷ sw 0 2 0 10 13 ∷ []) (3 ∷ [])
unfolding executed_from cores_at taken_all taken made_by core_at advanced stepped next_of loaded
exchanging_whole = record { after = exchanging_after; executed = refl; halted = one_halted _ _ refl }

-- the first bad one among accesses of that program is at this position
abbrev IsRefused : List Access → ℕ → Type 0
IsRefused accesses at = IsFirstBadAccess exchanging (start exchanging ten) accesses (3 ∷ []) at

-- an old word that is not the word: what it becomes, and what the register had
add_of_the_new_word : IsRefused (fa 0 1 0 13 13 ∷ sw 0 2 0 10 13 ∷ []) 0
unfolding executed_from cores_at taken_all taken made_by core_at advanced stepped next_of loaded
add_of_the_new_word = record { within = lit≤ tt; before = refl; here = λ _. refl; refused = refl }

add_of_the_register : IsRefused (fa 0 1 0 6 3 ∷ sw 0 2 0 10 13 ∷ []) 0
unfolding executed_from cores_at taken_all taken made_by core_at advanced stepped next_of loaded
add_of_the_register = record { within = lit≤ tt; before = refl; here = λ _. refl; refused = refl }

swap_of_the_new_word : IsRefused (fa 0 1 0 13 10 ∷ sw 0 2 0 10 10 ∷ []) 1
unfolding executed_from cores_at taken_all taken made_by core_at advanced stepped next_of loaded
swap_of_the_new_word = record { within = lit≤ tt; before = refl; here = λ _. refl; refused = refl }

-- a swap whose register had kept its value, an add that leaves another sum, and each for the other
swap_of_the_register_before : IsRefused (fa 0 1 0 13 10 ∷ sw 0 2 0 3 13 ∷ []) 1
unfolding executed_from cores_at taken_all taken made_by core_at advanced stepped next_of loaded
swap_of_the_register_before = record { within = lit≤ tt; before = refl; here = λ _. refl; refused = refl }

add_of_another_sum : IsRefused (fa 0 1 0 12 10 ∷ []) 0
unfolding executed_from cores_at taken_all taken made_by core_at advanced stepped next_of loaded
add_of_another_sum = record { within = lit≤ tt; before = refl; here = λ _. refl; refused = refl }

swap_for_an_add : IsRefused (sw 0 1 0 3 10 ∷ []) 0
unfolding executed_from cores_at taken_all taken made_by core_at advanced stepped next_of loaded
swap_for_an_add = record { within = lit≤ tt; before = refl; here = λ _. refl; refused = refl }

-- sums wrap
adds_wrapped : IsExecution ((Li 1 4294967295 ∷ Fadd 1 0 0 ∷ []) ∷ []) ten (fa 0 1 0 9 10 ∷ []) (2 ∷ [])
unfolding executed_from cores_at taken_all taken made_by core_at advanced stepped next_of loaded
adds_wrapped = refl
