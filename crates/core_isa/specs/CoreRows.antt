-- Cores, and what the definitions give of each.
use Rattle.std.specs.Prelude.{◌≡◌, ℕ, List, [], ◌∷◌, Option, Some, None, option_map, replicate, refl}
use Rattle.core_isa.specs.declared.instr.Instr.{Instr}
use Rattle.core_isa.specs.declared.instr.Instr.TheVariants.{Li, Sub, Addi, Ld, St, Swap, Fadd, Beq, Bne, Jmp, Tid, Halt}
use Rattle.core_isa.specs.declared.next.Next.{Next}
use Rattle.core_isa.specs.declared.next.Next.TheVariants as next
use Rattle.core_isa.specs.Core.{new_core, next_of, stepped, advanced, loaded}

-- what the core of tile 3 is about to do after n register instructions
abbrev next_after : List Instr → ℕ → Option Next
next_after program n = option_map (next_of program) (advanced program n (new_core 3))

-- sums and differences wrap
wraps : advanced (Li 1 4294967295 ∷ Addi 1 1 1 ∷ []) 2 (new_core 3) ≡ Some (record { tile = 3; registers = replicate 8 0; place = 2; steps = 2 })
unfolding advanced stepped
wraps = refl

borrows : next_after (Addi 2 0 1 ∷ Sub 1 0 2 ∷ St 1 0 8 ∷ []) 2 ≡ Some (next.Store 8 4294967295)
unfolding advanced stepped next_of
borrows = refl

-- an address is the wrapped sum, whatever memory there is
far : next_after (Ld 1 0 6 ∷ []) 0 ≡ Some (next.Load 1 6)
unfolding advanced stepped next_of
far = refl

wrapped : next_after (Li 2 4294967295 ∷ Ld 1 2 3 ∷ []) 1 ≡ Some (next.Load 1 2)
unfolding advanced stepped next_of
wrapped = refl

-- twice round the loop, and out of it
loop : next_after (Addi 1 1 1 ∷ Bne 1 2 3 ∷ Jmp 5 ∷ Li 2 2 ∷ Beq 0 0 0 ∷ Tid 4 ∷ St 4 1 0 ∷ []) 8 ≡ Some (next.Store 2 3)
unfolding advanced stepped next_of
loop = refl

-- a core halts at `halt` and at the end, and goes no further
halts : next_after (Jmp 2 ∷ Li 1 1 ∷ Halt ∷ Li 1 1 ∷ []) 1 ≡ Some next.Halted
unfolding advanced stepped next_of
halts = refl

ends : next_after (Jmp 2 ∷ Li 1 1 ∷ []) 1 ≡ Some next.Halted
unfolding advanced stepped next_of
ends = refl

no_further : advanced (Jmp 2 ∷ Li 1 1 ∷ Halt ∷ Li 1 1 ∷ []) 2 (new_core 3) ≡ None
unfolding advanced stepped
no_further = refl

-- a swap and an add have their register's value
swaps : next_after (Li 1 7 ∷ Swap 1 0 2 ∷ []) 1 ≡ Some (next.Swap 1 2 7)
unfolding advanced stepped next_of
swaps = refl

adds : next_after (Li 1 7 ∷ Fadd 1 1 4294967295 ∷ []) 1 ≡ Some (next.Add 1 6 7)
unfolding advanced stepped next_of
adds = refl

-- a load is no register instruction; once it is done its register has the value
not_register : advanced (Ld 7 0 0 ∷ []) 1 (new_core 3) ≡ None
unfolding advanced stepped
not_register = refl

receives : loaded (Ld 7 0 0 ∷ []) 9 (new_core 3) ≡ record { tile = 3; registers = 0 ∷ 0 ∷ 0 ∷ 0 ∷ 0 ∷ 0 ∷ 0 ∷ 9 ∷ []; place = 1; steps = 1 }
unfolding loaded
receives = refl

-- nor is a swap or an add, whose register receives the old word
not_swapped : advanced (Swap 7 0 0 ∷ []) 1 (new_core 3) ≡ None
unfolding advanced stepped
not_swapped = refl

takes_the_old_word : loaded (Fadd 7 0 0 ∷ []) 9 (new_core 3) ≡ record { tile = 3; registers = 0 ∷ 0 ∷ 0 ∷ 0 ∷ 0 ∷ 0 ∷ 0 ∷ 9 ∷ []; place = 1; steps = 1 }
unfolding loaded
takes_the_old_word = refl
