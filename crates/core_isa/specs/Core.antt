-- Cores: what a core is, and what an instruction does to it.
-- A new instruction has a clause in `effect_of`, and its arms in `Core::next` and `Core::step`.
use Rattle.std.specs.Prelude.{◌≡◌, ℕ, ◌≤◌, ◌+◌, ◌-◌, ◌%◌, ◌^◌, ◌==◌, suc, zero, Bool, true, false, if◌then◌else◌, List, length, Option, Some, None, unwrap_or, option_and_then, replicate, slice_index, slice_set, slice_get}
use Rattle.core_isa.specs.declared.instr.Instr.{Instr}
use Rattle.core_isa.specs.declared.instr.Instr.TheVariants.{Li, Add, Sub, Addi, Ld, St, Swap, Fadd, Beq, Bne, Jmp, Tid, Halt}
use Rattle.core_isa.specs.Program.{limit}
use Rattle.core_isa.specs.declared.next.Next.{Next}
use Rattle.core_isa.specs.declared.next.Next.TheVariants as next

-- a core: the number of its tile, its eight registers, the place of its next instruction, and how many it has done
pub record CoreState : Type 0 where
  pub tile : ℕ
  pub registers : List ℕ
  pub place : ℕ
  pub steps : ℕ

-- what every core keeps to: there are eight registers, and the place is one that a program can have
pub record IsCore (core : CoreState) : Type 0 where
  pub registers : length core.registers ≡ 8
  pub place : core.place ≤ limit

-- a core that has done nothing
abbrev pub new_core : ℕ → CoreState
new_core tile = record { tile = tile; registers = replicate 8 0; place = 0; steps = 0 }

-- what a register holds
abbrev pub register : ℕ → CoreState → ℕ
register r core = slice_index core.registers r

-- a sum of 32 bits, which wraps
abbrev pub wrapped_sum : ℕ → ℕ → ℕ
wrapped_sum a b = (a + b) % 2 ^ 32

-- a difference of 32 bits, which wraps
abbrev pub wrapped_difference : ℕ → ℕ → ℕ
wrapped_difference a b = (a + (2 ^ 32 - b)) % 2 ^ 32

-- one more instruction is done, and the core goes on at this place
abbrev pub gone_to : ℕ → CoreState → CoreState
gone_to place core = record core { place = place; steps = core.steps + 1 }

-- it goes on at the next place
abbrev pub gone_on : CoreState → CoreState
gone_on core = gone_to (core.place + 1) core

-- it goes on at the next place, with this value in a register
abbrev pub with_result : ℕ → ℕ → CoreState → CoreState
with_result rd value core = gone_on (record core { registers = slice_set core.registers rd value })

-- what an instruction does: the core becomes this one; or it loads into a register from an address;
-- or it stores at an address a value; or it swaps with a register, or adds to an address, a value, which is
-- the register's; or it halts
pub data Effect : Type 0 where
  Becomes : CoreState → Effect
  Loads : ℕ → ℕ → Effect
  Stores : ℕ → ℕ → Effect
  Swaps : ℕ → ℕ → ℕ → Effect
  Adds : ℕ → ℕ → ℕ → Effect
  Halts : Effect

-- the instruction set
abbrev pub effect_of : Instr → CoreState → Effect
effect_of (Li rd n) core = Becomes (with_result rd n core)
effect_of (Add rd ra rb) core = Becomes (with_result rd (wrapped_sum (register ra core) (register rb core)) core)
effect_of (Sub rd ra rb) core = Becomes (with_result rd (wrapped_difference (register ra core) (register rb core)) core)
effect_of (Addi rd ra n) core = Becomes (with_result rd (wrapped_sum (register ra core) n) core)
effect_of (Ld rd ra n) core = Loads rd (wrapped_sum (register ra core) n)
effect_of (St rs ra n) core = Stores (wrapped_sum (register ra core) n) (register rs core)
effect_of (Swap rd ra n) core = Swaps rd (wrapped_sum (register ra core) n) (register rd core)
effect_of (Fadd rd ra n) core = Adds rd (wrapped_sum (register ra core) n) (register rd core)
effect_of (Beq ra rb target) core = Becomes (gone_to (if register ra core == register rb core then target else core.place + 1) core)
effect_of (Bne ra rb target) core = Becomes (gone_to (if register ra core == register rb core then core.place + 1 else target) core)
effect_of (Jmp target) core = Becomes (gone_to target core)
effect_of (Tid rd) core = Becomes (with_result rd core.tile core)
effect_of Halt core = Halts

-- the instruction at a place of a program: at and past its end the core halts
abbrev pub instr_at : List Instr → ℕ → Instr
instr_at program place = unwrap_or (slice_get program place) Halt

-- the instruction is `halt`
abbrev pub is_halt : Instr → Bool
is_halt Halt = true
is_halt _ = false

-- what kind of instruction this is
abbrev pub next_kind : Effect → Next
next_kind (Becomes core) = next.Register
next_kind (Loads rd address) = next.Load rd address
next_kind (Stores address value) = next.Store address value
next_kind (Swaps rd address value) = next.Swap rd address value
next_kind (Adds rd address value) = next.Add rd address value
next_kind Halts = next.Halted

-- what the core is about to do
unfoldable pub next_of : List Instr → CoreState → Next
next_of program core = next_kind (effect_of (instr_at program core.place) core)

-- a load is next
abbrev pub is_load : Next → Bool
is_load (next.Load rd address) = true
is_load _ = false

-- a store is next
abbrev pub is_store : Next → Bool
is_store (next.Store address value) = true
is_store _ = false

-- a swap or an add is next, which reads a word and writes it at one time
abbrev pub is_read_modify_write : Next → Bool
is_read_modify_write (next.Swap rd address value) = true
is_read_modify_write (next.Add rd address value) = true
is_read_modify_write _ = false

-- the core that this makes, where it makes one
abbrev pub becomes : Effect → Option CoreState
becomes (Becomes core) = Some core
becomes _ = None

-- the core after one register instruction; none where the next is no register instruction
unfoldable pub stepped : List Instr → CoreState → Option CoreState
stepped program core = becomes (effect_of (instr_at program core.place) core)

-- the core after n register instructions; none where one of them is none
unfoldable pub advanced : List Instr → ℕ → CoreState → Option CoreState
advanced program zero core = Some core
advanced program (suc n) core = option_and_then (stepped program) (advanced program n core)

-- the core once the word that a load, a swap or an add reads has come
abbrev pub received : Effect → ℕ → CoreState → CoreState
received (Loads rd address) value core = with_result rd value core
received (Swaps rd address value) old core = with_result rd old core
received (Adds rd address value) old core = with_result rd old core
received _ value core = core

-- the core after the load, swap or add that is next, which read this word
unfoldable pub loaded : List Instr → ℕ → CoreState → CoreState
loaded program value core = received (effect_of (instr_at program core.place) core) value core

-- the core after the store that is next
abbrev pub stored : CoreState → CoreState
stored core = gone_on core

-- the core has done n more instructions, and is of the same tile
pub record DidMore (n : ℕ) (core new : CoreState) : Type 0 where
  pub steps : new.steps ≡ core.steps + n
  pub tile : new.tile ≡ core.tile
