-- What a program is: which instructions may stand in one, and how many.
use Rattle.std.specs.Prelude.{ℕ, ◌<◌, ◌≤◌, ◌^◌, List, length}
use Rattle.std.specs.List.{AllByRecursion}
use Rattle.core_isa.specs.declared.instr.Instr.{Instr}
use Rattle.core_isa.specs.declared.instr.Instr.TheVariants.{Li, Add, Sub, Addi, Ld, St, Swap, Fadd, Beq, Bne, Jmp, Tid, Halt}

-- how many instructions a program may have
abbrev pub limit : ℕ
limit = 1024

-- the number of a register, of which there are eight
abbrev pub IsRegister : ℕ → Type 0
IsRegister r = r < 8

-- a number in an instruction
abbrev pub IsNumber : ℕ → Type 0
IsNumber n = n < 2 ^ 32

-- the instruction may stand in a program of this length: a target is a place in it, or its end
abbrev pub IsWithin : ℕ → Instr → Type 0
IsWithin len (Li rd n) = IsRegister rd × IsNumber n
IsWithin len (Add rd ra rb) = IsRegister rd × IsRegister ra × IsRegister rb
IsWithin len (Sub rd ra rb) = IsRegister rd × IsRegister ra × IsRegister rb
IsWithin len (Addi rd ra n) = IsRegister rd × IsRegister ra × IsNumber n
IsWithin len (Ld rd ra n) = IsRegister rd × IsRegister ra × IsNumber n
IsWithin len (St rs ra n) = IsRegister rs × IsRegister ra × IsNumber n
IsWithin len (Swap rd ra n) = IsRegister rd × IsRegister ra × IsNumber n
IsWithin len (Fadd rd ra n) = IsRegister rd × IsRegister ra × IsNumber n
IsWithin len (Beq ra rb target) = IsRegister ra × IsRegister rb × (target ≤ len)
IsWithin len (Bne ra rb target) = IsRegister ra × IsRegister rb × (target ≤ len)
IsWithin len (Jmp target) = target ≤ len
IsWithin len (Tid rd) = IsRegister rd
IsWithin len Halt = Unit {0}

-- the instructions are those of a program
pub record IsProgram (instrs : List Instr) : Type 0 where
  pub limited : length instrs ≤ limit
  pub within : AllByRecursion (IsWithin (length instrs)) instrs
