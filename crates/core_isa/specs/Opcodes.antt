-- The table of the instruction set: for each opcode its word and the shapes of its operands, from left to right.
-- A new instruction has a line in each definition of this file, one in `IsWithin`, and its arms in `Opcode`,
-- `Instr::opcode`, `instr_with_operands` and `push_operands`.
use Rattle.std.specs.Prelude.{ℕ, List, [], ◌∷◌, Option, slice_index, codes}
use Rattle.std.specs.List.{find}
use Rattle.std.specs.Str.{bytes_eq}
use Rattle.core_isa.specs.declared.instr.Instr.{Instr}
use Rattle.core_isa.specs.declared.instr.Instr.TheVariants.{Li, Add, Sub, Addi, Ld, St, Swap, Fadd, Beq, Bne, Jmp, Tid, Halt}
use Rattle.core_isa.specs.declared.opcode.Opcode.{Opcode}
use Rattle.core_isa.specs.declared.opcode.Opcode.TheVariants as opcode

-- what an operand is: a register, a number, or the target of a jump
pub data Shape : Type 0 where
  Register : Shape
  Number : Shape
  Target : Shape

-- of an opcode its word, and the shapes of its operands
pub record Form : Type 0 where
  pub word : List ℕ
  pub shapes : List Shape

-- the table
abbrev pub form_of : Opcode → Form
form_of opcode.Li = record { word = codes "li"; shapes = Register ∷ Number ∷ [] }
form_of opcode.Add = record { word = codes "add"; shapes = Register ∷ Register ∷ Register ∷ [] }
form_of opcode.Sub = record { word = codes "sub"; shapes = Register ∷ Register ∷ Register ∷ [] }
form_of opcode.Addi = record { word = codes "addi"; shapes = Register ∷ Register ∷ Number ∷ [] }
form_of opcode.Ld = record { word = codes "ld"; shapes = Register ∷ Register ∷ Number ∷ [] }
form_of opcode.St = record { word = codes "st"; shapes = Register ∷ Register ∷ Number ∷ [] }
form_of opcode.Swap = record { word = codes "swap"; shapes = Register ∷ Register ∷ Number ∷ [] }
form_of opcode.Fadd = record { word = codes "fadd"; shapes = Register ∷ Register ∷ Number ∷ [] }
form_of opcode.Beq = record { word = codes "beq"; shapes = Register ∷ Register ∷ Target ∷ [] }
form_of opcode.Bne = record { word = codes "bne"; shapes = Register ∷ Register ∷ Target ∷ [] }
form_of opcode.Jmp = record { word = codes "jmp"; shapes = Target ∷ [] }
form_of opcode.Tid = record { word = codes "tid"; shapes = Register ∷ [] }
form_of opcode.Halt = record { word = codes "halt"; shapes = [] }

-- the opcodes, in the order of the table
abbrev pub all_opcodes : List Opcode
all_opcodes = opcode.Li ∷ opcode.Add ∷ opcode.Sub ∷ opcode.Addi ∷ opcode.Ld ∷ opcode.St ∷ opcode.Swap ∷ opcode.Fadd ∷ opcode.Beq ∷ opcode.Bne ∷ opcode.Jmp ∷ opcode.Tid ∷ opcode.Halt ∷ []

-- the opcode that a word names
unfoldable pub opcode_named : List ℕ → Option Opcode
opcode_named word = find (λ o. bytes_eq word (form_of o).word) all_opcodes

-- the instruction with these operands, in the order of the table
abbrev pub instr_with : Opcode → List ℕ → Instr
instr_with opcode.Li v = Li (slice_index v 0) (slice_index v 1)
instr_with opcode.Add v = Add (slice_index v 0) (slice_index v 1) (slice_index v 2)
instr_with opcode.Sub v = Sub (slice_index v 0) (slice_index v 1) (slice_index v 2)
instr_with opcode.Addi v = Addi (slice_index v 0) (slice_index v 1) (slice_index v 2)
instr_with opcode.Ld v = Ld (slice_index v 0) (slice_index v 1) (slice_index v 2)
instr_with opcode.St v = St (slice_index v 0) (slice_index v 1) (slice_index v 2)
instr_with opcode.Swap v = Swap (slice_index v 0) (slice_index v 1) (slice_index v 2)
instr_with opcode.Fadd v = Fadd (slice_index v 0) (slice_index v 1) (slice_index v 2)
instr_with opcode.Beq v = Beq (slice_index v 0) (slice_index v 1) (slice_index v 2)
instr_with opcode.Bne v = Bne (slice_index v 0) (slice_index v 1) (slice_index v 2)
instr_with opcode.Jmp v = Jmp (slice_index v 0)
instr_with opcode.Tid v = Tid (slice_index v 0)
instr_with opcode.Halt v = Halt

-- the opcode of an instruction
abbrev pub opcode_of : Instr → Opcode
opcode_of (Li rd n) = opcode.Li
opcode_of (Add rd ra rb) = opcode.Add
opcode_of (Sub rd ra rb) = opcode.Sub
opcode_of (Addi rd ra n) = opcode.Addi
opcode_of (Ld rd ra n) = opcode.Ld
opcode_of (St rs ra n) = opcode.St
opcode_of (Swap rd ra n) = opcode.Swap
opcode_of (Fadd rd ra n) = opcode.Fadd
opcode_of (Beq ra rb target) = opcode.Beq
opcode_of (Bne ra rb target) = opcode.Bne
opcode_of (Jmp target) = opcode.Jmp
opcode_of (Tid rd) = opcode.Tid
opcode_of Halt = opcode.Halt

-- the operands of an instruction, in the order of the table
abbrev pub operands_of : Instr → List ℕ
operands_of (Li rd n) = rd ∷ n ∷ []
operands_of (Add rd ra rb) = rd ∷ ra ∷ rb ∷ []
operands_of (Sub rd ra rb) = rd ∷ ra ∷ rb ∷ []
operands_of (Addi rd ra n) = rd ∷ ra ∷ n ∷ []
operands_of (Ld rd ra n) = rd ∷ ra ∷ n ∷ []
operands_of (St rs ra n) = rs ∷ ra ∷ n ∷ []
operands_of (Swap rd ra n) = rd ∷ ra ∷ n ∷ []
operands_of (Fadd rd ra n) = rd ∷ ra ∷ n ∷ []
operands_of (Beq ra rb target) = ra ∷ rb ∷ target ∷ []
operands_of (Bne ra rb target) = ra ∷ rb ∷ target ∷ []
operands_of (Jmp target) = target ∷ []
operands_of (Tid rd) = rd ∷ []
operands_of Halt = []
