-- The line of an instruction: its word and its operands, with one space before each, and a line feed.
use Rattle.std.specs.Prelude.{ℕ, List, [], ◌∷◌, ◌++◌}
use Rattle.std.specs.List.{zip, flat_map}
use Rattle.std.specs.Fmt.{decimal}
use Rattle.core_isa.specs.declared.instr.Instr.{Instr}
use Rattle.core_isa.specs.Opcodes.{Shape, Register, Number, Target, form_of, opcode_of, operands_of}

-- `r3`, `3`, `@3`
abbrev pub operand_text : Shape → ℕ → List ℕ
operand_text Register n = 114 ∷ decimal n
operand_text Number n = decimal n
operand_text Target n = 64 ∷ decimal n

-- the operands, each after a space
abbrev pub operand_texts : List Shape → List ℕ → List ℕ
operand_texts shapes operands = flat_map (λ p. 32 ∷ operand_text p.0 p.1) (zip shapes operands)

-- the line of an instruction
abbrev pub text_of : Instr → List ℕ
text_of i = (form_of (opcode_of i)).word ++ operand_texts (form_of (opcode_of i)).shapes (operands_of i) ++ 10 ∷ []

-- the text of a program, a line for each instruction
abbrev pub program_text : List Instr → List ℕ
program_text instrs = flat_map text_of instrs
