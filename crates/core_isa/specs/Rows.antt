-- Texts, and what the definition gives of each.
use Rattle.std.specs.Prelude.{◌≡◌, ℕ, List, [], ◌∷◌, ◌++◌, Ok, Err, codes, refl}
use Rattle.std.specs.Fmt.{digits}
use Rattle.core_isa.specs.declared.fault.AsmKind.{AsmKind}
use Rattle.core_isa.specs.declared.instr.Instr.{Instr}
use Rattle.core_isa.specs.declared.fault.AsmKind.TheVariants as kind
use Rattle.core_isa.specs.declared.instr.Instr.TheVariants.{Li, Addi, Ld, Swap, Fadd, Beq, Bne, Jmp, Halt}
use Rattle.core_isa.specs.Lines.{words_of, is_white}
use Rattle.core_isa.specs.Opcodes.{opcode_named}
use Rattle.core_isa.specs.Printing.{program_text}
use Rattle.core_isa.specs.Assembly.{assembled, fault_at, fault_of, instr_of, first_fault}

-- the text assembles to these instructions
abbrev pub Assembles : List ℕ → List Instr → Type 0
Assembles text instrs = assembled text ≡ Ok instrs

-- the first fault of the text
abbrev pub Faults : List ℕ → ℕ → AsmKind → Type 0
Faults text line kind = assembled text ≡ Err (fault_at line kind)

-- a line feed
abbrev lf : List ℕ
lf = 10 ∷ []

empty : Assembles [] []
unfolding assembled first_fault fault_of instr_of words_of is_white opcode_named
empty = refl

-- a tab and a carriage return divide words, and a `#` in a word cuts it there
white : Assembles (codes "li r1 4294967295" ++ 13 ∷ lf ++ 9 ∷ codes "addi r1  r1 1#a: b" ++ lf ++ codes "# none") (Li 1 4294967295 ∷ Addi 1 1 1 ∷ [])
unfolding assembled first_fault fault_of instr_of words_of is_white opcode_named
white = refl

-- the end of the text is a place too, and numbers may begin with zeros;
-- a label on a line of its own names the instruction after it, and one after the last names the end
labels : Assembles (codes "wait: ld r1 r0 4" ++ lf ++ codes "beq r1 r0 wait" ++ lf ++ codes "jmp @005" ++ lf ++ codes "jmp end" ++ lf ++ codes "other:" ++ lf ++ codes "bne r1 r0 other" ++ lf ++ codes "end:") (Ld 1 0 4 ∷ Beq 1 0 0 ∷ Jmp 5 ∷ Jmp 5 ∷ Bne 1 0 4 ∷ [])
unfolding assembled first_fault fault_of instr_of words_of is_white opcode_named
labels = refl

exchanges : Assembles (codes "swap r1 r0 4" ++ lf ++ codes "fadd r2 r7 01") (Swap 1 0 4 ∷ Fadd 2 7 1 ∷ [])
unfolding assembled first_fault fault_of instr_of words_of is_white opcode_named
exchanges = refl

swap_of_a_register : Faults (codes "swap r1 r0 r2") 1 kind.Number
unfolding assembled first_fault fault_of instr_of words_of is_white opcode_named
swap_of_a_register = refl

past_the_end : Faults (codes "jmp @3" ++ lf ++ codes "halt") 1 kind.Label
unfolding assembled first_fault fault_of instr_of words_of is_white opcode_named
past_the_end = refl

ninth_register : Faults (codes "li r8 1") 1 kind.Register
unfolding assembled first_fault fault_of instr_of words_of is_white opcode_named
ninth_register = refl

wide_number : Faults (codes "li r1 4294967296") 1 kind.Number
unfolding assembled first_fault fault_of instr_of words_of is_white opcode_named
wide_number = refl

label_twice : Faults (codes "a:" ++ lf ++ codes "halt" ++ lf ++ codes "a:") 3 kind.Label
unfolding assembled first_fault fault_of instr_of words_of is_white opcode_named
label_twice = refl

unknown_label : Faults (codes "jmp nowhere") 1 kind.Label
unfolding assembled first_fault fault_of instr_of words_of is_white opcode_named
unknown_label = refl

too_few : Faults (codes "add r1 r2") 1 kind.Count
unfolding assembled first_fault fault_of instr_of words_of is_white opcode_named
too_few = refl

unknown_word : Faults (codes "mul r1 r2 r3") 1 kind.Word
unfolding assembled first_fault fault_of instr_of words_of is_white opcode_named
unknown_word = refl

-- a label and its line's instruction count also where the line is bad: line 2 is the fault, and not line 1
two_labels : Faults (codes "jmp @2" ++ lf ++ codes "a: b: halt" ++ lf ++ codes "jmp a") 2 kind.Word
unfolding assembled first_fault fault_of instr_of words_of is_white opcode_named
two_labels = refl

printed : program_text (Li 7 4294967295 ∷ Swap 1 0 4 ∷ Fadd 2 3 0 ∷ Bne 1 2 0 ∷ Halt ∷ []) ≡ codes "li r7 4294967295" ++ lf ++ codes "swap r1 r0 4" ++ lf ++ codes "fadd r2 r3 0" ++ lf ++ codes "bne r1 r2 @0" ++ lf ++ codes "halt" ++ lf
unfolding digits
printed = refl
