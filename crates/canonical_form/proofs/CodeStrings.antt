-- The text of a program between three apostrophes.
use Rattle.std.proofs.Common.{◌≡◌, ℕ, suc, Bool, true, false, not, ◌&&◌, ◌||◌, ◌==◌, nat_le, nat_lt, List, [], ◌∷◌, ◌++◌, length, codes, refl, ap, ◌∙◌, arith, append_assoc}
use Rattle.std.proofs.lemmas.Bool.{and_parts}
use Rattle.std.proofs.lemmas.Bool.Decides.{nat_tests}
use Rattle.std.proofs.lemmas.List.Folds.{list_all-append}
use Rattle.std.specs.Char.{is_ascii, is_ascii_digit}
use Rattle.std.specs.Fmt.{decimal}
use Rattle.std.specs.List.{list_all}
use Rattle.core_isa.specs.declared.instr.Instr.{Instr}
use Rattle.core_isa.specs.declared.instr.Instr.TheVariants.{Li, Add, Sub, Addi, Ld, St, Swap, Fadd, Beq, Bne, Jmp, Tid, Halt}
use Rattle.core_isa.specs.Opcodes.{Shape, Register, Number, Target, form_of, opcode_of, operands_of}
use Rattle.core_isa.specs.Printing.{operand_text, operand_texts, text_of, program_text}
use Rattle.toml_parser.specs.Strings.{starts_string, quoted, body}
use Rattle.toml_writer.specs.Text.{has_three}
use Rattle.toml_writer.proofs.Bodies.{three, is_multi_literal, body_multi_literal}
use Rattle.toml.specs.Data.{string}
use Rattle.toml.specs.Parse.{atom, read_map}
use Rattle.toml.proofs.Turns.{val_atom}
use Rattle.canonical_form.proofs.ValueTexts.{IsValue}
use Rattle.canonical_form.proofs.Decimals.{decimal-digits, list_all-weaker}

-- a byte of a program's text: a line feed, or a printable one that is no apostrophe
abbrev pub is_code : ℕ → Bool
is_code c = c == 10 || ((nat_le 32 c && nat_lt c 127) && not (c == 39))

decimal-code : (n : ℕ) → list_all is_code (decimal n) ≡ true
decimal-code n = list_all-weaker is_ascii_digit is_code (λ c e. grind (arith, nat_tests)) (decimal n) (decimal-digits n)

operand-code : (shape : Shape) (n : ℕ) → list_all is_code (operand_text shape n) ≡ true
operand-code Register n = decimal-code n
operand-code Number n = decimal-code n
operand-code Target n = decimal-code n

operands-code : (shapes : List Shape) (operands : List ℕ) → list_all is_code (operand_texts shapes operands) ≡ true
operands-code [] operands = refl
operands-code (shape ∷ shapes) [] = refl
operands-code (shape ∷ shapes) (n ∷ operands) =
    rw (list_all-append is_code (operand_text shape n) (operand_texts shapes operands), operand-code shape n) (operands-code shapes operands)

word-code : (i : Instr) → list_all is_code (form_of (opcode_of i)).word ≡ true
word-code (Li rd n) = refl
word-code (Add rd ra rb) = refl
word-code (Sub rd ra rb) = refl
word-code (Addi rd ra n) = refl
word-code (Ld rd ra n) = refl
word-code (St rs ra n) = refl
word-code (Swap rd ra n) = refl
word-code (Fadd rd ra n) = refl
word-code (Beq ra rb target) = refl
word-code (Bne ra rb target) = refl
word-code (Jmp target) = refl
word-code (Tid rd) = refl
word-code Halt = refl

line-code : (word operands : List ℕ) → list_all is_code word ≡ true → list_all is_code operands ≡ true → list_all is_code (word ++ operands ++ 10 ∷ []) ≡ true
line-code word operands of_word of_operands = rw (list_all-append is_code (word ++ operands) (10 ∷ []), list_all-append is_code word operands, of_word, of_operands) refl

instr-code : (i : Instr) → list_all is_code (text_of i) ≡ true
instr-code i = line-code (form_of (opcode_of i)).word (operand_texts (form_of (opcode_of i)).shapes (operands_of i)) (word-code i) (operands-code (form_of (opcode_of i)).shapes (operands_of i))

-- each instruction is printed in such bytes
pub program_text-code : (instrs : List Instr) → list_all is_code (program_text instrs) ≡ true
program_text-code [] = refl
program_text-code (i ∷ instrs) = rw (list_all-append is_code (text_of i) (program_text instrs), instr-code i) (program_text-code instrs)

no_three : (text : List ℕ) → list_all is_code text ≡ true → has_three 39 text ≡ false
no_three [] all = refl
no_three (c ∷ text) all =
    let (here, more) = and_parts (is_code c) (list_all is_code text) all in
    let other : (c == 39) ≡ false = grind (arith, nat_tests) in
    rw (other, no_three text more)

-- the text between the delimiters, which begins on a line of its own
abbrev pub code_value : List ℕ → List ℕ
code_value text = codes "'''\n" ++ (text ++ codes "'''")

quoted_code : (text : List ℕ) → quoted (39 ∷ 39 ∷ 39 ∷ 10 ∷ text) ≡ body 39 true (suc (suc (suc (suc (length text))))) text
unfolding quoted
quoted_code text = refl

atom_string : (text : List ℕ) → starts_string text ≡ true → atom text ≡ read_map string (quoted text)
unfolding atom
atom_string text h = rw h

pub IsValue-code : (depth : ℕ) (text : List ℕ) → list_all is_code text ≡ true → IsValue depth (string text) (code_value text)
IsValue-code depth text all =
    let literal = list_all-weaker is_code is_multi_literal (λ c e. grind (arith, nat_tests)) text all in
    let ascii = list_all-weaker is_code is_ascii (λ c e. grind (arith, nat_tests)) text all in
    record {
      starts = λ rest. refl;
      reads = λ rest ends.
          let more = text ++ (three 39 ++ rest) in
          let whole = 39 ∷ 39 ∷ 39 ∷ 10 ∷ more in
          let split : code_value text ++ rest ≡ whole = ap (λ (t : List ℕ). 39 ∷ 39 ∷ 39 ∷ 10 ∷ t) (append_assoc text (three 39) rest) in
          let read = body_multi_literal text rest (suc (suc (suc (suc (length more))))) literal (no_three text all) ends.0.1 (omega arith) in
          rw split (val_atom depth whole refl refl ∙ atom_string whole refl ∙ rw (quoted_code more, read));
      ascii = rw (list_all-append is_ascii text (codes "'''"), ascii) refl;
    }
