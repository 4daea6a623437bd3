-- What the code reads from words, against what the words say.
use Rattle.std.specs.Prelude.{◌≡◌, ℕ, ◌<◌, ◌≤◌, ◌^◌, true, false, List, [], ◌∷◌, Option, Some, None, Result, MatchResult, IfSome, is_some, length, nat_lt}
use Rattle.std.specs.List.{filter_map, AllByRecursion}
use Rattle.core_isa.specs.declared.fault.AsmKind.{AsmKind}
use Rattle.core_isa.specs.declared.instr.Instr.{Instr}
use Rattle.core_isa.specs.declared.opcode.Opcode.{Opcode}
use Rattle.core_isa.specs.Program.{IsRegister, IsNumber, IsWithin, limit}
use Rattle.core_isa.specs.Lines.{Line, has_instruction, instruction_count}
use Rattle.core_isa.specs.Opcodes.{Shape, Register, Number, Target, form_of, instr_with}
use Rattle.core_isa.specs.Operands.{Scope, is_operand, operand_value, fault_kind}
use Rattle.core_isa.specs.Assembly.{first_failing, operand_checks, operand_values, instruction_checks, instr_of_words, fault_of, instr_of, first_fault}

-- each place in the scope is one of a program, and fits an instruction. Other texts have too many instructions, and so
-- a fault
pub record IsExact (scope : Scope) : Type 0 where
  pub placed : (name : List ℕ) (place : ℕ) → scope.places name ≡ Some place → place ≤ scope.count
  pub small : scope.count < 2 ^ 16

-- the value may be that of an operand of this shape
abbrev pub IsValue : ℕ → Shape → ℕ → Type 0
IsValue len Register v = IsRegister v
IsValue len Number v = IsNumber v
IsValue len Target v = v ≤ len

-- the values may be those of operands of these shapes
abbrev pub AreValues : ℕ → List Shape → List ℕ → Type 0
AreValues len [] [] = Unit {0}
AreValues len [] (v ∷ vs) = ⊥
AreValues len (shape ∷ shapes) [] = ⊥
AreValues len (shape ∷ shapes) (v ∷ vs) = IsValue len shape v × AreValues len shapes vs

-- the word is an operand of this shape with this value, or it is none and the fault is of the shape's kind
abbrev pub ReadsOne : {X : Type 0} → (X → ℕ) → Scope → Shape → List ℕ → Result X AsmKind → Type 0
ReadsOne value whole shape word r = MatchResult r
    (λ x. (is_operand whole shape word ≡ true) × (IsExact whole → (value x ≡ operand_value whole shape word) × IsValue whole.count shape (value x)))
    (λ kind. (is_operand whole shape word ≡ false) × (kind ≡ fault_kind shape))

-- the words are operands of these shapes with these values, or the fault is the first of their checks that fails
abbrev pub Reads : {X : Type 0} → (X → List ℕ) → Scope → List Shape → List (List ℕ) → Result X AsmKind → Type 0
Reads values whole shapes operands r = MatchResult r
    (λ x. (first_failing (operand_checks whole shapes operands) ≡ None)
    × (IsExact whole → (values x ≡ operand_values whole shapes operands) × AreValues whole.count shapes (values x)))
    (λ kind. first_failing (operand_checks whole shapes operands) ≡ Some kind)

-- the operands make this instruction, or the fault is the first of their checks that fails
abbrev pub ReadsInstr : Scope → Opcode → List (List ℕ) → Result Instr AsmKind → Type 0
ReadsInstr whole opcode operands r = MatchResult r
    (λ i. (first_failing (operand_checks whole (form_of opcode).shapes operands) ≡ None)
    × (IsExact whole → (i ≡ instr_with opcode (operand_values whole (form_of opcode).shapes operands)) × IsWithin whole.count i))
    (λ kind. first_failing (operand_checks whole (form_of opcode).shapes operands) ≡ Some kind)

-- the words, of which there is one, are this instruction, which the program has room for; or they have a fault
abbrev pub ReadsNamed : Scope → Scope → List (List ℕ) → Result Instr AsmKind → Type 0
ReadsNamed whole before words r = MatchResult r
    (λ i. (first_failing (instruction_checks whole before words) ≡ None) × (before.count < limit)
    × (IsExact whole → (Some i ≡ instr_of_words whole words) × IsWithin whole.count i))
    (λ kind. first_failing (instruction_checks whole before words) ≡ Some kind)

-- the same of any words, which may be none
abbrev pub ReadsWords : Scope → Scope → List (List ℕ) → Result (Option Instr) AsmKind → Type 0
ReadsWords whole before words r = MatchResult r
    (λ i. (first_failing (instruction_checks whole before words) ≡ None) × (is_some i ≡ nat_lt 0 (length words)) × IfSome i (λ _. before.count < limit)
    × (IsExact whole → (i ≡ instr_of_words whole words) × IfSome i (IsWithin whole.count)))
    (λ kind. first_failing (instruction_checks whole before words) ≡ Some kind)

-- the line has this instruction or none, or it has a fault
abbrev pub ReadsLine : Scope → Scope → Line → Result (Option Instr) AsmKind → Type 0
ReadsLine whole before line r = MatchResult r
    (λ i. (fault_of whole before line ≡ None) × (is_some i ≡ has_instruction line) × IfSome i (λ _. before.count < limit)
    × (IsExact whole → (i ≡ instr_of whole line) × IfSome i (IsWithin whole.count)))
    (λ kind. fault_of whole before line ≡ Some kind)

-- no line has a fault, and these are the instructions of the lines
pub record IsAssembled (whole : Scope) (lines : List Line) (instrs : List Instr) : Type 0 where
  pub faultless : first_fault whole [] lines ≡ None
  pub counted : length instrs ≡ instruction_count lines
  pub limited : length instrs ≤ limit
  pub exact : IsExact whole → (instrs ≡ filter_map (instr_of whole) lines) × AllByRecursion (IsWithin whole.count) instrs
