-- The words that are operands, and what they stand for.
use Rattle.std.specs.Prelude.{ℕ, ◌+◌, ◌-◌, ◌^◌, ◌==◌, Bool, false, ◌&&◌, List, [], ◌∷◌, Option, Some, None, is_some, length, drop, slice_index, if◌then◌else◌, nat_lt, nat_le, unwrap_or}
use Rattle.std.specs.Str.{all_ascii_digits, bytes_eq}
use Rattle.std.specs.Str.Parse.{digits_value}
use Rattle.core_isa.specs.declared.fault.AsmKind.{AsmKind}
use Rattle.core_isa.specs.declared.fault.AsmKind.TheVariants as kind
use Rattle.core_isa.specs.Opcodes.{Shape, Register, Number, Target}
use Rattle.core_isa.specs.Lines.{Line, is_name, has_instruction, instruction_count}

-- what targets are looked up in: the place of each label, and the number of instructions
pub record Scope : Type 0 where
  pub places : List ℕ → Option ℕ
  pub count : ℕ

-- the line bears this name as its label
abbrev pub is_borne : List ℕ → Option (List ℕ) → Bool
is_borne name None = false
is_borne name (Some label) = is_name label && bytes_eq label name

-- the place of a label, which is the number of instructions before the line that bears it first
abbrev pub place_from : ℕ → List ℕ → List Line → Option ℕ
place_from place name [] = None
place_from place name (line ∷ rest) =
    if is_borne name line.label
    then Some place
    else place_from (if has_instruction line then place + 1 else place) name rest

-- the scope of these lines: the labels that they bear, and how many instructions they have
abbrev pub scope_of : List Line → Scope
scope_of lines = record { places = λ name. place_from 0 name lines; count = instruction_count lines }

-- `r0` to `r7`
abbrev pub is_register : List ℕ → Bool
is_register word = length word == 2 && (slice_index word 0 == 114 && (nat_le 48 (slice_index word 1) && nat_lt (slice_index word 1) 56))

-- the number of a register
abbrev pub register_value : List ℕ → ℕ
register_value word = slice_index word 1 - 48

-- one or more digits, with any number of leading zeros
abbrev pub is_digits : List ℕ → Bool
is_digits word = nat_lt 0 (length word) && all_ascii_digits word

-- the number that digits stand for
abbrev pub number_value : List ℕ → ℕ
number_value word = digits_value 10 word

-- a number is digits of a value below 2^32
abbrev pub is_number : List ℕ → Bool
is_number word = is_digits word && nat_lt (number_value word) (2 ^ 32)

-- a target that begins with `@` is a place, and else it is a label's name
abbrev pub is_place : List ℕ → Bool
is_place word = slice_index word 0 == 64

-- the digits are a place from 0 to the end
abbrev pub is_place_up_to : ℕ → List ℕ → Bool
is_place_up_to end word = is_digits word && nat_le (number_value word) end

-- a target is a place within the program, or the name of a label of the scope
abbrev pub is_target : Scope → List ℕ → Bool
is_target scope word =
    if is_place word
    then is_place_up_to scope.count (drop 1 word)
    else is_some (scope.places word)

-- the place that a target stands for
abbrev pub target_value : Scope → List ℕ → ℕ
target_value scope word = if is_place word then number_value (drop 1 word) else unwrap_or (scope.places word) 0

-- the operand is of this shape
abbrev pub is_operand : Scope → Shape → List ℕ → Bool
is_operand scope Register word = is_register word
is_operand scope Number word = is_number word
is_operand scope Target word = is_target scope word

-- the kind of fault of an operand that is not
abbrev pub fault_kind : Shape → AsmKind
fault_kind Register = kind.Register
fault_kind Number = kind.Number
fault_kind Target = kind.Label

-- what an operand of this shape stands for
abbrev pub operand_value : Scope → Shape → List ℕ → ℕ
operand_value scope Register word = register_value word
operand_value scope Number word = number_value word
operand_value scope Target word = target_value scope word
