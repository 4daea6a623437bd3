-- The first check that fails, over two lists of checks.
use Rattle.std.proofs.Common.{◌≡◌, Bool, true, false, cond, List, [], ◌∷◌, ◌++◌, Option, Some, None, Result, Ok, Err, refl, ap, ◌∙◌}
use Rattle.std.specs.Option.{option_or}
use Rattle.core_isa.specs.declared.fault.AsmKind.{AsmKind}
use Rattle.core_isa.specs.declared.instr.Instr.{Instr}
use Rattle.core_isa.specs.Lines.{Line}
use Rattle.core_isa.specs.Operands.{Scope}
use Rattle.core_isa.specs.Assembly.{Check, first_failing, label_checks, instruction_checks, fault_of, instr_of}
use Rattle.core_isa.specs.Reading.{ReadsWords, ReadsLine}

pick_or : (fails : Bool) (kind : AsmKind) (o p q : Option AsmKind) → o ≡ option_or p q → cond fails (Some kind) o ≡ option_or (cond fails (Some kind) p) q
pick_or true kind o p q e = refl
pick_or false kind o p q e = e

pub first_failing-append : (first second : List Check) → first_failing (first ++ second) ≡ option_or (first_failing first) (first_failing second)
first_failing-append [] second = refl
first_failing-append (check ∷ rest) second = pick_or check.fails check.kind _ (first_failing rest) _ (first_failing-append rest second)

-- where the first checks hold, the fault is that of the second
pub first_failing-after : (first second : List Check) → first_failing first ≡ None → first_failing (first ++ second) ≡ first_failing second
first_failing-after first second e = first_failing-append first second ∙ ap (λ (o : Option AsmKind). option_or o (first_failing second)) e

-- a line whose label is good has what its words have
pub line_from_words : (whole before : Scope) (line : Line) (r : Result (Option Instr) AsmKind) → first_failing (label_checks before line.label) ≡ None → ReadsWords whole before line.words r → ReadsLine whole before line r
unfolding fault_of instr_of
line_from_words whole before line (Ok i) good h = (first_failing-after (label_checks before line.label) (instruction_checks whole before line.words) good ∙ h.0, h.1, h.2, h.3)
line_from_words whole before line (Err kind) good h = first_failing-after (label_checks before line.label) (instruction_checks whole before line.words) good ∙ h

-- a fault of the label is the line's
pub fault_from_label : (whole before : Scope) (line : Line) (kind : AsmKind) → first_failing (label_checks before line.label) ≡ Some kind → fault_of whole before line ≡ Some kind
unfolding fault_of
fault_from_label whole before line kind e =
    let second = instruction_checks whole before line.words in
    first_failing-append (label_checks before line.label) second ∙ ap (λ (o : Option AsmKind). option_or o (first_failing second)) e
