-- What the lines of a text assemble to is what the text assembles to, and a program.
use Rattle.std.proofs.Common.{◌≡◌, ℕ, List, [], Bor, Option, Some, Ok, Err, sym, ap, subst, ◌∙◌, arith}
use Rattle.std.proofs.Math.Path.{subst₂}
use Rattle.std.specs.List.{filter_map, slice_split, AllByRecursion}
use Rattle.core_isa.specs.declared.fault.AsmFault.{AsmFault}
use Rattle.core_isa.specs.declared.fault.AsmEnd.{AsmEnd}
use Rattle.core_isa.specs.declared.fault.AsmEnd.TheVariants.{Fault, NoMemory}
use Rattle.core_isa.specs.declared.instr.Instr.{Instr}
use Rattle.core_isa.specs.Program.{IsProgram, IsWithin}
use Rattle.core_isa.specs.Lines.{Line, lines_of, lines_with, is_line_feed}
use Rattle.core_isa.specs.Operands.{Scope, scope_of}
use Rattle.core_isa.specs.Assembly.{assembled, first_fault, instr_of, outcome, IfFault}
use Rattle.core_isa.specs.Reading.{IsExact, IsAssembled}
use Rattle.core_isa.specs.LineSeen.{texts_seen, lines_seen}
use Rattle.core_isa.proofs.Scopes.{IsExact-scope_of}

is_exact : (lines : List Line) (instrs : List Instr) → IsAssembled (scope_of lines) lines instrs → IsExact (scope_of lines)
is_exact lines instrs a = IsExact-scope_of lines (omega (arith, a.counted, a.limited))

-- lines without a fault assemble to their instructions
pub assembles : (text : List ℕ) (instrs : List Instr) → IsAssembled (scope_of (lines_of text)) (lines_of text) instrs → assembled text ≡ Ok instrs
unfolding assembled
assembles text instrs a =
    let lines = lines_of text in
    ap (λ (found : Option AsmFault). outcome found (filter_map (instr_of (scope_of lines)) lines)) a.faultless ∙ ap (λ (is : List Instr). Ok is) (sym (a.exact (is_exact lines instrs a)).0)

pub is_program : (lines : List Line) (instrs : List Instr) → IsAssembled (scope_of lines) lines instrs → IsProgram instrs
is_program lines instrs a = record {
  limited = a.limited;
  within = subst (λ (n : ℕ). AllByRecursion (IsWithin n) instrs) (sym a.counted) (a.exact (is_exact lines instrs a)).1;
}

-- the first fault of the lines is that of the text
pub faults : (text : List ℕ) (end : AsmEnd) → IfFault (λ fault. first_fault (scope_of (lines_of text)) [] (lines_of text) ≡ Some fault) end → IfFault (λ fault. assembled text ≡ Err fault) end
unfolding assembled
faults text (Fault fault) e = let lines = lines_of text in ap (λ (found : Option AsmFault). outcome found (filter_map (instr_of (scope_of lines)) lines)) e
faults text NoMemory e = tt

-- the lines that the code split a text into are those of the text
pub lines_are : (text bytes : List ℕ) (split raws : List (Bor (List ℕ))) → bytes ≡ text → texts_seen split ≡ slice_split is_line_feed bytes → raws ≡ split → lines_seen raws ≡ lines_of text
lines_are text bytes split raws e h same = ap lines_seen same ∙ ap lines_with h ∙ ap lines_of e

-- what holds of the scope and the lines that the code keeps holds of those of the text
pub of_text : (P : Scope → List Line → Type 0) (text : List ℕ) (whole : Scope) (scanned lines : List Line) → scanned ≡ lines_of text → lines ≡ lines_of text → whole ≡ scope_of scanned → P whole lines → P (scope_of (lines_of text)) (lines_of text)
of_text P text whole scanned lines s l w h = subst₂ P (w ∙ ap scope_of s) l h
