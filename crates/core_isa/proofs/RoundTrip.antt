-- The printed lines of a program assemble to it.
use Rattle.std.proofs.Common.{◌≡◌, ℕ, ◌+◌, ◌≤◌, Bool, true, List, [], ◌∷◌, ◌++◌, length, map, Option, None, Ok, refl, sym, ap, subst, ◌∙◌, append_assoc, arith}
use Rattle.std.specs.List.{filter_map, slice_split, AllByRecursion}
use Rattle.std.proofs.lemmas.Bool.{lt-ltb}
use Rattle.std.proofs.lemmas.List.Splits.{slice_split_at}
use Rattle.core_isa.specs.declared.fault.AsmKind.{AsmKind}
use Rattle.core_isa.specs.declared.fault.AsmFault.{AsmFault}
use Rattle.core_isa.specs.declared.instr.Instr.{Instr}
use Rattle.core_isa.specs.Program.{IsProgram, IsWithin, limit}
use Rattle.core_isa.specs.Lines.{Line, is_white, is_line_feed, words_of, source_line, lines_of, lines_with, has_instruction, instruction_count}
use Rattle.core_isa.specs.Operands.{Scope, scope_of}
use Rattle.core_isa.specs.Assembly.{assembled, fault_of, fault_or, outcome, first_fault, instr_of, program_of_lines}
use Rattle.core_isa.specs.Printing.{program_text}
use Rattle.core_isa.proofs.Scopes.{counted, instruction_count-cons, instruction_count-push}
use Rattle.core_isa.proofs.Words.{plain_line}
use Rattle.core_isa.proofs.Progress.{first_fault-cons}
use Rattle.core_isa.proofs.Printed.{body_of, line_in, text_of-body, body_line, source_line-body, fault_of-line_in, instr_of-line_in}

-- the line after the last line feed
abbrev last_line : Line
last_line = plain_line []

abbrev lines_in : List Instr → List Line
lines_in instrs = map line_in instrs ++ last_line ∷ []

source_line-nothing : source_line [] ≡ last_line
unfolding words_of is_white
source_line-nothing = refl

split_program : (len : ℕ) (instrs : List Instr) → len ≤ limit → AllByRecursion (IsWithin len) instrs → slice_split is_line_feed (program_text instrs) ≡ map body_of instrs ++ [] ∷ []
split_program len [] le h = refl
split_program len (i ∷ instrs) le h =
    ap (λ (text : List ℕ). slice_split is_line_feed (text ++ program_text instrs)) (text_of-body i) ∙ ap (slice_split is_line_feed) (append_assoc (body_of i) (10 ∷ []) (program_text instrs))
    ∙ slice_split_at is_line_feed (body_of i) 10 (program_text instrs) (body_line len i le h.0) refl ∙ ap (λ (parts : List (List ℕ)). body_of i ∷ parts) (split_program len instrs le h.1)

lines_with-bodies : (len : ℕ) (instrs : List Instr) → len ≤ limit → AllByRecursion (IsWithin len) instrs → lines_with (map body_of instrs ++ [] ∷ []) ≡ lines_in instrs
lines_with-bodies len [] le h = ap (λ (line : Line). line ∷ []) source_line-nothing
lines_with-bodies len (i ∷ instrs) le h =
    ap (λ (line : Line). line ∷ lines_with (map body_of instrs ++ [] ∷ [])) (source_line-body len i le h.0) ∙ ap (λ (lines : List Line). line_in i ∷ lines) (lines_with-bodies len instrs le h.1)

lines_of-program : (len : ℕ) (instrs : List Instr) → len ≤ limit → AllByRecursion (IsWithin len) instrs → lines_of (program_text instrs) ≡ lines_in instrs
lines_of-program len instrs le h = ap lines_with (split_program len instrs le h) ∙ lines_with-bodies len instrs le h

has_instruction-line_in : (i : Instr) → has_instruction (line_in i) ≡ true
has_instruction-line_in i = lt-ltb 0 _ (omega arith)

instruction_count-lines_in : (instrs : List Instr) → instruction_count (lines_in instrs) ≡ length instrs
instruction_count-lines_in [] = refl
instruction_count-lines_in (i ∷ instrs) = instruction_count-cons (line_in i) (lines_in instrs) ∙ ap (λ (more : Bool). counted more (instruction_count (lines_in instrs))) (has_instruction-line_in i) ∙ omega (arith, instruction_count-lines_in instrs)

fault_of-last_line : (whole before : Scope) → fault_of whole before last_line ≡ None
unfolding fault_of
fault_of-last_line whole before = refl

instr_of-last_line : (whole : Scope) → instr_of whole last_line ≡ None
unfolding instr_of
instr_of-last_line whole = refl

first_fault-end : (whole : Scope) (before : List Line) → first_fault whole before [] ≡ None
unfolding first_fault
first_fault-end whole before = refl

no_fault : (whole : Scope) (done : List Line) (instrs : List Instr) → whole.count ≤ limit → AllByRecursion (IsWithin whole.count) instrs → instruction_count done + length instrs ≤ limit → first_fault whole done (lines_in instrs) ≡ None
no_fault whole done [] le h room =
    first_fault-cons whole done last_line [] ∙ ap (λ (f : Option AsmKind). fault_or f (length done + 1) (first_fault whole (done ++ last_line ∷ []) [])) (fault_of-last_line whole (scope_of done)) ∙ first_fault-end whole (done ++ last_line ∷ [])
no_fault whole done (i ∷ instrs) le h room =
    let more = instruction_count-push done (line_in i) ∙ ap (λ (has : Bool). counted has (instruction_count done)) (has_instruction-line_in i) in
    first_fault-cons whole done (line_in i) (lines_in instrs)
    ∙ ap (λ (f : Option AsmKind). fault_or f (length done + 1) (first_fault whole (done ++ line_in i ∷ []) (lines_in instrs))) (fault_of-line_in whole (scope_of done) i le h.0 (omega arith))
    ∙ no_fault whole (done ++ line_in i ∷ []) instrs le h.1 (omega (arith, more))

instrs_again : (whole : Scope) (instrs : List Instr) → whole.count ≤ limit → AllByRecursion (IsWithin whole.count) instrs → filter_map (instr_of whole) (lines_in instrs) ≡ instrs
instrs_again whole [] le h = rw (instr_of-last_line whole) refl
instrs_again whole (i ∷ instrs) le h = rw (instr_of-line_in whole i le h.0) (ap (λ (is : List Instr). i ∷ is) (instrs_again whole instrs le h.1))

pub round_trip : (instrs : List Instr) → IsProgram instrs → assembled (program_text instrs) ≡ Ok instrs
unfolding assembled
round_trip instrs p =
    let whole = scope_of (lines_in instrs) in
    let count = instruction_count-lines_in instrs in
    let le : whole.count ≤ limit = omega (arith, count, p.limited) in
    let within = subst (λ (n : ℕ). AllByRecursion (IsWithin n) instrs) (sym count) p.within in
    ap program_of_lines (lines_of-program (length instrs) instrs p.limited p.within)
    ∙ ap (λ (found : Option AsmFault). outcome found (filter_map (instr_of whole) (lines_in instrs))) (no_fault whole [] instrs le within (omega (arith, p.limited)))
    ∙ ap (λ (is : List Instr). Ok is) (instrs_again whole instrs le within)
