-- Assembling lines one after another.
use Rattle.std.proofs.Common.{◌≡◌, ℕ, ◌+◌, ◌<◌, ◌≤◌, Bool, cond, List, [], ◌∷◌, ◌++◌, length, Option, Some, None, refl, sym, ap, ◌∙◌, arith}
use Rattle.std.specs.Prelude.{IfSome, is_some}
use Rattle.std.specs.List.{filter_map, AllByRecursion}
use Rattle.std.specs.Option.{option_to_list}
use Rattle.std.proofs.lemmas.List.{length-append}
use Rattle.std.proofs.lemmas.List.Elements.{filter_map-append}
use Rattle.core_isa.specs.declared.fault.AsmKind.{AsmKind}
use Rattle.core_isa.specs.declared.instr.Instr.{Instr}
use Rattle.core_isa.specs.Program.{IsWithin, limit}
use Rattle.core_isa.specs.Lines.{Line, has_instruction}
use Rattle.core_isa.specs.Operands.{Scope, scope_of}
use Rattle.core_isa.specs.Assembly.{fault_of, fault_at, fault_or, first_fault, instr_of}
use Rattle.core_isa.specs.LabelsSeen.{with_line}
use Rattle.core_isa.specs.Reading.{IsExact, IsAssembled}
use Rattle.core_isa.proofs.Scopes.{scope_of-push}
use Rattle.core_isa.proofs.Elements.{AllByRecursion-append}

-- of all lines, those that are done have no fault and these instructions
pub record Progress (whole : Scope) (done rest all : List Line) (before : Scope) (instrs : List Instr) : Type 0 where
  pub known : before ≡ scope_of done
  pub left : first_fault whole done rest ≡ first_fault whole [] all
  pub counted : length instrs ≡ before.count
  pub limited : before.count ≤ limit
  pub exact : IsExact whole → (instrs ≡ filter_map (instr_of whole) done) × AllByRecursion (IsWithin whole.count) instrs

pub begins : (whole : Scope) (all : List Line) → Progress whole [] all all (scope_of []) []
begins whole all = record { known = refl; left = refl; counted = refl; limited = omega arith; exact = λ _. (refl, tt) }

pub first_fault-cons : (whole : Scope) (done : List Line) (line : Line) (rest : List Line) → first_fault whole done (line ∷ rest) ≡ fault_or (fault_of whole (scope_of done) line) (length done + 1) (first_fault whole (done ++ line ∷ []) rest)
unfolding first_fault
first_fault-cons whole done line rest = refl

-- the line has a fault
pub stops : (whole : Scope) (done : List Line) (line : Line) (rest all : List Line) (before : Scope) (instrs : List Instr) (kind : AsmKind) → Progress whole done (line ∷ rest) all before instrs → fault_of whole before line ≡ Some kind
    → first_fault whole [] all ≡ Some (fault_at (length done + 1) kind)
stops whole done line rest all before instrs kind p e =
    sym p.left ∙ first_fault-cons whole done line rest ∙ ap (λ (f : Option AsmKind). fault_or f (length done + 1) (first_fault whole (done ++ line ∷ []) rest)) (ap (λ (s : Scope). fault_of whole s line) (sym p.known) ∙ e)

one_more : (whole : Scope) (line : Line) (i : Option Instr) → i ≡ instr_of whole line → option_to_list i ≡ filter_map (instr_of whole) (line ∷ [])
one_more whole line None e = rw (← e) refl
one_more whole line (Some i) e = rw (← e) refl

each_within : (len : ℕ) (i : Option Instr) → IfSome i (IsWithin len) → AllByRecursion (IsWithin len) (option_to_list i)
each_within len None h = tt
each_within len (Some i) h = (h, tt)

-- how many instructions there are with one more, where the line has one
count_with : (before : ℕ) (i : Option Instr) (has : Bool) → is_some i ≡ has → IfSome i (λ _. before < limit) → before ≤ limit → (before + length (option_to_list i) ≡ cond has (before + 1) before) × (cond has (before + 1) before ≤ limit)
count_with before None has e h le = rw (← e) (omega arith, le)
count_with before (Some i) has e h le = rw (← e) (refl, omega (arith, h))

-- the line has none
pub advances : (whole : Scope) (done : List Line) (line : Line) (rest all : List Line) (before new : Scope) (instrs : List Instr) (i : Option Instr) → Progress whole done (line ∷ rest) all before instrs
    → fault_of whole before line ≡ None → is_some i ≡ has_instruction line → IfSome i (λ _. before.count < limit) → (IsExact whole → (i ≡ instr_of whole line) × IfSome i (IsWithin whole.count)) → new ≡ with_line before line
    → Progress whole (done ++ line ∷ []) rest all new (instrs ++ option_to_list i)
advances whole done line rest all before new instrs i p faultless has room exact is =
    let count = count_with before.count i (has_instruction line) has room p.limited in
    let new_count : new.count ≡ cond (has_instruction line) (before.count + 1) before.count = ap (λ (s : Scope). s.count) is in
    record {
      known = is ∙ ap (λ (s : Scope). with_line s line) p.known ∙ sym (scope_of-push done line);
      left = sym (ap (λ (f : Option AsmKind). fault_or f (length done + 1) (first_fault whole (done ++ line ∷ []) rest)) (ap (λ (s : Scope). fault_of whole s line) (sym p.known) ∙ faultless)) ∙ sym (first_fault-cons whole done line rest) ∙ p.left;
      counted = length-append instrs (option_to_list i) ∙ ap (λ (n : ℕ). n + length (option_to_list i)) p.counted ∙ count.0 ∙ sym new_count;
      limited = rw new_count count.1;
      exact = λ e. (ap (λ (xs : List Instr). xs ++ option_to_list i) (p.exact e).0 ∙ ap (λ (ys : List Instr). filter_map (instr_of whole) done ++ ys) (one_more whole line i (exact e).0) ∙ sym (filter_map-append (instr_of whole) done (line ∷ [])), AllByRecursion-append (IsWithin whole.count) instrs (option_to_list i) (p.exact e).1 (each_within whole.count i (exact e).1));
    }

-- no line is left
pub ends : (whole : Scope) (all : List Line) (before : Scope) (instrs : List Instr) → Progress whole all [] all before instrs → IsAssembled whole all instrs
unfolding first_fault
ends whole all before instrs p = record {
  faultless = sym p.left;
  counted = p.counted ∙ ap (λ (s : Scope). s.count) p.known;
  limited = rw p.counted p.limited;
  exact = p.exact;
}
