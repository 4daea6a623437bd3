-- The report of a state has a number of steps for each tile, and whole lines of memory.
use Rattle.std.proofs.Common.{◌≡◌, ℕ, ◌*◌, ◌%◌, Bool, true, false, List, [], ◌∷◌, length, Option, Some, None, option_map, refl, sym, ap, ◌∙◌, arith, length-set}
use Rattle.std.specs.Prelude.{slice_set, if◌then◌else◌}
use Rattle.std.proofs.lemmas.Option.{same_Some, option_and_then_some}
use Rattle.std.proofs.lemmas.List.{length-map}
use Rattle.core_isa.specs.declared.instr.Instr.{Instr}
use Rattle.report_text.specs.declared.access.Access.{Access}
use Rattle.report_text.specs.Accesses.{writes}
use Rattle.report_text.specs.Report.{IsTabular}
use Rattle.doc_text.specs.Doc.{Doc}
use Rattle.flat_ref.specs.declared.flat.Flat.{Flat}
use Rattle.flat_ref.specs.Taking.{reads_right, taken, taken_all}
use Rattle.flat_ref.specs.Execution.{start, flat_memory}
use Rattle.flat_ref.proofs.Runs.{taken_all_none, taken_all_cons}
use Rattle.flat_ref.proofs.Takings.{sides}
use Rattle.chip_model.specs.Units.{UnitState}
use Rattle.chip_model.specs.ChipState.{ChipState, finished}
use Rattle.chip_model.specs.Reports.{report_of, report_with}
use Rattle.chip_laws.specs.DocFits.{DocFits}
use Rattle.bound_laws.specs.EveryRun.{EveryRun}

words_stay : (memory words : List ℕ) (a : Access) (right written : Bool) → (if right then Some (if written then slice_set memory a.address a.value else memory) else None) ≡ Some words
    → length words ≡ length memory
words_stay memory words a true true e = ap length (sym (same_Some _ _ e)) ∙ length-set {A = ℕ} memory a.address a.value
words_stay memory words a true false e = ap length (sym (same_Some _ _ e))
words_stay memory words a false written e = absurd cc

-- accesses that are taken one after another keep the number of words
pub memory_stays : (programs : List (List Instr)) (flat after : Flat) (accesses : List Access) → taken_all programs flat accesses ≡ Some after → length after.memory ≡ length flat.memory
memory_stays programs flat after [] e = ap (λ (f : Flat). length f.memory) (sym (same_Some flat after (sym (taken_all_none programs flat) ∙ e)))
memory_stays programs flat after (a ∷ rest) e =
    option_and_then_some (λ next. taken_all programs next rest) (taken programs flat a) after (sym (taken_all_cons programs flat a rest) ∙ e) (λ next one others.
    memory_stays programs next after rest others
    ∙ words_stay flat.memory next.memory a (reads_right flat.memory a) (writes a.kind) (sides programs flat next a one).memory_side)

-- the memory that an execution leaves has as many words as the first one
memory_left : (programs : List (List Instr)) (memory words : List ℕ) (accesses : List Access) (found : Option Flat) → taken_all programs (start programs memory) accesses ≡ found
    → option_map (λ (after : Flat). after.memory) found ≡ Some words → length words ≡ length memory
memory_left programs memory words accesses None taken e = absurd cc
memory_left programs memory words accesses (Some after) taken e =
    ap length (sym (same_Some _ _ e)) ∙ memory_stays programs (start programs memory) after accesses taken

whole_lines : (lines words : ℕ) → words ≡ 4 * lines → words % 4 ≡ 0
whole_lines lines words e = omega (arith, e)

tabular_with : (d : Doc) (s : ChipState) (is_finished : Bool) → length d.memory ≡ 4 * d.lines
    → (is_finished ≡ true → flat_memory d.programs d.memory (report_with d s is_finished).accesses ≡ Some (report_with d s is_finished).memory)
    → IsTabular (report_with d s is_finished)
tabular_with d s true full memory = record {
  tiles = length-map s.units (λ (unit : UnitState). unit.node.delivered) ∙ sym (length-map s.units (λ (unit : UnitState). unit.core.steps));
  lines = whole_lines d.lines _ (memory_left d.programs d.memory _ _ _ refl (memory refl) ∙ full);
}
tabular_with d s false full memory = record {
  tiles = length-map s.units (λ (unit : UnitState). unit.node.delivered) ∙ sym (length-map s.units (λ (unit : UnitState). unit.core.steps));
  lines = refl;
}

pub tabular : (d : Doc) (s : ChipState) → DocFits d → EveryRun d s.journal s → IsTabular (report_of d s)
unfolding report_of
tabular d s fits every = tabular_with d s (finished s) fits.memory every.memory
