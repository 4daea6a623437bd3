-- A document is forward where each of its programs is, instruction by instruction.
use Rattle.std.proofs.Common.{◌≡◌, ◌<◌, ℕ, zero, suc, Bool, true, false, List, [], ◌∷◌, Some, length, get_or, arith, refl, ap, sym, ◌∙◌}
use Rattle.std.specs.Prelude.{◌&&◌, nat_lt, slice_get, Contains}
use Rattle.std.specs.List.{list_all}
use Rattle.std.proofs.lemmas.Bool.{lt-ltb, ltb-true}
use Rattle.std.proofs.lemmas.Option.{slice_get-get_or}
use Rattle.core_isa.specs.declared.instr.Instr.{Instr}
use Rattle.doc_text.specs.Doc.{Doc}
use Rattle.chip_model.specs.Schedules.{targets, IsForward}
use Rattle.progress_core.specs.Forward.{ProgramIsForward}

-- the program that a loop has come to
pub item_here : (items programs : List (List Instr)) (k : ℕ) (program : List Instr) → items ≡ programs → k < length items → program ≡ get_or items k program → slice_get programs k ≡ Some program
item_here items programs k program same below is =
    ap (λ (list : List (List Instr)). slice_get list k) (sym same) ∙ slice_get-get_or items k program below ∙ ap Some (sym is)

both : (a b : Bool) → (a && b) ≡ true → (a ≡ true) × (b ≡ true)
both true true is = (refl, refl)
both true false is = cc
both false b is = cc

of_both : (a b : Bool) → a ≡ true → b ≡ true → (a && b) ≡ true
of_both a b first second = ap (λ (c : Bool). c && b) first ∙ second

all_holds : {X : Type 0} (p : X → Bool) (xs : List X) (x : X) → list_all p xs ≡ true → Contains xs x → p x ≡ true
all_holds p [] x all has = absurd (omega (arith, has.1))
all_holds p (y ∷ xs) x all (zero, below, is) = ap p (sym is) ∙ (both (p y) (list_all p xs) all).0
all_holds p (y ∷ xs) x all (suc k, below, is) = all_holds p xs x (both (p y) (list_all p xs) all).1 (k, omega (arith, below), is)

holds_all : {X : Type 0} (p : X → Bool) (xs : List X) → ((x : X) → Contains xs x → p x ≡ true) → list_all p xs ≡ true
holds_all p [] each = refl
holds_all p (y ∷ xs) each =
    of_both (p y) (list_all p xs) (each y (0, omega arith, refl)) (holds_all p xs (λ x has. each x (suc has.0, omega (arith, has.1), has.2)))

pub forward_of : (d : Doc) → ((tile : ℕ) (program : List Instr) → slice_get d.programs tile ≡ Some program → ProgramIsForward program) → IsForward d
forward_of d each tile place target program instr there at has =
    ltb-true place target (all_holds (nat_lt place) (targets instr) target (each tile program there place instr at) has)

pub program_of : (d : Doc) → IsForward d → (tile : ℕ) (program : List Instr) → slice_get d.programs tile ≡ Some program → ProgramIsForward program
program_of d forward tile program there place instr at =
    holds_all (nat_lt place) (targets instr) (λ target has. lt-ltb place target (forward tile place target program instr there at has))
