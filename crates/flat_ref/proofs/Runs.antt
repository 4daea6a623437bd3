-- Accesses taken one after another: one more, and after one that cannot be taken.
use Rattle.std.proofs.Common.{◌≡◌, ℕ, ◌+◌, ◌<◌, List, [], ◌∷◌, ◌++◌, Option, Some, None, length, take, drop, get_or, sym, ap, ◌∙◌, refl}
use Rattle.std.specs.List.{fold}
use Rattle.std.proofs.lemmas.List.{take-append-drop}
use Rattle.std.proofs.lemmas.List.Sums.{fold_more, fold-append}
use Rattle.std.proofs.lemmas.List.Folds.{fold_stays}
use Rattle.core_isa.specs.declared.instr.Instr.{Instr}
use Rattle.report_text.specs.declared.access.Access.{Access}
use Rattle.flat_ref.specs.declared.flat.Flat.{Flat}
use Rattle.mesh_gen.specs.Partial.{◌>>=◌}
use Rattle.flat_ref.specs.Taking.{taken, taken_all}

abbrev then_taken : List (List Instr) → Option Flat → Access → Option Flat
then_taken programs found a = found >>= λ before. taken programs before a

pub taken_all_none : (programs : List (List Instr)) (flat : Flat) → taken_all programs flat [] ≡ Some flat
unfolding taken_all
taken_all_none programs flat = refl

taken_all_more : (programs : List (List Instr)) (flat : Flat) (accesses : List Access) (i : ℕ) (d : Access) → i < length accesses → taken_all programs flat (take (i + 1) accesses) ≡ (taken_all programs flat (take i accesses) >>= λ before. taken programs before (get_or accesses i d))
unfolding taken_all
taken_all_more programs flat accesses i d within =
    fold_more (then_taken programs) (Some flat) accesses i d within

-- where those before it were taken, one more leaves what it alone leaves
pub taken_all_next : (programs : List (List Instr)) (flat before : Flat) (accesses : List Access) (i : ℕ) (d : Access) (next : Option Flat) → i < length accesses → taken_all programs flat (take i accesses) ≡ Some before → taken programs before (get_or accesses i d) ≡ next → taken_all programs flat (take (i + 1) accesses) ≡ next
taken_all_next programs flat before accesses i d next within found one =
    taken_all_more programs flat accesses i d within ∙ (ap (λ (o : Option Flat). o >>= λ last. taken programs last (get_or accesses i d)) found ∙ one)

of_found : (programs : List (List Instr)) (found : Option Flat) (accesses : List Access) → fold (then_taken programs) found accesses ≡ (found >>= λ before. fold (then_taken programs) (Some before) accesses)
of_found programs None accesses = fold_stays (then_taken programs) None (λ a. refl) accesses
of_found programs (Some flat) accesses = refl

pub taken_all_cons : (programs : List (List Instr)) (flat : Flat) (a : Access) (rest : List Access) → taken_all programs flat (a ∷ rest) ≡ (taken programs flat a >>= λ next. taken_all programs next rest)
unfolding taken_all
taken_all_cons programs flat a rest = of_found programs (taken programs flat a) rest

pub taken_all-append : (programs : List (List Instr)) (flat : Flat) (first second : List Access) → taken_all programs flat (first ++ second) ≡ (taken_all programs flat first >>= λ before. taken_all programs before second)
unfolding taken_all
taken_all-append programs flat first second =
    fold-append (then_taken programs) (Some flat) first second ∙ of_found programs (fold (then_taken programs) (Some flat) first) second

-- where a prefix cannot be taken, all cannot
pub taken_all_stuck : (programs : List (List Instr)) (flat : Flat) (accesses : List Access) (i : ℕ) → taken_all programs flat (take i accesses) ≡ None → taken_all programs flat accesses ≡ None
taken_all_stuck programs flat accesses i stuck =
    ap (λ (all : List Access). taken_all programs flat all) (sym (take-append-drop i accesses)) ∙ (taken_all-append programs flat (take i accesses) (drop i accesses) ∙ ap (λ (found : Option Flat). found >>= λ before. taken_all programs before (drop i accesses)) stuck)
