-- A new table, and the seats that it deals out.
use Rattle.std.proofs.Common.{◌≡◌, ℕ, zero, suc, ◌+◌, ◌-◌, ◌<◌, ◌≤◌, List, [], ◌∷◌, ◌++◌, length, sym, refl, ap, ◌∙◌, subst, arith, eqb, eq-eqb, ne_eqb, Some}
use Rattle.std.proofs.lemmas.List.{append-nil}
use Rattle.std.specs.List.{slice_get}
use mathlib.Core.Logic.{dite}
use mathlib.Core.Option.{some, some-injective, some-ne-none}
use native.Mathlib.Decide.{ℕ_discrete}
use lib.ListN.{get_elem?}
use Rattle.atomic_table.specs.Table.{opening}
use Rattle.turn_table.specs.declared.note.Note.{Note}
use Rattle.turn_table.specs.Notes.{new_note, new_notes}
use Rattle.turn_table.specs.Rule.{total, bit, signs_of_use, AreRight, TurnRule}

-- a new note weighs nothing, by a weight that reads what its seat did
total-new_notes : (f : Note → ℕ) (entries : List ℕ) (seats : ℕ) → ((number : ℕ) → f (new_note entries seats number) ≡ 0) → (first left : ℕ) → total f (new_notes entries seats first left) ≡ 0
total-new_notes f entries seats nothing first zero = refl
total-new_notes f entries seats nothing first (suc left) = let here = nothing first in let rest = total-new_notes f entries seats nothing (suc first) left in omega arith

count-new_notes : (entries : List ℕ) (seats first left : ℕ) → total (λ _. 1) (new_notes entries seats first left) ≡ left
count-new_notes entries seats first zero = refl
count-new_notes entries seats first (suc left) = let rest = count-new_notes entries seats (suc first) left in omega arith

numbered_later : (entries : List ℕ) (seats number first left : ℕ) → number < first → total (λ (note : Note). bit (eqb note.number number)) (new_notes entries seats first left) ≤ 0
numbered_later entries seats number first zero before = omega arith
numbered_later entries seats number first (suc left) before =
    let rest = numbered_later entries seats number (suc first) left (omega arith) in let other : bit (eqb first number) ≡ 0 = ap bit (ne_eqb first number (λ same. omega arith)) in omega arith

numbered_once : (entries : List ℕ) (seats number first left : ℕ) → total (λ (note : Note). bit (eqb note.number number)) (new_notes entries seats first left) ≤ 1
numbered_once entries seats number first zero = omega arith
numbered_once entries seats number first (suc left) = dite (ℕ_discrete first number)
    (λ same. let rest = numbered_later entries seats number (suc first) left (omega arith) in let this : bit (eqb first number) ≡ 1 = ap bit (eq-eqb first number same) in omega arith)
    (λ apart. let rest = numbered_once entries seats number (suc first) left in let other : bit (eqb first number) ≡ 0 = ap bit (ne_eqb first number apart) in omega arith)

new_notes_right : (names : ℕ → ℕ) (entries : List ℕ) (seats first left : ℕ) → first + left ≤ seats → AreRight names entries seats [] (new_notes entries seats first left)
new_notes_right names entries seats first zero within = tt
new_notes_right names entries seats first (suc left) within = (
  record { opening_is = refl; seats_is = refl; number = omega arith; trail = ([], refl); holder = λ _. refl; one_own = omega arith; own_named = λ _. omega arith },
  new_notes_right names entries seats (suc first) left (omega arith),
)

only_view : (notes : List Note) (P : List Note → Type 0) → P notes → (i : ℕ) (view : List Note) → get_elem? (notes ∷ []) i ≡ some view → P view
only_view notes P it zero view at = subst P (some-injective notes view at) it
only_view notes P it (suc i) view at = absurd (some-ne-none view (sym at))

pub rule_at_start : {V : Type 0} (entries : V → List ℕ) (names : ℕ → ℕ) (value : V) (seats : ℕ) → TurnRule entries names (entries value) seats (opening (0 ∷ []) (value ∷ []) (new_notes (entries value) seats 0 seats))
rule_at_start entries names value seats = let had : List ℕ = entries value in record {
  made = [];
  held = 0;
  value = value;
  one_word = refl;
  word = refl;
  home = λ _. (refl, sym (append-nil had));
  holders = let none = total-new_notes (λ (note : Note). bit note.has_turn) had seats (λ _. refl) 0 seats in omega arith;
  one_holder = omega arith;
  one_note_each = λ number. let once = numbered_once had seats number 0 seats in omega arith;
  all_notes = let count = count-new_notes had seats 0 seats in omega arith;
  pairs = λ weight. let none = total-new_notes (λ (note : Note). total weight note.own) had seats (λ _. refl) 0 seats in omega arith;
  notes = only_view (new_notes had seats 0 seats) (AreRight names had seats []) (new_notes_right names had seats 0 seats (omega arith));
  served = λ due. let none = total-new_notes signs_of_use had seats (λ _. refl) 0 seats in absurd (omega arith);
}

next_note_at : (entries : List ℕ) (seats dealt : ℕ) → dealt < seats → new_notes entries seats dealt (seats - dealt) ≡ new_note entries seats dealt ∷ new_notes entries seats (suc dealt) (seats - suc dealt)
next_note_at entries seats dealt left = let next : seats - dealt ≡ suc (seats - suc dealt) = omega arith in ap (new_notes entries seats dealt) next

-- the next note to deal, and those that are left then
pub next_note : (entries : List ℕ) (seats dealt : ℕ) → dealt < seats → new_notes entries seats dealt (seats - dealt) ≡ new_note entries seats dealt ∷ new_notes entries seats (dealt + 1) (seats - (dealt + 1))
next_note entries seats dealt left = let same : suc dealt ≡ dealt + 1 = omega arith in
    next_note_at entries seats dealt left ∙ ap (λ (k : ℕ). new_note entries seats dealt ∷ new_notes entries seats k (seats - k)) same

module _ {A : Type 0} where
  slice_get-snoc_left : (xs : List A) (x : A) (k : ℕ) → k < length xs → slice_get (xs ++ x ∷ []) k ≡ slice_get xs k
  slice_get-snoc_left [] x k within = absurd (omega arith)
  slice_get-snoc_left (y ∷ ys) x zero within = refl
  slice_get-snoc_left (y ∷ ys) x (suc k) within = slice_get-snoc_left ys x k (omega arith)

  slice_get-snoc_last : (xs : List A) (x : A) (k : ℕ) → k ≡ length xs → slice_get (xs ++ x ∷ []) k ≡ Some x
  slice_get-snoc_last [] x zero last = refl
  slice_get-snoc_last [] x (suc k) last = absurd (omega arith)
  slice_get-snoc_last (y ∷ ys) x zero last = absurd (omega arith)
  slice_get-snoc_last (y ∷ ys) x (suc k) last = slice_get-snoc_last ys x k (omega arith)

  -- a list that f numbers, with one element more
  pub numbered-snoc : (f : ℕ → A) (xs : List A) (x : A) (n : ℕ) → length xs ≡ n → x ≡ f n → ((k : ℕ) → k < n → slice_get xs k ≡ Some (f k)) → (k : ℕ) → k < n + 1 → slice_get (xs ++ x ∷ []) k ≡ Some (f k)
  numbered-snoc f xs x n count is each k within = dite (ℕ_discrete k n)
      (λ last. slice_get-snoc_last xs x k (omega arith) ∙ ap Some (is ∙ ap f (sym last)))
      (λ before. slice_get-snoc_left xs x k (omega arith) ∙ each k (omega arith))
