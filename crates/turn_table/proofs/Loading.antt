-- A load of the word keeps the rule.
use Rattle.std.proofs.Common.{◌≡◌, ℕ, ◌+◌, ◌%◌, ◌==◌, List, [], ◌∷◌, get_or, ap, inl, arith, eqb, Bool, false, ◌||◌, None}
use mathlib.Core.Logic.{dite}
use mathlib.Core.Option.{none}
use native.Mathlib.Decide.{dec_le}
use Rattle.atomic_table.specs.Table.{keeps, step, Allows}
use Rattle.turn_table.specs.declared.note.Note.{Note}
use Rattle.turn_table.specs.Notes.{note_after_load}
use Rattle.turn_table.specs.Rule.{bit, signs_of_use}
use Rattle.turn_table.specs.Steps.{Loads}
use Rattle.turn_table.proofs.Totals.{total_of_views_at}
use Rattle.turn_table.proofs.Changes.{notes_seen, same_note, Rule, rule_after}

-- a load of 0 refuses nobody
refused_after_zero : (seen : ℕ) (refused : Bool) → seen ≡ 0 → (eqb (seen % 2) 1 || refused) ≡ refused
refused_after_zero seen refused zero_seen = ap (λ (k : ℕ). eqb (k % 2) 1 || refused) zero_seen

module _ {V : Type 0} (entries : V → List ℕ) (names : ℕ → ℕ) (opening : List ℕ) (seats : ℕ) where
  pub load_allowed : (slots id : ℕ) (note : Note) (carried : List (ℕ × V)) → note.has_turn ≡ false
      → Allows (Rule entries names opening seats) slots id (note ∷ [], carried) 0 (λ x. x) (Loads (step slots 0 0 0 none) (note ∷ [], carried))
  load_allowed slots id note carried idle state rule _ at _ =
      let seen : ℕ = get_or state.words 0 0 in let new : Note = note_after_load note seen in let right = (rule.notes id (note ∷ []) at).0 in (
        new ∷ [],
        keeps,
        tt,
        rule_after entries names opening seats state rule id note new carried keeps seen rule.made rule.held rule.value at
            (notes_seen entries names opening seats state rule note (note.loads + 1) seen None ((seen % 2 == 1) || note.refused) right
            (λ due. dite (dec_le 1 seen) (λ some_seen. inl (omega arith))
            (λ none_seen. let same : bit new.refused ≡ bit note.refused = ap bit (refused_after_zero seen note.refused (omega arith)) in let mine = total_of_views_at signs_of_use state.views id note at in inl (omega arith))))
            rule.home (λ j view _ there. rule.notes j view there),
        λ told same. ap (λ (n : Note). (note_after_load n seen ∷ [], carried)) (same_note note told same),
      )
