-- Where views change and the notes in them stay, so does the rule: a view gives a note to a new seat, or takes those of a seat that is back.
use Rattle.std.proofs.Common.{◌≡◌, ℕ, ◌≢◌, List, [], ◌∷◌, ◌++◌, set, sym, ◌∙◌, subst, ⊎_elim, arith, eqb}
use mathlib.Core.Option.{some}
use lib.ListN.{get_elem?}
use Rattle.atomic_table.specs.Table.{Splits, Joins}
use Rattle.atomic_table.proofs.Lists.{at_set, set_else, at_snoc}
use Rattle.turn_table.specs.declared.note.Note.{Note}
use Rattle.turn_table.specs.Rule.{total, total_of_views, bit, signs_of_use}
use Rattle.turn_table.proofs.Totals.{total-append, total-set}
use Rattle.turn_table.proofs.Changes.{Table, Rule, AllRight}

module _ {V : Type 0} (entries : V → List ℕ) (names : ℕ → ℕ) (opening : List ℕ) (seats : ℕ) where
  regrouped : (state : Table entries names opening seats) (rule : Rule entries names opening seats state) (views : List (List Note))
      → ((f : Note → ℕ) → total_of_views f views ≡ total_of_views f state.views)
      → ((i : ℕ) (view : List Note) → get_elem? views i ≡ some view → AllRight entries names opening seats rule.made view)
      → Rule entries names opening seats record { words = state.words; homes = state.homes; views = views }
  regrouped state rule views same notes = record {
    made = rule.made;
    held = rule.held;
    value = rule.value;
    one_word = rule.one_word;
    word = rule.word;
    home = rule.home;
    holders = same (λ note. bit note.has_turn) ∙ rule.holders;
    one_holder = rule.one_holder;
    one_note_each = λ number. let sum = same (λ note. bit (eqb note.number number)) in let was = rule.one_note_each number in omega arith;
    all_notes = same (λ _. 1) ∙ rule.all_notes;
    pairs = λ weight. same (λ note. total weight note.own) ∙ rule.pairs weight;
    notes = notes;
    served = λ due. let signs = same signs_of_use in let all = same (λ note. bit note.served) in let was = rule.served (omega arith) in omega arith;
  }

  pub split_allowed : (id : ℕ) (note : Note) (notes : List Note) → Splits (Rule entries names opening seats) id (note ∷ notes) notes (note ∷ [])
  split_allowed id note notes state rule at = let right = rule.notes id (note ∷ notes) at in let All : List Note → Type 0 = AllRight entries names opening seats rule.made in
      regrouped state rule (set state.views id notes ++ (note ∷ []) ∷ [])
      (λ f. let more = total-append (total f) (set state.views id notes) ((note ∷ []) ∷ []) in let left = total-set (total f) state.views id (note ∷ notes) notes at in omega arith)
      (λ i view there. ⊎_elim
      (λ (old : get_elem? (set state.views id notes) i ≡ some view). ⊎_elim
      (λ (here : (i ≡ id) × (notes ≡ view)). subst All here.1 right.1)
      (λ (other : (i ≢ id) × (get_elem? state.views i ≡ some view)). rule.notes i view other.1) (at_set state.views id i notes view old))
      (λ (new : (note ∷ []) ≡ view). subst All new (right.0, tt)) (at_snoc (set state.views id notes) (note ∷ []) view i there))

  all_right_append : (made : List ℕ) (xs ys : List Note) → AllRight entries names opening seats made xs → AllRight entries names opening seats made ys → AllRight entries names opening seats made (xs ++ ys)
  all_right_append made [] ys right right' = right'
  all_right_append made (x ∷ xs) ys right right' = (right.0, all_right_append made xs ys right.1 right')

  pub join_allowed : (id : ℕ) (mine : List Note) (other : ℕ) (theirs : List Note) → Joins (Rule entries names opening seats) id mine other theirs (theirs ++ mine) []
  join_allowed id mine other theirs state rule at apart there =
      let both : List Note = theirs ++ mine in let joined : List (List Note) = set state.views id both in let All : List Note → Type 0 = AllRight entries names opening seats rule.made in
      let theirs_at : get_elem? state.views other ≡ some theirs = sym (set_else state.views id other both apart) ∙ there in
      let right : All both = all_right_append rule.made theirs mine (rule.notes other theirs theirs_at) (rule.notes id mine at) in
      regrouped state rule (set joined other [])
      (λ f. let more = total-append f theirs mine in let took = total-set (total f) state.views id mine both at in let spent = total-set (total f) joined other theirs [] there in omega arith)
      (λ i view found. ⊎_elim
      (λ (here : (i ≡ other) × ([] ≡ view)). subst All here.1 tt)
      (λ (rest : (i ≢ other) × (get_elem? joined i ≡ some view)). ⊎_elim
      (λ (taking : (i ≡ id) × (both ≡ view)). subst All taking.1 right)
      (λ (untouched : (i ≢ id) × (get_elem? state.views i ≡ some view)). rule.notes i view untouched.1) (at_set state.views id i both view rest.1))
      (at_set joined other i [] view found))
