-- The exchange that may get the turn keeps the rule, and a seat that gets it finds a value that fits.
use Rattle.std.proofs.Common.{◌≡◌, ℕ, ◌+◌, ◌%◌, ◌≤◌, List, [], ◌∷◌, ◌++◌, length, get_or, sym, refl, ap, ◌∙◌, subst, inl, inr, arith, eqb, eq-eqb, ne_eqb, true, false, Some}
use Rattle.std.proofs.lemmas.List.{append-nil}
use mathlib.Core.Logic.{dite}
use mathlib.Core.Option.{some, none}
use native.Mathlib.Decide.{ℕ_discrete}
use lib.ListN.{get_elem?}
use prog.Atomic.{either}
use Rattle.atomic_table.specs.Table.{keeps, takes, step, stepped, Allows}
use Rattle.turn_table.specs.declared.note.Note.{Note}
use Rattle.turn_table.specs.Notes.{note_after_miss, note_with_turn}
use Rattle.turn_table.specs.Rule.{total, total_of_views, bit, pairs_naming, signs_of_use}
use Rattle.turn_table.specs.Steps.{FitsNote, GetsTurn, Acquires}
use Rattle.turn_table.proofs.Totals.{total_below, total_le, total-ones, total-enumerate_from, total_of_views_at}
use Rattle.turn_table.proofs.Changes.{notes_seen, bit_le, same_note, Table, Rule, Right, AllRight, rule_after}

module _ {V : Type 0} (entries : V → List ℕ) (names : ℕ → ℕ) (opening : List ℕ) (seats : ℕ) where
  pub total_le_right : (f g : Note → ℕ) (made : List ℕ) → ((note : Note) → Right entries names opening seats made note → f note ≤ g note)
      → (view : List Note) → AllRight entries names opening seats made view → total f view ≤ total g view
  total_le_right f g made le [] right = omega arith
  total_le_right f g made le (note ∷ notes) right = let first = le note right.0 in let rest = total_le_right f g made le notes right.1 in omega arith

  below : (f g : Note → ℕ) (made : List ℕ) (views : List (List Note)) → ((j : ℕ) (view : List Note) → get_elem? views j ≡ some view → AllRight entries names opening seats made view)
      → ((note : Note) → Right entries names opening seats made note → f note ≤ g note)
      → (id : ℕ) (note : Note) → get_elem? views id ≡ some (note ∷ []) → total_of_views f views + g note ≤ total_of_views g views + f note
  below f g made views right le id note at = let all = total_below (total f) (total g) views (λ j view there. total_le_right f g made le view (right j view there)) id (note ∷ []) at in omega arith

  -- A seat with no entry of its own: the seats that have one are the others, so no entry names it, and the entries are fewer than the seats.
  pub fits : (state : Table entries names opening seats) (rule : Rule entries names opening seats state) (id : ℕ) (note : Note) → get_elem? state.views id ≡ some (note ∷ []) → FitsNote names note rule.made
  fits state rule id note at = let right = (rule.notes id (note ∷ []) at).0 in record {
    begins = right.trail;
    unnamed = λ none_own.
        let sum = rule.pairs (λ (pair : ℕ × ℕ). bit (eqb (names pair.1) note.number)) in
        let others = below (λ (n : Note). pairs_naming names note.number n.own) (λ (n : Note). bit (eqb n.number note.number)) rule.made state.views (λ j view there. rule.notes j view there) (λ n r. r.own_named note.number) id note at in
        let own : pairs_naming names note.number note.own ≡ 0 = ap (pairs_naming names note.number) none_own in
        let me : bit (eqb note.number note.number) ≡ 1 = ap bit (eq-eqb note.number note.number refl) in
        let each = rule.one_note_each note.number in
        let placed = total-enumerate_from (λ (entry : ℕ). bit (eqb (names entry) note.number)) 0 rule.made in omega arith;
    fewer = λ none_own.
        let sum = rule.pairs (λ _. 1) in
        let others = below (λ (n : Note). total (λ _. 1) n.own) (λ _. 1) rule.made state.views (λ j view there. rule.notes j view there) (λ n r. let ones = total-ones n.own in let one = r.one_own in omega arith) id note at in
        let own : total (λ (_ : ℕ × ℕ). 1) note.own ≡ 0 = ap (total (λ _. 1)) none_own in
        let all = rule.all_notes in
        let placed = total-enumerate_from (λ _. 1) 0 rule.made in
        let ones = total-ones rule.made in let seats_is = right.seats_is in omega arith;
  }

  -- no seat has more than one entry
  pub made_le_seats : (state : Table entries names opening seats) (rule : Rule entries names opening seats state) → length rule.made ≤ seats
  made_le_seats state rule =
      let sum = rule.pairs (λ _. 1) in let placed = total-enumerate_from (λ _. 1) 0 rule.made in let ones = total-ones rule.made in let all = rule.all_notes in
      let each = total_le (total (λ (n : Note). total (λ _. 1) n.own)) (total (λ _. 1)) state.views
      (λ j view there. total_le_right (λ (n : Note). total (λ _. 1) n.own) (λ _. 1) rule.made (λ n r. let own = total-ones n.own in let one = r.one_own in omega arith) view (rule.notes j view there)) in omega arith

  pub acquire_allowed : (slots id : ℕ) (note : Note) (carried : List (ℕ × V)) (old new : ℕ) → note.has_turn ≡ false → note.seen ≡ old → old % 2 ≡ 0 → new ≡ old + 1
      → Allows (Rule entries names opening seats) slots id (note ∷ [], carried) 0 (λ x. either (eqb x old) new x) (Acquires entries names (step slots 0 old new none) (note ∷ [], carried))
  acquire_allowed slots id note carried old new idle noted even next state rule _ at _ =
      let found : ℕ = get_or state.words 0 0 in let right = (rule.notes id (note ∷ []) at).0 in
      let word = rule.word in let one = rule.one_holder in let no_turn : bit note.has_turn ≡ 0 = ap bit idle in dite (ℕ_discrete found old)
      (λ hit. let free : rule.held ≡ 0 = omega arith in let home = rule.home free in let after : Note = note_with_turn note rule.made found in (
        after ∷ [],
        takes 0 rule.value,
        home.0,
        subst (λ b. Rule entries names opening seats (stepped state 0 (either b new found) id carried (after ∷ []) (takes 0 rule.value))) (sym (eq-eqb found old hit))
            (rule_after entries names opening seats state rule id note after carried (takes 0 rule.value) new rule.made 1 rule.value at record {
              number = refl;
              word_is = omega arith;
              holders = omega arith;
              one_holder = omega arith;
              pairs = λ weight. refl;
              right = record { opening_is = right.opening_is; seats_is = right.seats_is; number = right.number; trail = ([], append-nil rule.made); holder = λ _. refl; one_own = right.one_own; own_named = right.own_named };
              still_served = bit_le note.served;
              served = λ _. inr refl;
            } (λ none_held. absurd (omega arith)) (λ j view _ there. rule.notes j view there)),
        λ told same. let is = same_note note told same in (
          (λ _. subst (λ (n : Note). GetsTurn entries names n carried found (after ∷ [], (0, rule.value) ∷ carried)) is
              (rule.value, rule.made, home.1 ∙ ap (λ l. l ++ rule.made) (sym right.opening_is), fits state rule id note at, refl)),
          λ miss. absurd (miss hit),
        ),
      ))
      (λ miss. let after : Note = note_after_miss note found in (
        after ∷ [],
        keeps,
        tt,
        subst (λ b. Rule entries names opening seats (stepped state 0 (either b new found) id carried (after ∷ []) keeps)) (sym (ne_eqb found old miss))
            (rule_after entries names opening seats state rule id note after carried keeps found rule.made rule.held rule.value at
            (notes_seen entries names opening seats state rule note note.loads note.seen (Some found) true right
            (λ _. let mine = total_of_views_at signs_of_use state.views id note at in inl (omega arith))) rule.home (λ j view _ there. rule.notes j view there)),
        λ told same. ((λ hit. absurd (miss hit)), λ _. ap (λ (n : Note). (note_after_miss n found ∷ [], carried)) (same_note note told same)),
      ))
