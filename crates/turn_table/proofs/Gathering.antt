-- The table at its end: one view has all notes, and they account for the entries.
use Rattle.std.proofs.Common.{◌≡◌, ℕ, zero, suc, ◌<◌, ◌≤◌, List, [], ◌∷◌, ◌++◌, length, map, flat_map, filter, sym, refl, ap, ◌∙◌, subst, arith, eqb, eq-eqb, false, All}
use Rattle.std.specs.List.{enumerate_from}
use Rattle.std.proofs.lemmas.List.Elements.{All-nil, All-cons, All-head, All-tail}
use mathlib.Core.Option.{some, some-injective, some-ne-none}
use lib.ListN.{get_elem?}
use Rattle.atomic_table.specs.Table.{Final, Seen}
use Rattle.turn_table.specs.declared.note.Note.{Note}
use Rattle.turn_table.specs.Notes.{IsPrefix}
use Rattle.turn_table.specs.Rule.{total, total_of_views, bit, entries_naming, pairs_naming, signs_of_use, IsRight, AreRight, TurnRule}
use Rattle.turn_table.specs.States.{SeatState}
use Rattle.turn_table.specs.Meeting.{notes_of, AccountFor}
use Rattle.turn_table.proofs.Totals.{total_at, total_below, total_le, total-enumerate_from}
use Rattle.turn_table.proofs.Weights.{total-flat_map, permutation_by_weights}
use Rattle.turn_table.proofs.Naming.{any_counted, counted_any, named_are_own, names_apart}

module _ {A : Type 0} where
  no_notes : (views : List (List A)) → total_of_views (λ _. 1) views ≤ 0 → (f : A → ℕ) → total_of_views f views ≤ 0
  no_notes [] none f = omega arith
  no_notes ([] ∷ views) none f = let rest = no_notes views (omega arith) f in omega arith
  no_notes ((note ∷ notes) ∷ views) none f = absurd (omega arith)

  no_note : (notes : List A) → total (λ _. 1) notes ≤ 0 → (f : A → ℕ) → total f notes ≤ 0
  no_note [] none f = omega arith
  no_note (note ∷ notes) none f = absurd (omega arith)

  -- where one view has all notes, its totals are those of all views
  only_view_counts : (views : List (List A)) (i : ℕ) (notes : List A) → get_elem? views i ≡ some notes → total_of_views (λ _. 1) views ≤ total (λ _. 1) notes → (f : A → ℕ) → total_of_views f views ≡ total f notes
  only_view_counts [] i notes at all f = absurd (some-ne-none notes (sym at))
  only_view_counts (view ∷ views) zero notes at all f =
      let is = some-injective view notes at in let count : total (λ _. 1) view ≡ total (λ _. 1) notes = ap (total (λ _. 1)) is in let same : total f view ≡ total f notes = ap (total f) is in
      let rest = no_notes views (omega arith) f in omega arith
  only_view_counts (view ∷ views) (suc i) notes at all f =
      let mine = total_at (total (λ _. 1)) views i notes at in let first = no_note view (omega arith) f in let rest = only_view_counts views i notes at (omega arith) f in omega arith

module _ (names : ℕ → ℕ) (opening : List ℕ) (seats : ℕ) (made : List ℕ) where
  right_at : (notes : List Note) → AreRight names opening seats made notes → (i : ℕ) (note : Note) → get_elem? notes i ≡ some note → IsRight names opening seats made note
  right_at [] right i note at = absurd (some-ne-none note (sym at))
  right_at (x ∷ xs) right zero note at = subst (IsRight names opening seats made) (some-injective x note at) right.0
  right_at (x ∷ xs) right (suc i) note at = right_at xs right.1 i note at

  all_prefixes : (notes : List Note) → AreRight names opening seats made notes → All (λ note. IsPrefix note.trail made) notes
  all_prefixes [] right = All-nil (λ (note : Note). IsPrefix note.trail made)
  all_prefixes (note ∷ notes) right = All-cons (λ (note : Note). IsPrefix note.trail made) note notes right.0.trail (all_prefixes notes right.1)

  refused_le_signs : (notes : List Note) → total (λ (note : Note). bit note.refused) notes ≤ total signs_of_use notes
  refused_le_signs [] = omega arith
  refused_le_signs (note ∷ notes) = let rest = refused_le_signs notes in omega arith

  module _ (all : List Note) (right : AreRight names opening seats made all) (numbers : (number : ℕ) → total (λ (note : Note). bit (eqb note.number number)) all ≤ 1)
      (pairs : (weight : ℕ × ℕ → ℕ) → total (λ (note : Note). total weight note.own) all ≡ total weight (enumerate_from 0 made)) where
    named : (number : ℕ) → total (λ (note : Note). pairs_naming names number note.own) all ≡ entries_naming names number made
    named number = pairs (λ pair. bit (eqb (names pair.1) number)) ∙ total-enumerate_from (λ (entry : ℕ). bit (eqb (names entry) number)) 0 made

    named_once : (number : ℕ) → entries_naming names number made ≤ 1
    named_once number = let sum = named number in let once = numbers number in
        let le = total_le (λ (note : Note). pairs_naming names number note.own) (λ (note : Note). bit (eqb note.number number)) all (λ i note at. (right_at all right i note at).own_named number) in omega arith

    -- no other seat's entry names this one
    own_count : (i : ℕ) (note : Note) → get_elem? all i ≡ some note → entries_naming names note.number made ≡ pairs_naming names note.number note.own
    own_count i note at =
        let number : ℕ = note.number in let f : Note → ℕ = λ n. pairs_naming names number n.own in let g : Note → ℕ = λ n. bit (eqb n.number number) in
        let below = total_below f g all (λ j n there. (right_at all right j n there).own_named number) i note at in let mine = total_at f all i note at in
        let once = numbers number in let sum = named number in let me : bit (eqb number number) ≡ 1 = ap bit (eq-eqb number number refl) in
        let own = (right_at all right i note at).own_named number in omega arith

    own_there : (i : ℕ) (note : Note) → get_elem? all i ≡ some note → (entry : ℕ) → total (λ (pair : ℕ × ℕ). bit (eqb pair.1 entry)) note.own ≤ total (λ x. bit (eqb x entry)) made
    own_there i note at entry =
        let weight : ℕ × ℕ → ℕ = λ pair. bit (eqb pair.1 entry) in let mine = total_at (λ (n : Note). total weight n.own) all i note at in let sum = pairs weight in
        let placed = total-enumerate_from (λ (x : ℕ). bit (eqb x entry)) 0 made in omega arith

    abbrev OwnIsNamed : Note → Type 0
    OwnIsNamed note = filter (λ entry. eqb (names entry) note.number) made ≡ map (λ pair. pair.1) note.own

    own_is_named : (i : ℕ) (note : Note) → get_elem? all i ≡ some note → OwnIsNamed note
    own_is_named i note at = let this = right_at all right i note at in named_are_own names note.number made note.own this.one_own (own_count i note at) (own_there i note at) this.own_named

    each_own_is_named : (notes : List Note) → ((i : ℕ) (note : Note) → get_elem? notes i ≡ some note → OwnIsNamed note) → All OwnIsNamed notes
    each_own_is_named [] each = All-nil OwnIsNamed
    each_own_is_named (note ∷ notes) each = All-cons OwnIsNamed note notes (each 0 note refl) (each_own_is_named notes (λ i n at. each (suc i) n at))

    pub account : (0 < total (λ (note : Note). bit note.refused) all → 0 < total (λ (note : Note). bit note.served) all) → AccountFor names all made
    account some_served = record {
      pairs = permutation_by_weights (flat_map (λ (note : Note). note.own) all) (enumerate_from 0 made) (λ weight. total-flat_map weight (λ (note : Note). note.own) all ∙ pairs weight);
      own = each_own_is_named all own_is_named;
      named_once = names_apart names made named_once;
      trails = all_prefixes all right;
      served = λ some_refused. any_counted (λ (note : Note). note.served) all (some_served (counted_any (λ (note : Note). note.refused) all some_refused));
    }

module _ {V : Type 0} (entries : V → List ℕ) (names : ℕ → ℕ) where
  pub account_at_end : (opening : List ℕ) (seats : ℕ) (words : List ℕ) (slots : List V) (id : ℕ) (notes : List Note) (value : V)
      → Final (Seen (TurnRule entries names opening seats) id notes) words slots → total (λ _. 1) notes ≡ seats → total (λ (note : Note). bit note.has_turn) notes ≤ 0 → get_elem? slots 0 ≡ some value
      → (made : List ℕ) × (entries value ≡ opening ++ made) × AccountFor names notes made
  account_at_end opening seats words slots id notes value end all idle at =
      let state = end.0 in let rule = end.1.0 in let here = end.1.1 in let every = rule.all_notes in
      let whole : (f : Note → ℕ) → total_of_views f state.views ≡ total f notes = only_view_counts state.views id notes here (omega arith) in
      let none = whole (λ note. bit note.has_turn) in let holders = rule.holders in let home = rule.home (omega arith) in
      let value_is : rule.value ≡ value = some-injective rule.value value (sym (end.4 0 rule.value home.0) ∙ at) in (
        rule.made,
        ap entries (sym value_is) ∙ home.1,
        account names opening seats rule.made notes (rule.notes id notes here)
            (λ number. let same = whole (λ note. bit (eqb note.number number)) in let once = rule.one_note_each number in omega arith)
            (λ weight. sym (whole (λ note. total weight note.own)) ∙ rule.pairs weight)
            (λ some_refused. let signs = whole signs_of_use in let all_served = whole (λ note. bit note.served) in let more = refused_le_signs names opening seats rule.made notes in let served = rule.served (omega arith) in omega arith),
      )

pub notes_counted : (seats : List SeatState) → total (λ _. 1) (notes_of seats) ≡ length seats
notes_counted [] = refl
notes_counted (seat ∷ seats) = let rest = notes_counted seats in omega arith

pub none_has_turn : (notes : List Note) → All (λ note. note.has_turn ≡ false) notes → total (λ (note : Note). bit note.has_turn) notes ≤ 0
none_has_turn [] idle = omega arith
none_has_turn (note ∷ notes) idle =
    let this : bit note.has_turn ≡ 0 = ap bit (All-head (λ (n : Note). n.has_turn ≡ false) note notes idle) in let rest = none_has_turn notes (All-tail (λ (n : Note). n.has_turn ≡ false) note notes idle) in omega arith
