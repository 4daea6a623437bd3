-- A step in which one seat gets a new note: what the step owes, and that the rule then holds again.
use Rattle.std.proofs.Common.{◌≡◌, ℕ, ◌+◌, ◌*◌, ◌<◌, ◌≤◌, ◌≢◌, ◌⊎◌, List, [], ◌∷◌, ◌++◌, length, get_or, set, sym, ap, ◌∙◌, subst, ⊎_elim, arith, eqb, length-set, get_or-set_same, Bool, true, false, Option, refl}
use Rattle.std.specs.List.{enumerate_from}
use mathlib.Core.Logic.{dite}
use mathlib.Core.Option.{some}
use native.Mathlib.Decide.{dec_le}
use lib.ListN.{get_elem?}
use Rattle.atomic_table.specs.Table.{State, Act, stepped, homes_after}
use Rattle.atomic_table.proofs.Lists.{at_set}
use Rattle.turn_table.specs.declared.note.Note.{Note}
use Rattle.turn_table.specs.Rule.{total, total_of_views, bit, signs_of_use, IsRight, AreRight, TurnRule}
use Rattle.turn_table.proofs.Totals.{total-set, total_at, total_of_views-set}

pub bit_le : (b : Bool) → bit b ≤ 1
bit_le true = omega arith
bit_le false = omega arith

firsts : List Note → Note → Note
firsts [] default = default
firsts (note ∷ notes) default = note

pub same_note : (n m : Note) → (n ∷ []) ≡ (m ∷ []) → n ≡ m
unfolding firsts
same_note n m same = ap (λ view. firsts view n) same

module _ {V : Type 0} (entries : V → List ℕ) (names : ℕ → ℕ) (opening : List ℕ) (seats : ℕ) where
  abbrev pub Table : Type 0
  Table = State V (List Note)

  abbrev pub Rule : Table → Type 0
  Rule = TurnRule entries names opening seats

  abbrev pub Right : List ℕ → Note → Type 0
  Right made note = IsRight names opening seats made note

  abbrev pub AllRight : List ℕ → List Note → Type 0
  AllRight made notes = AreRight names opening seats made notes

  -- what the notes say, after one of them has changed
  right_after : (made : List ℕ) (views : List (List Note)) (id : ℕ) (new : Note) → Right made new
      → ((j : ℕ) (view : List Note) → j ≢ id → get_elem? views j ≡ some view → AllRight made view)
      → (j : ℕ) (view : List Note) → get_elem? (set views id (new ∷ [])) j ≡ some view → AllRight made view
  right_after made views id new mine others j view at = ⊎_elim
      (λ (here : (j ≡ id) × ((new ∷ []) ≡ view)). subst (AllRight made) here.1 (mine, tt))
      (λ (there : (j ≢ id) × (get_elem? views j ≡ some view)). others j view there.0 there.1) (at_set views id j (new ∷ []) view at)

  served_after : (old new was is mark mark' signs signs' served served' : ℕ)
      → signs' + mark ≡ signs + mark' → served' + was ≡ served + is → was ≤ is → is ≤ served'
      → (0 < old + signs → 0 < served) → (0 < new + mark' → (0 < old + signs) ⊎ (is ≡ 1)) → 0 < new + signs' → 0 < served'
  served_after old new was is mark mark' signs signs' served served' signs_sum served_sum more at_least before due now = dite (dec_le 1 (new + mark'))
      (λ some_due. ⊎_elim (λ (used : 0 < old + signs). let h = before used in omega arith) (λ (here : is ≡ 1). omega arith) (due some_due))
      (λ none_due. let h = before (omega arith) in omega arith)

  -- What a step owes that finds a state under the rule, in which the seat's note is `old`, and leaves this word, these entries, this number of holders and the note `new`.
  pub record Change (state : Table) (rule : Rule state) (old new : Note) (word : ℕ) (made : List ℕ) (held : ℕ) : Type 0 where
    pub number : new.number ≡ old.number
    pub word_is : word ≡ 2 * length made + held
    pub holders : held + bit old.has_turn ≡ rule.held + bit new.has_turn
    pub one_holder : held ≤ 1
    pub pairs : (weight : ℕ × ℕ → ℕ) → total weight new.own + total weight (enumerate_from 0 rule.made) ≡ total weight old.own + total weight (enumerate_from 0 made)
    pub right : Right made new
    pub still_served : bit old.served ≤ bit new.served
    pub served : 0 < word + signs_of_use new → (0 < get_or state.words 0 0 + total_of_views signs_of_use state.views) ⊎ (bit new.served ≡ 1)

  -- what a step owes that leaves the word and only notes what was seen or found
  pub notes_seen : (state : Table) (rule : Rule state) (note : Note) (loads seen : ℕ) (found : Option ℕ) (refused : Bool) → Right rule.made note
      → (0 < get_or state.words 0 0 + signs_of_use (record note { loads = loads; seen = seen; found = found; refused = refused })
      → (0 < get_or state.words 0 0 + total_of_views signs_of_use state.views) ⊎ (bit note.served ≡ 1))
      → Change state rule note (record note { loads = loads; seen = seen; found = found; refused = refused }) (get_or state.words 0 0) rule.made rule.held
  notes_seen state rule note loads seen found refused right served = record {
    number = refl;
    word_is = rule.word;
    holders = refl;
    one_holder = rule.one_holder;
    pairs = λ weight. refl;
    right = record { opening_is = right.opening_is; seats_is = right.seats_is; number = right.number; trail = right.trail; holder = right.holder; one_own = right.one_own; own_named = right.own_named };
    still_served = omega arith;
    served = served;
  }

  at_least : (views : List (List Note)) (id : ℕ) (old new : Note) → get_elem? views id ≡ some (old ∷ []) → bit new.served ≤ total_of_views (λ (note : Note). bit note.served) (set views id (new ∷ []))
  at_least views id old new at =
      let changed = total-set (total (λ (note : Note). bit note.served)) views id (old ∷ []) (new ∷ []) at in
      let one = total_at (total (λ (note : Note). bit note.served)) views id (old ∷ []) at in omega arith

  pub rule_after : (state : Table) (rule : Rule state) (id : ℕ) (old new : Note) (slots : List (ℕ × V)) (act : Act V) (word : ℕ) (made : List ℕ) (held : ℕ) (value : V)
      → get_elem? state.views id ≡ some (old ∷ []) → Change state rule old new word made held
      → (held ≡ 0 → (get_elem? (homes_after state.homes slots act) 0 ≡ some (some value)) × (entries value ≡ opening ++ made))
      → ((j : ℕ) (view : List Note) → j ≢ id → get_elem? state.views j ≡ some view → AllRight made view)
      → Rule (stepped state 0 word id slots (new ∷ []) act)
  rule_after state rule id old new slots act word made held value at change home others =
      let one_word = rule.one_word in
      let now : get_or (set state.words 0 word) 0 0 ≡ word = get_or-set_same state.words 0 word 0 (omega arith) in
      let views : List (List Note) = set state.views id (new ∷ []) in
      let same : (f : Note → ℕ) → total_of_views f views + f old ≡ total_of_views f state.views + f new = λ f. total_of_views-set f state.views id old new at in record {
        made = made;
        held = held;
        value = value;
        one_word = length-set state.words 0 word ∙ one_word;
        word = now ∙ change.word_is;
        home = home;
        holders = let sum = same (λ note. bit note.has_turn) in let was = rule.holders in let changed = change.holders in omega arith;
        one_holder = change.one_holder;
        one_note_each = λ number. let sum = same (λ note. bit (eqb note.number number)) in let was = rule.one_note_each number in
            let kept : bit (eqb new.number number) ≡ bit (eqb old.number number) = ap (λ (k : ℕ). bit (eqb k number)) change.number in omega arith;
        all_notes = let sum = same (λ _. 1) in let was = rule.all_notes in omega arith;
        pairs = λ weight. let sum = same (λ note. total weight note.own) in let was = rule.pairs weight in let changed = change.pairs weight in omega arith;
        notes = right_after made state.views id new change.right others;
        served = subst (λ (k : ℕ). 0 < k + total_of_views signs_of_use views → 0 < total_of_views (λ note. bit note.served) views) (sym now)
            (served_after (get_or state.words 0 0) word (bit old.served) (bit new.served) (signs_of_use old) (signs_of_use new)
            (total_of_views signs_of_use state.views) (total_of_views signs_of_use views)
            (total_of_views (λ note. bit note.served) state.views) (total_of_views (λ note. bit note.served) views)
            (same signs_of_use) (same (λ note. bit note.served)) change.still_served (at_least state.views id old new at) rule.served change.served);
      }
