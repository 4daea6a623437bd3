-- Both ends of a turn keep the rule.
use Rattle.std.proofs.Math.Nat.{mod-eq_of_lt}
use Rattle.std.proofs.lemmas.List.{append-nil, append_cancel_left}
use Rattle.std.proofs.lemmas.Bool.{true≢false}
use Rattle.std.proofs.Common.{length-append, ◌≡◌, ℕ, ◌+◌, ◌-◌, ◌*◌, ◌%◌, ◌^◌, ◌<◌, ◌≤◌, ◌≢◌, List, [], ◌∷◌, ◌++◌, length, get_or, sym, refl, ap, ◌∙◌, subst, inl, arith, eqb, append_assoc, Bool, true, false}
use Rattle.std.specs.List.{enumerate_from}
use mathlib.Core.Option.{some, none}
use lib.ListN.{get_elem?}
use Rattle.atomic_table.specs.Table.{gives, step, Allows}
use Rattle.atomic_table.proofs.Lists.{set_here}
use Rattle.turn_table.specs.declared.note.Note.{Note}
use Rattle.turn_table.specs.Notes.{note_after_entry, note_after_turn}
use Rattle.turn_table.specs.Rule.{total, bit, pairs_naming}
use Rattle.turn_table.specs.Steps.{ReleasesWithEntry, Releases}
use Rattle.turn_table.proofs.Totals.{total-append, total_at_two, enumerate_from-snoc, total_of_views_at}
use Rattle.turn_table.proofs.Changes.{same_note, Table, Rule, Right, AllRight, rule_after}
use Rattle.turn_table.proofs.Acquiring.{fits, made_le_seats}

false_of_bit : (b : Bool) → bit b ≤ 0 → b ≡ false
false_of_bit true le = absurd (omega arith)
false_of_bit false le = refl

down_by_one : (word rest : ℕ) → word ≡ rest + 1 → word + (2 ^ 64 - 1) ≡ rest + 2 ^ 64
down_by_one word rest is = omega arith

mod_of_wrapped : (k : ℕ) → k < 2 ^ 64 → (k + 2 ^ 64) % 2 ^ 64 ≡ k
mod_of_wrapped k small = omega arith

heads : List ℕ → ℕ
heads [] = 0
heads (x ∷ xs) = x

same_head : (x y : ℕ) → (x ∷ []) ≡ (y ∷ []) → x ≡ y
unfolding heads
same_head x y same = ap heads same

-- the pair of a new entry weighs in the own list as it does among the entries with their positions
own-snoc : (weight : ℕ × ℕ → ℕ) (own : List (ℕ × ℕ)) (trail made : List ℕ) (entry : ℕ) → trail ≡ made
    → total weight (own ++ (length trail, entry) ∷ []) + total weight (enumerate_from 0 made) ≡ total weight own + total weight (enumerate_from 0 (made ++ entry ∷ []))
own-snoc weight own trail made entry same =
    let more = total-append weight own ((length trail, entry) ∷ []) in
    let snoc : total weight (enumerate_from 0 (made ++ entry ∷ [])) ≡ total weight (enumerate_from 0 made ++ (0 + length made, entry) ∷ []) = ap (total weight) (enumerate_from-snoc 0 made entry) in
    let more' = total-append weight (enumerate_from 0 made) ((0 + length made, entry) ∷ []) in
    let there : 0 + length made ≡ length trail = omega (arith, ap length same) in
    let same_weight : weight (0 + length made, entry) ≡ weight (length trail, entry) = ap (λ (i : ℕ). weight (i, entry)) there in omega arith

-- an own list of one pair, whose entry names the seat
one_named : (names : ℕ → ℕ) (own : List (ℕ × ℕ)) (i entry number : ℕ) → own ≡ [] → names entry ≡ number
    → (length (own ++ (i, entry) ∷ []) ≤ 1) × ((k : ℕ) → pairs_naming names k (own ++ (i, entry) ∷ []) ≤ bit (eqb number k))
one_named names own i entry number none_own is =
    let P : List (ℕ × ℕ) → Type 0 = λ own. (length (own ++ (i, entry) ∷ []) ≤ 1) × ((k : ℕ) → pairs_naming names k (own ++ (i, entry) ∷ []) ≤ bit (eqb number k)) in
    subst P (sym none_own) (omega arith, λ k. let same : bit (eqb (names entry) k) ≡ bit (eqb number k) = ap (λ (z : ℕ). bit (eqb z k)) is in omega arith)

module _ {V : Type 0} (entries : V → List ℕ) (names : ℕ → ℕ) (opening : List ℕ) (seats : ℕ) where
  grown : (made : List ℕ) (entry : ℕ) (note : Note) → note.has_turn ≡ false → Right entries names opening seats made note → Right entries names opening seats (made ++ entry ∷ []) note
  grown made entry note idle right = record {
    opening_is = right.opening_is;
    seats_is = right.seats_is;
    number = right.number;
    trail = (right.trail.0 ++ entry ∷ [], sym (append_assoc note.trail right.trail.0 (entry ∷ [])) ∙ ap (λ l. l ++ entry ∷ []) right.trail.1);
    holder = λ turn. absurd (true≢false (sym turn ∙ idle));
    one_own = right.one_own;
    own_named = right.own_named;
  }

  all_grown : (made : List ℕ) (entry : ℕ) (view : List Note) → total (λ (note : Note). bit note.has_turn) view ≤ 0 → AllRight entries names opening seats made view → AllRight entries names opening seats (made ++ entry ∷ []) view
  all_grown made entry [] idle right = tt
  all_grown made entry (note ∷ notes) idle right = (grown made entry note (false_of_bit note.has_turn (omega arith)) right.0, all_grown made entry notes (omega arith) right.1)

  -- the seat that has the turn is the only one
  held_by : (state : Table entries names opening seats) (rule : Rule entries names opening seats state) (id : ℕ) (note : Note) → get_elem? state.views id ≡ some (note ∷ []) → note.has_turn ≡ true → rule.held ≡ 1
  held_by state rule id note at turn =
      let mine = total_of_views_at (λ (n : Note). bit n.has_turn) state.views id note at in let has : bit note.has_turn ≡ 1 = ap bit turn in
      let holders = rule.holders in let one = rule.one_holder in omega arith

  others_idle : (state : Table entries names opening seats) (rule : Rule entries names opening seats state) (id : ℕ) (note : Note) → get_elem? state.views id ≡ some (note ∷ []) → note.has_turn ≡ true
      → (j : ℕ) (view : List Note) → j ≢ id → get_elem? state.views j ≡ some view → total (λ (n : Note). bit n.has_turn) view ≤ 0
  others_idle state rule id note at turn j view apart there =
      let held = held_by state rule id note at turn in let has : bit note.has_turn ≡ 1 = ap bit turn in let holders = rule.holders in
      let two = total_at_two (total (λ (n : Note). bit n.has_turn)) state.views id j (note ∷ []) view (λ same. apart (sym same)) at there in omega arith

  values : List (ℕ × V) → V → V
  values [] default = default
  values (slot ∷ slots) default = slot.1

  -- a value with one entry more tells which
  same_entry : (x y : V) (n m : Note) (entry entry' : ℕ) → n ≡ m → ◌≡◌ {A = List (ℕ × V)} ((0, x) ∷ []) ((0, y) ∷ [])
      → entries x ≡ n.opening ++ (n.trail ++ entry ∷ []) → entries y ≡ m.opening ++ (m.trail ++ entry' ∷ []) → entry ≡ entry'
  unfolding values
  same_entry x y n m entry entry' same there is told =
      let value : x ≡ y = ap (λ slots. values slots x) there in
      let both : n.opening ++ (n.trail ++ entry ∷ []) ≡ n.opening ++ (n.trail ++ entry' ∷ []) = sym is ∙ (ap entries value ∙ (told ∙ (λ i. (sym same i).opening ++ ((sym same i).trail ++ entry' ∷ [])))) in
      same_head entry entry' (append_cancel_left n.trail (entry ∷ []) (entry' ∷ []) (append_cancel_left n.opening _ _ both))

  pub release_with_entry_allowed : (slots id : ℕ) (note : Note) (value : V) (entry : ℕ) → slots ≡ 1 → seats ≤ 64 → note.has_turn ≡ true
      → entries value ≡ note.opening ++ (note.trail ++ entry ∷ []) → names entry ≡ note.number → note.own ≡ []
      → Allows (Rule entries names opening seats) slots id (note ∷ [], (0, value) ∷ []) 0 (λ k. (k + 1) % 2 ^ 64) (ReleasesWithEntry entries (step slots 0 1 0 none) (note ∷ [], (0, value) ∷ []))
  release_with_entry_allowed slots id note value entry one_slot few turn is names_is none_own state rule long at _ =
      let old : ℕ = get_or state.words 0 0 in let right = (rule.notes id (note ∷ []) at).0 in let held = held_by state rule id note at turn in let after : Note = note_after_entry note entry in
      let word = rule.word in let trail : note.trail ≡ rule.made = right.holder turn in let room = (fits entries names opening seats state rule id note at).fewer none_own in let seats_is = right.seats_is in
      let small : old + 1 < 2 ^ 64 = omega arith in let sum : (old + 1) % 2 ^ 64 ≡ old + 1 = mod-eq_of_lt small in
      let has : bit note.has_turn ≡ 1 = ap bit turn in let own = one_named names note.own (length note.trail) entry note.number none_own names_is in (
        after ∷ [],
        gives,
        tt,
        rule_after entries names opening seats state rule id note after ((0, value) ∷ []) gives ((old + 1) % 2 ^ 64) (rule.made ++ entry ∷ []) 0 value at record {
          number = refl;
          word_is = omega (arith, length-append rule.made (entry ∷ []));
          holders = omega arith;
          one_holder = omega arith;
          pairs = λ weight. own-snoc weight note.own note.trail rule.made entry trail;
          right = record {
            opening_is = right.opening_is;
            seats_is = right.seats_is;
            number = right.number;
            trail = ([], append-nil (note.trail ++ entry ∷ []) ∙ ap (λ l. l ++ entry ∷ []) trail);
            holder = λ _. ap (λ l. l ++ entry ∷ []) trail;
            one_own = own.0;
            own_named = own.1;
          };
          still_served = omega arith;
          served = λ _. inl (omega arith);
        } (λ _. (set_here state.homes 0 (some value) (omega arith), is ∙ (λ i. right.opening_is i ++ (trail i ++ entry ∷ []))))
            (λ j view apart there. all_grown rule.made entry view (others_idle state rule id note at turn j view apart there) (rule.notes j view there)),
        λ told value' entry' same there said. let same_n = same_note note told same in
            let same_e : entry ≡ entry' = same_entry value value' note told entry entry' same_n there is said in λ i. (note_after_entry (same_n i) (same_e i) ∷ [], []),
      )

  pub release_allowed : (slots id : ℕ) (note : Note) (value : V) → slots ≡ 1 → seats ≤ 64 → note.has_turn ≡ true → entries value ≡ note.opening ++ note.trail
      → Allows (Rule entries names opening seats) slots id (note ∷ [], (0, value) ∷ []) 0 (λ k. (k + (2 ^ 64 - 1)) % 2 ^ 64) (Releases (step slots 0 1 0 none) (note ∷ [], (0, value) ∷ []))
  release_allowed slots id note value one_slot few turn is state rule long at _ =
      let old : ℕ = get_or state.words 0 0 in let right = (rule.notes id (note ∷ []) at).0 in let held = held_by state rule id note at turn in let after : Note = note_after_turn note in
      let word = rule.word in let trail : note.trail ≡ rule.made = right.holder turn in let has : bit note.has_turn ≡ 1 = ap bit turn in let made_few = made_le_seats entries names opening seats state rule in
      let down : (old + (2 ^ 64 - 1)) % 2 ^ 64 ≡ 2 * length rule.made = ap (λ (k : ℕ). k % 2 ^ 64) (down_by_one old (2 * length rule.made) (omega arith)) ∙ mod_of_wrapped (2 * length rule.made) (omega arith) in (
        after ∷ [],
        gives,
        tt,
        rule_after entries names opening seats state rule id note after ((0, value) ∷ []) gives ((old + (2 ^ 64 - 1)) % 2 ^ 64) rule.made 0 value at record {
          number = refl;
          word_is = omega arith;
          holders = omega arith;
          one_holder = omega arith;
          pairs = λ weight. refl;
          right = record { opening_is = right.opening_is; seats_is = right.seats_is; number = right.number; trail = right.trail; holder = λ _. trail; one_own = right.one_own; own_named = right.own_named };
          still_served = omega arith;
          served = λ _. inl (omega arith);
        } (λ _. (set_here state.homes 0 (some value) (omega arith), is ∙ (λ i. right.opening_is i ++ trail i)))
            (λ j view apart there. rule.notes j view there),
        λ told value' same there. ap (λ (n : Note). (note_after_turn n ∷ [], [])) (same_note note told same),
      )
