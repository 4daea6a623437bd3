-- A turn, from the exchange that got it to the end.
use Rattle.std.proofs.Common.{◌≡◌, ℕ, ◌%◌, ◌≢◌, ◌||◌, List, [], ◌∷◌, ◌++◌, length, length-append, sym, refl, ap, ◌∙◌, subst, inl, inr, ⊎_elim, arith, append_assoc, eqb, Bool, true, false}
use Rattle.std.specs.Fn.{Mut, CalledAtMut}
use denote.Ref.{MutBor}
use Rattle.turn_table.specs.declared.note.Note.{Note}
use Rattle.turn_table.specs.Notes.{note_after_load, note_with_turn, note_after_entry, note_after_turn}
use Rattle.turn_table.specs.Steps.{Holding, FitsNote, GetsTurn}
use Rattle.turn_table.specs.Tries.{MakesAtMostOne, MayTakeTurn, TookTurn, note_served}
use Rattle.turn_table.specs.Turn.{note_in, HasOneMore, MayEnd, Ended, HasTurn, Worked, HadTurn}

-- a load of an even number refuses nobody
pub even_load : (note : Note) (seen : ℕ) → seen % 2 ≡ 0 → (eqb (seen % 2) 1 || note.refused) ≡ note.refused
even_load note seen even = ap (λ (k : ℕ). eqb k 1 || note.refused) even

module _ {F V R : Type 0} (entries : V → List ℕ) (names : ℕ → ℕ) (closure : Mut F (MutBor V × Unit {0}) (R × (MutBor V × Unit {0}))) where
  values : List (ℕ × V) → V → V
  values [] default = default
  values (slot ∷ slots) default = slot.1

  same_value : (x y : V) → ◌≡◌ {A = List (ℕ × V)} ((0, x) ∷ []) ((0, y) ∷ []) → x ≡ y
  unfolding values
  same_value x y same = ap (λ slots. values slots x) same

  made_one : (note : Note) (old new : List ℕ) → length old ≢ length new → MakesAtMostOne names note old new → (entry : ℕ) × (new ≡ old ++ entry ∷ []) × (names entry ≡ note.number) × (note.own ≡ [])
  made_one note old new other (inl same) = absurd (other (ap length (sym same)))
  made_one note old new other (inr one) = one

  made_none : (note : Note) (old new : List ℕ) → length old ≡ length new → MakesAtMostOne names note old new → new ≡ old
  made_none note old new same_length (inl same) = same
  made_none note old new same_length (inr one) = let longer = ap length one.1 in absurd (omega (arith, length-append old (one.0 ∷ [])))

  module _ (seat : Holding V) (f : F) (turn : HasTurn entries names closure seat f) (answer : R) (grown : Bool) (f' : F) (worked_seat : Holding V) (worked : Worked entries names closure seat f answer grown f' worked_seat) where
    before_is : worked.before ≡ turn.value
    before_is = same_value worked.before turn.value (sym worked.held ∙ ap (λ (s : Holding V). s.1) turn.is)

    seat_is : ◌≡◌ {A = Holding V} worked_seat (turn.note ∷ [], (0, worked.left) ∷ [])
    seat_is = worked.holds ∙ ap (λ (s : Holding V). let now : Holding V = (s.0, (0, worked.left) ∷ []) in now) turn.is

    note_is : note_in worked_seat ≡ turn.note
    note_is = ap note_in seat_is

    makes : MakesAtMostOne names turn.note (entries worked.before) (entries worked.left)
    makes = subst (λ (x : V). MakesAtMostOne names turn.note (entries x) (entries worked.left)) (sym before_is)
        (turn.makes answer f' worked.left (subst (λ (x : V). CalledAtMut closure f x answer f' worked.left) before_is worked.called))

    found : entries worked.before ≡ turn.note.opening ++ turn.note.trail
    found = ap entries before_is ∙ turn.entries_are

    one_more : grown ≡ true → (entry : ℕ) × (entries worked.left ≡ entries worked.before ++ entry ∷ []) × HasOneMore entries names turn.note worked.left entry
    one_more is = let one = made_one turn.note (entries worked.before) (entries worked.left) (worked.more is) makes in
        (one.0, one.1, (one.1 ∙ (ap (λ l. l ++ one.0 ∷ []) found ∙ append_assoc turn.note.opening turn.note.trail (one.0 ∷ [])), one.2, one.3))

    none_more : grown ≡ false → entries worked.left ≡ entries worked.before
    none_more is = made_none turn.note (entries worked.before) (entries worked.left) (worked.same is) makes

    pub may_end : MayEnd entries names worked_seat grown
    may_end = record {
      value = worked.left;
      is = seat_is ∙ ap (λ (n : Note). let now : Holding V = (n ∷ [], (0, worked.left) ∷ []) in now) (sym note_is);
      has_turn = ap (λ (n : Note). n.has_turn) note_is ∙ turn.has_turn;
      same = λ is. subst (λ (n : Note). entries worked.left ≡ n.opening ++ n.trail) (sym note_is) (none_more is ∙ found);
      more = λ is. let one = one_more is in (one.0, subst (λ (n : Note). HasOneMore entries names n worked.left one.0) (sym note_is) one.2);
    }

    had_turn_at : (b : Bool) → grown ≡ b → (after : Holding V) → Ended entries names worked_seat grown after → HadTurn entries names closure seat f answer f' after
    had_turn_at true is after ended = let one = one_more is in record {
      before = worked.before;
      left = worked.left;
      was = worked.held;
      called = worked.called;
      note = note_after_entry turn.note one.0;
      is = ended.more is worked.left one.0 (ap (λ (s : Holding V). s.1) seat_is) (subst (λ (n : Note). entries worked.left ≡ n.opening ++ (n.trail ++ one.0 ∷ [])) (sym note_is) one.2.0)
          ∙ ap (λ (n : Note). let now : Holding V = (note_after_entry n one.0 ∷ [], []) in now) note_is;
      noted = inr (one.0, one.1, ap (λ (s : Holding V). note_after_entry (note_in s) one.0) (sym turn.is));
    }
    had_turn_at false is after ended = record {
      before = worked.before;
      left = worked.left;
      was = worked.held;
      called = worked.called;
      note = note_after_turn turn.note;
      is = ended.same is ∙ ap (λ (n : Note). let now : Holding V = (note_after_turn n ∷ [], []) in now) note_is;
      noted = inl (none_more is, ap (λ (s : Holding V). note_after_turn (note_in s)) (sym turn.is));
    }

    pub had_turn : (after : Holding V) → Ended entries names worked_seat grown after → HadTurn entries names closure seat f answer f' after
    had_turn after ended = had_turn_at grown refl after ended

  module _ (f : F) (note loaded : Note) (seen : ℕ) (loaded_is : loaded ≡ note_after_load note seen) where
    fits_before : (made : List ℕ) → FitsNote names loaded made → FitsNote names note made
    fits_before made fits = let fits' = subst (λ (n : Note). FitsNote names n made) loaded_is fits in record { begins = fits'.begins; unnamed = fits'.unnamed; fewer = fits'.fewer }

    entries_before : (value : V) (made : List ℕ) → entries value ≡ loaded.opening ++ made → entries value ≡ note.opening ++ made
    entries_before value made is = is ∙ ap (λ (n : Note). n.opening ++ made) loaded_is

    pub has_turn : (found : ℕ) (seat : Holding V) → MayTakeTurn entries names closure f note → GetsTurn entries names loaded [] found seat → HasTurn entries names closure seat f
    has_turn found seat may gets =
        let value = gets.0 in let made = gets.1 in let call = may value made (entries_before value made gets.2) (fits_before made gets.3) in record {
          note = note_with_turn loaded made found;
          value = value;
          is = gets.4;
          has_turn = refl;
          entries_are = gets.2;
          callable = call.0;
          makes = λ answer f' value' called. subst (λ (n : Note). MakesAtMostOne names (note_with_turn n made found) (entries value) (entries value')) (sym loaded_is) (call.1 answer f' value' called);
        }

    module _ (even : seen % 2 ≡ 0) (idle : note.has_turn ≡ false) where
      none_made : (made : List ℕ) → note_after_turn (note_with_turn loaded made seen) ≡ note_served note seen made note.own
      none_made made = ap (λ (n : Note). note_after_turn (note_with_turn n made seen)) loaded_is
          ∙ (λ i. record (note_served note seen made note.own) { refused = even_load note seen even i; has_turn = sym idle i })

      one_made : (made : List ℕ) (entry : ℕ) → note_after_entry (note_with_turn loaded made seen) entry ≡ note_served note seen (made ++ entry ∷ []) (note.own ++ (length made, entry) ∷ [])
      one_made made entry = ap (λ (n : Note). note_after_entry (note_with_turn n made seen) entry) loaded_is
          ∙ (λ i. record (note_served note seen (made ++ entry ∷ []) (note.own ++ (length made, entry) ∷ [])) { refused = even_load note seen even i; has_turn = sym idle i })

      pub took_turn : (seat : Holding V) (answer : R) (f' : F) (after : Holding V) → GetsTurn entries names loaded [] seen seat → HadTurn entries names closure seat f answer f' after
          → TookTurn entries names closure f note answer f' (note_in after)
      took_turn seat answer f' after gets had =
          let value_is : had.before ≡ gets.0 = same_value had.before gets.0 (sym had.was ∙ ap (λ (s : Holding V). s.1) gets.4) in
          let note_is : note_in after ≡ had.note = ap note_in had.is in
          let got : note_in seat ≡ note_with_turn loaded gets.1 seen = ap note_in gets.4 in record {
            before = had.before;
            after = had.left;
            made = gets.1;
            seen = seen;
            entries_are = ap entries value_is ∙ entries_before gets.0 gets.1 gets.2;
            fits = fits_before gets.1 gets.3;
            called = had.called;
            free = even;
            noted = ⊎_elim
                (λ same. inl (same.0, note_is ∙ (same.1 ∙ (ap note_after_turn got ∙ none_made gets.1))))
                (λ one. inr (one.0, one.1, note_is ∙ (one.2 ∙ (ap (λ (n : Note). note_after_entry n one.0) got ∙ one_made gets.1 one.0)))) had.noted;
          }

  pub is_place : (seat : Holding V) (f : F) (answer : R) (f' : F) (after : Holding V) → HadTurn entries names closure seat f answer f' after → (after ≡ (note_in after ∷ [], [])) × ((note_in after).has_turn ≡ false)
  is_place seat f answer f' after had = let note_is : note_in after ≡ had.note = ap note_in had.is in (
    had.is ∙ ap (λ (n : Note). let now : Holding V = (n ∷ [], []) in now) (sym note_is),
    ap (λ (n : Note). n.has_turn) note_is ∙ ⊎_elim (λ same. ap (λ (n : Note). n.has_turn) same.1) (λ one. ap (λ (n : Note). n.has_turn) one.2) had.noted,
  )
