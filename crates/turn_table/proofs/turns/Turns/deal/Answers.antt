use Rattle.std.proofs.Common.{rules, ◌≡◌, ℕ, ◌+◌, ◌-◌, ◌<◌, List, [], ◌∷◌, length, length-append, ap, sym, subst, ◌∙◌, arith, Some}
use Rattle.std.specs.List.{slice_get}
use Rattle.atomic_table.specs.Table.{Me, Splits}
use Rattle.turn_table.specs.declared.note.Note.{Note}
use Rattle.turn_table.specs.Notes.{new_note, new_notes}
use Rattle.turn_table.specs.Rule.{TurnRule}
use Rattle.turn_table.specs.Steps.{first_note_taken, first_note_alone}
use Rattle.turn_table.specs.States.{SeatState, TurnsState, new_seat, seat_state}
use Rattle.turn_table.proofs.Dealing.{next_note, numbered-snoc}
use Rattle.turn_table.proofs.Regrouping.{split_allowed}
use Rattle.turn_table.proofs.turns.Turns.deal.Goals as goal

pub split_seat-next-requires : goal.split_seat-next-requires
split_seat-next-requires g c =
    let shared = c.self.inside.table.shared in let turns = c.args.self.now in let dealt = c.loop.counter in let opening = g.V.Turned.entries shared.key.value.value in
    let within : dealt < turns.seats = search rules in
    let is = ap (λ (me : Me g.row.V.Denot (List Note)). me.0) c.loop.invariant.place ∙ next_note turns.opening turns.seats dealt within in (
      c.loop.invariant.table ∙ ap (λ (t : TurnsState). t.table) (sym c.self.view_is),
      search rules,
      subst (λ (notes : List Note). Splits (TurnRule g.V.Turned.entries g.V.Turned.names opening shared.key.seats) c.loop.place.id notes (first_note_taken notes) (first_note_alone notes)) (sym is)
          (split_allowed g.V.Turned.entries g.V.Turned.names opening shared.key.seats c.loop.place.id (new_note turns.opening turns.seats dealt) (new_notes turns.opening turns.seats (dealt + 1) (turns.seats - (dealt + 1)))),
    )

pub loop-preserved : goal.loop-preserved
loop-preserved g c =
    let turns = c.args.self.now in let dealt = c.loop.counter in let before = c.loop.invariant in let split = c.split_seat-next.ensures in let pushed = c.push_reserved.ensures in let seat : SeatState = c.of.result in
    let within : dealt < turns.seats = search rules in
    let is = ap (λ (me : Me g.row.V.Denot (List Note)). me.0) before.place ∙ next_note turns.opening turns.seats dealt within in
    let none_held = ap (λ (me : Me g.row.V.Denot (List Note)). me.1) before.place in
    let table = split.3 ∙ before.table in
    let noted = ap (λ (me : Me g.row.V.Denot (List Note)). me.0) split.4 ∙ ap first_note_alone is in
    let seat_is : seat ≡ new_seat turns dealt = c.of.ensures ∙ (λ k. seat_state (table k) (noted k ∷ [])) in record {
      table = split.0 ∙ before.table;
      place = split.2 ∙ (λ k. (first_note_taken (is k), none_held k));
      count = ap length pushed.items ∙ omega (arith, length-append c.loop.row.items (seat ∷ []), before.count);
      room = let capacity = pushed.capacity in let room = before.room in omega arith;
      each = subst (λ (row : List SeatState). (number : ℕ) → number < dealt + 1 → slice_get row number ≡ Some (new_seat turns number)) (sym pushed.items)
          (numbered-snoc (new_seat turns) c.loop.row.items seat dealt before.count seat_is before.each);
    }
