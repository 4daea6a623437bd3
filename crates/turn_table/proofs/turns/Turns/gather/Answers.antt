use Rattle.std.proofs.Common.{rules, ◌≡◌, List, [], ◌∷◌, ◌++◌, ap, sym, ◌∙◌, append_assoc, false, Some}
use Rattle.std.proofs.lemmas.List.{map-append}
use Rattle.std.proofs.lemmas.List.Elements.{All-pop, All-same, All-cons}
use Rattle.atomic_table.specs.Table.{Me}
use Rattle.turn_table.specs.declared.note.Note.{Note}
use Rattle.turn_table.specs.States.{SeatState, TurnsState}
use Rattle.turn_table.specs.Meeting.{notes_of}
use Rattle.turn_table.proofs.Regrouping.{join_allowed}
use Rattle.turn_table.proofs.turns.Turns.gather.Goals as goal

pub join_seat-requires : goal.join_seat-requires
join_seat-requires g c =
    let shared = c.self.inside.table.shared in let loop = c.loop-seat in let next = c.into_place in let popped = c.in-Some-pop in let is_ours = λ (seat : SeatState). seat.table ≡ c.args.self.now.table in
    let table = ap (λ (turns : TurnsState). turns.table) (sym c.self.view_is) in let left = All-pop is_ours loop.seats.items c.pop-in-loop-seat.new.self.items (Some popped.seat) popped.ensures.items loop.invariant.seats in (
      loop.invariant.table ∙ table,
      next.ensures.table ∙ (left.1 ∙ table),
      ap (λ (me : Me g.row.V.Denot (List Note)). me.1) next.ensures.note,
      search rules,
      join_allowed g.V.Turned.entries g.V.Turned.names (g.V.Turned.entries shared.key.value.value) shared.key.seats loop.place.id loop.place.me.0 next.result.id next.result.me.0,
    )

pub loop-seat-preserved : goal.loop-seat-preserved
loop-seat-preserved g c =
    let loop = c.loop-seat in let next = c.into_place in let popped = c.in-Some-pop in let join = c.join_seat.ensures in let items = c.pop-in-loop-seat.new.self.items in let rest = notes_of items in
    let is_ours = λ (seat : SeatState). seat.table ≡ c.args.self.now.table in let note_of = λ (seat : SeatState). seat.note in
    let left = All-pop is_ours loop.seats.items items (Some popped.seat) popped.ensures.items loop.invariant.seats in
    let one_more : rest ++ popped.seat.note ∷ [] ≡ notes_of loop.seats.items = sym (map-append note_of items (popped.seat ∷ [])) ∙ ap notes_of (sym popped.ensures.items) in record {
      table = join.0 ∙ loop.invariant.table;
      no_slot = ap (λ (me : Me g.row.V.Denot (List Note)). me.1) join.2 ∙ loop.invariant.no_slot;
      seats = left.0;
      no_turn = All-same (λ (note : Note). note.has_turn ≡ false) c.join_seat.new.seat.me.0 (popped.seat.note ∷ loop.place.me.0)
          (ap (λ (me : Me g.row.V.Denot (List Note)). me.0) join.2 ∙ ap (λ (me : Me g.row.V.Denot (List Note)). me.0 ++ loop.place.me.0) next.ensures.note)
          (All-cons (λ (note : Note). note.has_turn ≡ false) popped.seat.note loop.place.me.0 next.ensures.no_turn loop.invariant.no_turn);
      notes = ap (λ (me : Me g.row.V.Denot (List Note)). rest ++ me.0) join.2
          ∙ (ap (λ (me : Me g.row.V.Denot (List Note)). rest ++ (me.0 ++ loop.place.me.0)) next.ensures.note
          ∙ (sym (append_assoc rest (popped.seat.note ∷ []) loop.place.me.0) ∙ (ap (λ notes. notes ++ loop.place.me.0) one_more ∙ loop.invariant.notes)));
    }
