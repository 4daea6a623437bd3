use Rattle.std.proofs.Common.{ap, sym, subst, ◌∙◌}
use Rattle.turn_table.specs.declared.note.Note.{Note}
use Rattle.turn_table.specs.States.{first_note, SeatState}
use Rattle.turn_table.specs.Tries.{MayTakeTurn}
use Rattle.turn_table.proofs.turns.Turns.try_turn.Goals as goal

pub try_at-answer-requires-clause-turn : goal.try_at-answer-requires-clause-turn
try_at-answer-requires-clause-turn g c κs within =
    let same = ap first_note (sym c.into_seat-place.ensures.2) ∙ (ap (λ badge. first_note badge.views) c.replace.ensures.value ∙ ap (λ (seat : SeatState). seat.note) c.seat.view_is) in
    subst (λ (note : Note). MayTakeTurn g.V.Turned.entries g.V.Turned.names g.F.FnMut c.args.f.now note) (sym same) c.requires.turn
