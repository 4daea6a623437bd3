use Rattle.std.proofs.Common.{ℕ, ◌≡◌, List, ◌++◌, subst, sym, ap, ◌∙◌}
use Rattle.std.specs.Slots.{slots_items}
use Rattle.atomic_table.specs.Table.{Me, Final, Seen}
use Rattle.turn_table.specs.declared.note.Note.{Note}
use Rattle.turn_table.specs.Rule.{TurnRule}
use Rattle.turn_table.specs.States.{TurnsState}
use Rattle.turn_table.specs.Meeting.{notes_of, AccountFor}
use Rattle.turn_table.proofs.Gathering.{account_at_end, notes_counted, none_has_turn}
use Rattle.turn_table.proofs.turns.Turns.meet.Goals as goal

pub returns : goal.returns
returns g c =
    let entries = g.V.Turned.entries in let names = g.V.Turned.names in let key = c.self.inside.table.shared.key in let opening = entries key.value.value in
    let seats = c.args.seats.items in let notes = notes_of seats in let closed = c.close_with-closed.result in
    let notes_are = ap (λ (me : Me g.row.V.Denot (List Note)). me.0) c.gather-place.ensures.notes in
    let all = notes_counted seats ∙ (c.requires.all ∙ ap (λ (turns : TurnsState). turns.seats) (sym c.self.view_is)) in
    let end = subst (λ (view : List Note). Final (Seen (TurnRule entries names opening key.seats) c.gather-place.result.id view) (slots_items closed.words) (slots_items closed.slots)) notes_are c.close_with-closed.ensures.values.2 in
    subst (λ (had : List ℕ). (made : List ℕ) × (entries c.take-value.result ≡ had ++ made) × AccountFor names notes made) (ap (λ (turns : TurnsState). turns.opening) c.self.view_is)
    (account_at_end entries names opening key.seats (slots_items closed.words) (slots_items closed.slots) c.gather-place.result.id notes c.take-value.result end all (none_has_turn notes c.gather-place.ensures.no_turn) c.take-value.ensures.value)
