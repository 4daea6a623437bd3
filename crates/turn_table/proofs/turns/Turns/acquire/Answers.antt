use Rattle.std.proofs.Common.{rules, List, [], ◌∷◌, sym, subst, refl, ap, ◌∙◌, ℕ, eqb, ◌+◌}
use mathlib.Core.Option.{none}
use prog.Atomic.{either}
use Rattle.atomic_table.specs.Table.{Me, Allows, step}
use Rattle.turn_table.specs.declared.note.Note.{Note}
use Rattle.turn_table.specs.Notes.{note_after_miss}
use Rattle.turn_table.specs.Rule.{TurnRule}
use Rattle.turn_table.specs.Steps.{GetsTurn, Acquires}
use Rattle.turn_table.specs.Places.{note_at}
use Rattle.turn_table.proofs.Acquiring.{acquire_allowed}
use Rattle.turn_table.proofs.turns.Turns.acquire.Goals as goal

pub compare_exchange-requires : goal.compare_exchange-requires
compare_exchange-requires g c =
    let shared = c.self.inside.table.shared in let opening = g.V.Turned.entries shared.key.value.value in let note = note_at c.args.place.now in let seen = c.args.seen in (
      search rules,
      search rules,
      subst (λ (me : Me g.row.V.Denot (List Note)). Allows (TurnRule g.V.Turned.entries g.V.Turned.names opening shared.key.seats) shared.table_id.slots c.args.place.now.id me 0 (λ x. either (eqb x seen) (seen + 1) x)
          (Acquires g.V.Turned.entries g.V.Turned.names (step shared.table_id.slots 0 seen (seen + 1) none) me)) (sym c.requires.place.one_note)
          (acquire_allowed g.V.Turned.entries g.V.Turned.names opening shared.key.seats shared.table_id.slots c.args.place.now.id note [] seen (seen + 1) c.requires.place.no_turn c.requires.seen.0 c.requires.seen.1 refl),
    )

pub returns-clause-exchanged : goal.returns-clause-exchanged
returns-clause-exchanged g c =
    let note = note_at c.args.place.now in let one = c.requires.place.one_note in let none_held = ap (λ (me : Me g.row.V.Denot (List Note)). me.1) one in let found = c.compare_exchange.result in
    let told = c.compare_exchange.ensures.2 note (ap (λ (me : Me g.row.V.Denot (List Note)). me.0) one) in (
      (λ hit. subst (λ (slots : List (ℕ × g.row.V.Denot)). GetsTurn g.V.Turned.entries g.V.Turned.names note slots found c.compare_exchange.new.seat.me) none_held (told.0 hit)),
      λ miss. told.1 miss ∙ ap (λ (slots : List (ℕ × g.row.V.Denot)). (note_after_miss note found ∷ [], slots)) none_held,
    )
