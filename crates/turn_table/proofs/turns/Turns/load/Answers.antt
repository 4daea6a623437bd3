use Rattle.std.proofs.Common.{rules, List, [], ◌∷◌, sym, subst, ap, ◌∙◌, ℕ}
use mathlib.Core.Option.{none}
use Rattle.atomic_table.specs.Table.{Me, Allows, step}
use Rattle.turn_table.specs.declared.note.Note.{Note}
use Rattle.turn_table.specs.Notes.{note_after_load}
use Rattle.turn_table.specs.Rule.{TurnRule}
use Rattle.turn_table.specs.Steps.{Loads}
use Rattle.turn_table.specs.Places.{note_at}
use Rattle.turn_table.proofs.Loading.{load_allowed}
use Rattle.turn_table.proofs.turns.Turns.load.Goals as goal

pub load-requires : goal.load-requires
load-requires g c =
    let shared = c.self.inside.table.shared in let opening = g.V.Turned.entries shared.key.value.value in let note = note_at c.args.place.now in (
      search rules,
      search rules,
      subst (λ (me : Me g.row.V.Denot (List Note)). Allows (TurnRule g.V.Turned.entries g.V.Turned.names opening shared.key.seats) shared.table_id.slots c.args.place.now.id me 0 (λ x. x)
          (Loads (step shared.table_id.slots 0 0 0 none) me)) (sym c.requires.place.one_note)
          (load_allowed g.V.Turned.entries g.V.Turned.names opening shared.key.seats shared.table_id.slots c.args.place.now.id note [] c.requires.place.no_turn),
    )

pub returns-clause-noted : goal.returns-clause-noted
returns-clause-noted g c = let note = note_at c.args.place.now in let one = c.requires.place.one_note in
    c.load.ensures.2 note (ap (λ (me : Me g.row.V.Denot (List Note)). me.0) one)
    ∙ ap (λ (slots : List (ℕ × g.row.V.Denot)). (note_after_load note c.load.result ∷ [], slots)) (ap (λ (me : Me g.row.V.Denot (List Note)). me.1) one)
