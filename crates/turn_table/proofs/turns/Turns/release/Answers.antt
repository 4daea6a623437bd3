use Rattle.std.proofs.Common.{rules, List, ◌+◌, ◌-◌, ◌%◌, ◌^◌, sym, subst}
use mathlib.Core.Option.{none}
use Rattle.atomic_table.specs.Table.{Me, Allows, step}
use Rattle.turn_table.specs.declared.note.Note.{Note}
use Rattle.turn_table.specs.Rule.{TurnRule}
use Rattle.turn_table.specs.Steps.{ReleasesWithEntry, Releases}
use Rattle.turn_table.specs.Turn.{note_in}
use Rattle.turn_table.proofs.Releasing.{release_with_entry_allowed, release_allowed}
use Rattle.turn_table.proofs.turns.Turns.release.Goals as goal

pub fetch_add-requires : goal.fetch_add-requires
fetch_add-requires g c =
    let shared = c.self.inside.table.shared in let opening = g.V.Turned.entries shared.key.value.value in let turn = c.requires.turn in let one = turn.more c.if-grown.true in (
      search rules,
      search rules,
      subst (λ (me : Me g.row.V.Denot (List Note)). Allows (TurnRule g.V.Turned.entries g.V.Turned.names opening shared.key.seats) shared.table_id.slots c.args.place.now.id me 0 (λ k. (k + 1) % 2 ^ 64)
          (ReleasesWithEntry g.V.Turned.entries (step shared.table_id.slots 0 1 0 none) me)) (sym turn.is)
          (release_with_entry_allowed g.V.Turned.entries g.V.Turned.names opening shared.key.seats shared.table_id.slots c.args.place.now.id (note_in c.args.place.now.me) turn.value one.0
          c.self.invariant.one_slot c.self.invariant.few_seats turn.has_turn one.1.0 one.1.1 one.1.2),
    )

pub fetch_sub-requires : goal.fetch_sub-requires
fetch_sub-requires g c =
    let shared = c.self.inside.table.shared in let opening = g.V.Turned.entries shared.key.value.value in let turn = c.requires.turn in (
      search rules,
      search rules,
      subst (λ (me : Me g.row.V.Denot (List Note)). Allows (TurnRule g.V.Turned.entries g.V.Turned.names opening shared.key.seats) shared.table_id.slots c.args.place.now.id me 0 (λ k. (k + (2 ^ 64 - 1)) % 2 ^ 64)
          (Releases (step shared.table_id.slots 0 1 0 none) me)) (sym turn.is)
          (release_allowed g.V.Turned.entries g.V.Turned.names opening shared.key.seats shared.table_id.slots c.args.place.now.id (note_in c.args.place.now.me) turn.value
          c.self.invariant.one_slot c.self.invariant.few_seats turn.has_turn (turn.same c.if-grown.false)),
    )
