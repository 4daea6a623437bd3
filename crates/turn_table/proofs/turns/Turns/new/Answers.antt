use Rattle.std.proofs.Common.{List, [], ◌∷◌, ◌++◌, sym, subst, ap, ◌∙◌}
use Rattle.atomic_table.specs.Table.{opening}
use Rattle.turn_table.specs.Notes.{new_notes}
use Rattle.turn_table.specs.Rule.{TurnRule}
use Rattle.turn_table.proofs.Dealing.{rule_at_start}
use Rattle.turn_table.proofs.turns.Turns.new.Goals as goal

pub new-requires : goal.new-requires
new-requires g c =
    let entries = g.V.Turned.entries in let names = g.V.Turned.names in let value = c.args.value in let seats = c.args.seats in
    let items = c.push_reserved.ensures.items ∙ ap (λ (slots : List g.row.V.Denot). slots ++ value ∷ []) c.in-Ok-with_capacity.ensures.items in
    subst (λ (x : g.row.V.Denot). TurnRule entries names (entries x) seats (opening (0 ∷ []) c.push_reserved.new.self.items (new_notes (entries x) seats 0 seats))) (sym c.of.ensures)
    (subst (λ (slots : List g.row.V.Denot). TurnRule entries names (entries value) seats (opening (0 ∷ []) slots (new_notes (entries value) seats 0 seats))) (sym items) (rule_at_start entries names value seats))
