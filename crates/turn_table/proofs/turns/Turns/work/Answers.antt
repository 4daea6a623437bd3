use Rattle.std.proofs.Common.{rules, ap, ◌∙◌, List, [], ◌∷◌, ℕ, ◌≡◌}
use Rattle.atomic_table.specs.Table.{rest}
use Rattle.turn_table.proofs.turns.Turns.work.Goals as goal

pub returns-clause-worked : goal.returns-clause-worked
returns-clause-worked g c =
    let held = c.slot_mut-value.result.now in let left = c.f-answer.new.arg2 in let no_other : rest c.args.place.now.me.1 ≡ [] = ap rest c.requires.held.1 in record {
      before = held;
      left = left;
      held = c.slot_mut-value.ensures.value ∙ ap (λ slots. (0, held) ∷ slots) no_other;
      holds = ap (λ (slots : List (ℕ × g.row.V.Denot)). (c.args.place.now.me.0, (0, left) ∷ slots)) no_other;
      called = search rules;
      more = search rules;
      same = search rules;
    }
