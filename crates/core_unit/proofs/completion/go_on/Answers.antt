use Rattle.std.proofs.Common.{◌∙◌, ap, inl, inr, Some}
use Rattle.report_text.specs.declared.access.AccessKind.{AccessKind}
use Rattle.core_unit.proofs.NextKinds.{load_next, store_next, swap_next, add_next}
use Rattle.core_unit.proofs.completion.go_on.Goals as goal

pub load_done-requires-clause-next : goal.load_done-requires-clause-next
load_done-requires-clause-next c = load_next c.args.program.now c.args.core.now (c.requires.next ∙ ap (λ (k : AccessKind). Some k) c.in-Load.is)

pub store_done-requires-clause-next : goal.store_done-requires-clause-next
store_done-requires-clause-next c = store_next c.args.program.now c.args.core.now (c.requires.next ∙ ap (λ (k : AccessKind). Some k) c.in-Store.is)

pub both_done-requires-clause-next : goal.both_done-requires-clause-next
both_done-requires-clause-next c = elim c.in-Swap.is [
  | inl is ↦ swap_next c.args.program.now c.args.core.now (c.requires.next ∙ ap (λ (k : AccessKind). Some k) is)
  | inr is ↦ add_next c.args.program.now c.args.core.now (c.requires.next ∙ ap (λ (k : AccessKind). Some k) is)
]
