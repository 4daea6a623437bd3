use Rattle.std.proofs.Common.{sym, ◌∙◌, arith}
use Rattle.vc_bank.proofs.FreeSlots.{position-first, position-none}
use Rattle.vc_bank.proofs.slots.first_free.Goals as goal

pub returns-then-is_free : goal.returns-then-is_free
returns-then-is_free g c = sym (position-first c.args.slots.now c.args.count c.loop-slot.slot c.loop-slot-test.true c.loop-slot.invariant (sym c.is_free.ensures ∙ c.if-is_free.true))

pub returns : goal.returns
returns g c = sym (position-none c.args.slots.now c.args.count (λ j below. c.loop-slot.invariant j (omega arith)))
