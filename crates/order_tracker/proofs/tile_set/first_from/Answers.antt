use Rattle.std.proofs.Common.{◌-◌, ◌*◌, ◌%◌, ◌^◌, arith}
use Rattle.std.proofs.lemmas.Nat.{and_le_l}
use Rattle.order_tracker.proofs.Words.{first_later, first_earlier}
use Rattle.order_tracker.proofs.tile_set.first_from.Goals as goal
use Rattle.order_tracker.proofs.tile_set.first_from.Goals.{then-later-eq0, else-later-eq0}

pub returns : goal.returns
returns c = elim c.if-later-eq0.branch [
  | then-later-eq0 w ↦ rw w.next-is (first_earlier c.args.set c.args.first (omega arith) c.requires.fits c.requires.some (omega arith))
  | else-later-eq0 w ↦ rw w.next-is (first_later c.args.set c.args.first (omega arith) c.requires.fits (omega arith) (omega (arith, and_le_l c.args.set ((2 ^ 64 - 1) * 2 ^ c.args.first % 2 ^ 64))))
]
