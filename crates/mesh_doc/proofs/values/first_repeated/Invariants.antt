-- The tiles so far are distinct.
use Rattle.std.proofs.Common.{◌≡◌, take, drop}
use Rattle.mesh_doc.specs.Values.{repeated, repeated_after}
use Rattle.mesh_doc.proofs.values.first_repeated.Given as goal

abbrev pub invariant-loop-i : goal.invariant-loop-i
invariant-loop-i l = repeated l.tiles ≡ repeated_after (take l.i l.tiles) (drop l.i l.tiles)
