use Rattle.std.proofs.Common.{◌≡◌}
use Rattle.flat_ref.specs.Execution.{cores_at}
use Rattle.flat_ref.proofs.Reached.{cores_from}
use Rattle.flat_ref.proofs.checking.reach_all.Given as goal

abbrev pub invariant-loop-tile : goal.invariant-loop-tile
invariant-loop-tile l =
    cores_from l.tile l.steps l.programs l.cores ≡ cores_at l.steps l.programs l.initial.cores
