use Rattle.mesh_doc.specs.Faults.{unknown_in}
use Rattle.mesh_doc.proofs.part.Part.check_known.Goals as goal
use Rattle.std.proofs.Common.{refl}

pub loop-name-init : goal.loop-name-init
unfolding unknown_in
loop-name-init c = rw c.into_iter-name-iterator.ensures.into_iter_gives.0 refl
