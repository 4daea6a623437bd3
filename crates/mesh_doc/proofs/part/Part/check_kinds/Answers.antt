use Rattle.std.proofs.Common.{refl}
use Rattle.mesh_doc.specs.Faults.{wrong_in}
use Rattle.mesh_doc.proofs.part.Part.check_kinds.Goals as goal

pub loop-key-init : goal.loop-key-init
unfolding wrong_in
loop-key-init c = rw (c.keys-keys.ensures, c.level.ensures) refl
