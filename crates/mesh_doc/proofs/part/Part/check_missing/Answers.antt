use Rattle.std.proofs.Common.{refl}
use Rattle.mesh_doc.specs.Faults.{missing_in}
use Rattle.mesh_doc.proofs.part.Part.check_missing.Goals as goal

pub loop-key-init : goal.loop-key-init
unfolding missing_in
loop-key-init c = rw (c.keys-keys.ensures, c.level.ensures) refl
