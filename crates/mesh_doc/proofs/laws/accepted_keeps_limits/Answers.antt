use Rattle.mesh_doc.proofs.Accepted.{reading-keeps}
use Rattle.mesh_doc.proofs.laws.accepted_keeps_limits.Goals as goal

pub returns : goal.returns
returns c = reading-keeps
