use Rattle.std.proofs.Common.{Some, ap}
use Rattle.doc_text.specs.declared.key.Key.TheVariants.{Memory}
use Rattle.mesh_doc.specs.MeshSeen.{mesh_seen}
use Rattle.mesh_doc.proofs.Defaults.{value-default, words-default}
use Rattle.mesh_doc.proofs.building.read_memory.Goals as goal

pub returns-in-None : goal.returns-in-None
returns-in-None c =
    rw (value-default Memory (mesh_seen c.args.mesh) (rw c.in-None.is at c.written_in.ensures), words-default c.args.lines) (ap Some c.new.ensures.items)
