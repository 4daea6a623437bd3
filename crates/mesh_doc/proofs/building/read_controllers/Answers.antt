use Rattle.std.proofs.Common.{Some, ap}
use Rattle.doc_text.specs.declared.key.Key.TheVariants.{Controllers}
use Rattle.mesh_doc.specs.MeshSeen.{mesh_seen}
use Rattle.mesh_doc.proofs.Defaults.{value-default, tiles-default}
use Rattle.mesh_doc.proofs.building.read_controllers.Goals as goal

pub returns-in_ok-from_slice-in-None : goal.returns-in_ok-from_slice-in-None
returns-in_ok-from_slice-in-None c =
    rw (value-default Controllers (mesh_seen c.args.mesh) (rw c.in-None.is at c.written_in.ensures), tiles-default c.args.count c.requires) (ap Some c.in_ok-from_slice-in-None.ensures.items)
