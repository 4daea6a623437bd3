use Rattle.toml.specs.View.{view}
use Rattle.mesh_doc.specs.Values.{window}
use Rattle.mesh_doc.proofs.Items.{list_in-none, list_in-some}
use Rattle.mesh_doc.proofs.building.read_windows.Goals as goal

pub returns-in-Some : goal.returns-in-Some
returns-in-Some c =
    rw (list_in-some 0 (4096) (window c.args.count) (view c.args.value.now) _ (rw c.in-Some.is at c.items_in.ensures)) c.windows_of.ensures

pub returns-in-None : goal.returns-in-None
returns-in-None c =
    list_in-none 0 (4096) (window c.args.count) (view c.args.value.now) (rw c.in-None.is at c.items_in.ensures)
