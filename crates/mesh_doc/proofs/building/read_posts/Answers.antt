use Rattle.std.proofs.Common.{◌≡◌, [], Some}
use Rattle.toml.specs.View.{table_view}
use Rattle.doc_text.specs.declared.key.Key.TheVariants.{Posts}
use Rattle.mesh_doc.specs.Tables.{value}
use Rattle.mesh_doc.specs.Values.{windows}
use Rattle.mesh_doc.proofs.Defaults.{value-default, windows-default}
use Rattle.mesh_doc.proofs.building.read_posts.Goals as goal

pub returns-in-None : goal.returns-in-None
returns-in-None c =
    let top = table_view c.args.top.now in
    let missing : windows c.args.count (value Posts top) ≡ Some [] = rw (value-default Posts top (rw c.in-None.is at c.written_value.ensures)) (windows-default c.args.count) in
    cc
