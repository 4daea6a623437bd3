use Rattle.std.proofs.Common.{◌≡◌, arith}
use Rattle.toml.specs.View.{view}
use Rattle.mesh_doc.specs.Values.{tile}
use Rattle.mesh_doc.proofs.Items.{list_in-none, list_in-some}
use Rattle.mesh_doc.proofs.values.read_tiles.Goals as goal

pub returns-in-Some : goal.returns-in-Some
returns-in-Some c =
    let most : c.from.result ≡ c.args.count = omega arith in
    rw (list_in-some 1 (c.args.count) (tile c.args.count) (view c.args.value.now) _ (rw most at (rw c.in-Some.is at c.items_in.ensures))) c.tiles_of.ensures

pub returns-in-None : goal.returns-in-None
returns-in-None c =
    let most : c.from.result ≡ c.args.count = omega arith in
    list_in-none 1 (c.args.count) (tile c.args.count) (view c.args.value.now) (rw most at (rw c.in-None.is at c.items_in.ensures))
