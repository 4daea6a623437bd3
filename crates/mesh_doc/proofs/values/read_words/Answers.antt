use Rattle.std.proofs.Common.{◌≡◌, ◌*◌, arith}
use Rattle.toml.specs.View.{view}
use Rattle.mesh_doc.specs.Values.{number_in}
use Rattle.mesh_doc.proofs.Items.{list_in-none, list_in-some}
use Rattle.mesh_doc.proofs.values.read_words.Goals as goal

pub returns-in-Some : goal.returns-in-Some
returns-in-Some c =
    let most : 4 * c.from.result ≡ 4 * c.args.lines = omega arith in
    rw (list_in-some 0 (4 * c.args.lines) (number_in 0 4294967295) (view c.args.value.now) _ (rw most at (rw c.in-Some.is at c.items_in.ensures))) c.words_of.ensures

pub returns-in-None : goal.returns-in-None
returns-in-None c =
    let most : 4 * c.from.result ≡ 4 * c.args.lines = omega arith in
    list_in-none 0 (4 * c.args.lines) (number_in 0 4294967295) (view c.args.value.now) (rw most at (rw c.in-None.is at c.items_in.ensures))
