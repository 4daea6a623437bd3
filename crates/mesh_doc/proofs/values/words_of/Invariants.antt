-- What the items so far say, and what those that are left say.
use Rattle.std.proofs.Common.{◌≡◌, drop}
use Rattle.toml.specs.View.{items_view}
use Rattle.mesh_doc.specs.Tables.{listed}
use Rattle.mesh_doc.specs.Values.{each, number_in}
use Rattle.mesh_doc.proofs.Items.{after}
use Rattle.mesh_doc.proofs.values.words_of.Given as goal

abbrev pub invariant-loop-item : goal.invariant-loop-item
invariant-loop-item l = each (number_in 0 4294967295) (listed (items_view l.items)) ≡ after l.words.items (each (number_in 0 4294967295) (listed (items_view (drop l.item-index l.items))))
