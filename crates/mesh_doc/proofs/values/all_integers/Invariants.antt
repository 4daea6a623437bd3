-- The items that are left decide it.
use Rattle.std.proofs.Common.{◌≡◌, drop}
use Rattle.std.specs.List.{list_all}
use Rattle.toml.specs.View.{items_view}
use Rattle.mesh_doc.specs.Tables.{listed}
use Rattle.mesh_doc.specs.Faults.{is_integer}
use Rattle.mesh_doc.proofs.values.all_integers.Given as goal

abbrev pub invariant-loop-item : goal.invariant-loop-item
invariant-loop-item l = list_all is_integer (listed (items_view l.items)) ≡ list_all is_integer (listed (items_view (drop l.item-index l.items)))
