-- What the items so far say, and what those that are left say.
use Rattle.std.proofs.Common.{◌≡◌, drop}
use Rattle.toml.specs.View.{items_view}
use Rattle.mesh_doc.specs.Tables.{listed}
use Rattle.mesh_doc.specs.Values.{each, window}
use Rattle.mesh_doc.proofs.Items.{after}
use Rattle.mesh_doc.proofs.building.windows_of.Given as goal

abbrev pub invariant-loop-item : goal.invariant-loop-item
invariant-loop-item l = each (window l.count) (listed (items_view l.items)) ≡ after l.windows.items (each (window l.count) (listed (items_view (drop l.item-index l.items))))
