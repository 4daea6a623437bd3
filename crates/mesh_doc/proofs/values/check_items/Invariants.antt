-- The items so far are tables.
use Rattle.std.proofs.Common.{◌≡◌, drop}
use Rattle.std.specs.List.{flat_map, enumerate_from}
use Rattle.toml.specs.View.{items_view}
use Rattle.mesh_doc.specs.Tables.{listed}
use Rattle.mesh_doc.specs.Faults.{no_table}
use Rattle.mesh_doc.proofs.values.check_items.Given as goal

abbrev pub invariant-loop-at : goal.invariant-loop-at
invariant-loop-at l =
    flat_map (no_table l.key) (enumerate_from 0 (listed (items_view l.items))) ≡ flat_map (no_table l.key) (enumerate_from l.at (listed (items_view (drop l.at l.items))))
