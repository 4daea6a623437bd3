-- The tables among the items so far, and among those that are left.
use Rattle.std.proofs.Common.{◌≡◌, ◌++◌, drop}
use Rattle.std.specs.List.{filter_map, enumerate_from}
use Rattle.toml.specs.View.{items_view}
use Rattle.mesh_doc.specs.Tables.{listed, core_part}
use Rattle.mesh_doc.specs.Seen.{parts_seen}
use Rattle.mesh_doc.proofs.tables.parts_in.Given as goal

abbrev pub invariant-loop-at : goal.invariant-loop-at
invariant-loop-at l =
    filter_map core_part (enumerate_from 0 (listed (items_view l.items)))
    ≡ parts_seen l.cores.items ++ filter_map core_part (enumerate_from l.at (listed (items_view (drop l.at l.items))))
