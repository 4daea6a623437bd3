-- The tiles of the cores so far.
use Rattle.std.proofs.Common.{◌≡◌, map, take, drop}
use Rattle.std.specs.List.{flat_map}
use Rattle.mesh_doc.specs.Faults.{core_range_fault, core_tile}
use Rattle.mesh_doc.specs.Seen.{parts_seen}
use Rattle.mesh_doc.proofs.building.read_core_tiles.Given as goal

abbrev pub invariant-loop-core : goal.invariant-loop-core
invariant-loop-core l = record {
  faults : flat_map (core_range_fault l.count) (parts_seen l.cores) ≡ flat_map (core_range_fault l.count) (parts_seen (drop l.core-index l.cores));
  tiles : l.tiles.items ≡ map (core_tile l.count) (parts_seen (take l.core-index l.cores));
}
