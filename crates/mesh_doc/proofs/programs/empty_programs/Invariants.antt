-- The tiles so far have the empty program.
use Rattle.std.specs.List.{range_with_len}
use Rattle.std.proofs.Common.{◌≡◌, [], map}
use Rattle.mesh_doc.specs.Reading.{program_of_tile}
use Rattle.mesh_doc.proofs.programs.empty_programs.Given as goal

abbrev pub invariant-loop-tile : goal.invariant-loop-tile
invariant-loop-tile l = l.programs.items ≡ map (program_of_tile l.count []) (range_with_len 0 l._tile)
