-- The programs that are placed are those of the last cores; the others are left.
use Rattle.std.specs.List.{range_with_len}
use Rattle.std.proofs.Common.{◌≡◌, length, map, take, drop}
use Rattle.mesh_doc.specs.Reading.{program_in, program_of_tile}
use Rattle.mesh_doc.specs.Seen.{parts_seen}
use Rattle.mesh_doc.proofs.programs.place_programs.Given as goal

abbrev pub invariant-loop-program : goal.invariant-loop-program
invariant-loop-program l = record {
  left : l.left.items ≡ map program_in (take (length l.left.items) (parts_seen l.cores));
  placed : l.placed.items ≡ map (program_of_tile l.count (drop (length l.left.items) (parts_seen l.cores))) (range_with_len 0 l.count);
}

abbrev pub decreases-loop-program : goal.decreases-loop-program
decreases-loop-program l = length l.left.items
