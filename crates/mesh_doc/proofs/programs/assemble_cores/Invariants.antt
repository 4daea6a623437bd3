-- The programs of the cores so far.
use Rattle.std.proofs.Common.{◌≡◌, map, take, drop}
use Rattle.std.specs.List.{flat_map}
use Rattle.mesh_doc.specs.Faults.{bad_program}
use Rattle.mesh_doc.specs.Reading.{program_in}
use Rattle.mesh_doc.specs.Seen.{parts_seen}
use Rattle.mesh_doc.proofs.programs.assemble_cores.Given as goal

abbrev pub invariant-loop-i : goal.invariant-loop-i
invariant-loop-i l = record {
  faults : flat_map (bad_program l.count) (parts_seen l.cores) ≡ flat_map (bad_program l.count) (parts_seen (drop l.i l.cores));
  programs : l.programs.items ≡ map program_in (parts_seen (take l.i l.cores));
}
