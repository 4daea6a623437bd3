-- The keys so far are right.
use Rattle.std.proofs.Common.{◌≡◌, drop}
use Rattle.std.specs.List.{flat_map}
use Rattle.mesh_doc.specs.Faults.{wrong_in, wrong_at}
use Rattle.mesh_doc.specs.Seen.{part_seen}
use Rattle.mesh_doc.proofs.part.Part.check_kinds.Given as goal

abbrev pub invariant-loop-key : goal.invariant-loop-key
invariant-loop-key l = wrong_in (part_seen l.self) ≡ flat_map (wrong_at (part_seen l.self)) (drop l.key-index l.keys)
