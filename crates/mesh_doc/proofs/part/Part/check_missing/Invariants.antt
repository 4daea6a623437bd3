-- The keys so far are right.
use Rattle.std.proofs.Common.{◌≡◌, drop}
use Rattle.std.specs.List.{flat_map}
use Rattle.mesh_doc.specs.Faults.{missing_in, missing_key}
use Rattle.mesh_doc.specs.Seen.{part_seen}
use Rattle.mesh_doc.proofs.part.Part.check_missing.Given as goal

abbrev pub invariant-loop-key : goal.invariant-loop-key
invariant-loop-key l = missing_in (part_seen l.self) ≡ flat_map (missing_key (part_seen l.self)) (drop l.key-index l.keys)
