-- The tables so far are right.
use Rattle.std.proofs.Common.{◌≡◌, drop}
use Rattle.std.specs.List.{flat_map}
use Rattle.mesh_doc.specs.Faults.{unknown_in}
use Rattle.mesh_doc.specs.Seen.{parts_seen}
use Rattle.mesh_doc.proofs.tables.check_known.Given as goal

abbrev pub invariant-loop-part : goal.invariant-loop-part
invariant-loop-part l = flat_map unknown_in (parts_seen l.parts) ≡ flat_map unknown_in (parts_seen (drop l.part-index l.parts))
