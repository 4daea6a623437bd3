-- The names so far are known.
use Rattle.std.proofs.Common.{◌≡◌}
use Rattle.std.specs.List.{flat_map}
use Rattle.toml.specs.View.{members_view}
use Rattle.mesh_doc.specs.Tables.{keys}
use Rattle.mesh_doc.specs.Faults.{unknown_in, unknown_key}
use Rattle.mesh_doc.specs.Seen.{part_seen}
use Rattle.mesh_doc.proofs.part.Part.check_known.Given as goal

abbrev pub invariant-loop-name : goal.invariant-loop-name
invariant-loop-name l = unknown_in (part_seen l.self) ≡ flat_map (unknown_key (part_seen l.self)) (keys (members_view l.name-iterator))
