-- The keys that are left decide it.
use Rattle.std.proofs.Common.{◌≡◌, drop}
use Rattle.mesh_doc.specs.Faults.{has_name}
use Rattle.mesh_doc.proofs.part.has_name.Given as goal

abbrev pub invariant-loop-key : goal.invariant-loop-key
invariant-loop-key l = has_name l.keys l.name ≡ has_name (drop l.key-index l.keys) l.name
