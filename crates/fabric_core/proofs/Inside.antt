-- The parts of the type's fields.
use Rattle.fabric_core.specs.declared.fabric.Fabric.TheInside.{Inside}
use Rattle.fabric_core.specs.Parts.{FabricParts}

abbrev pub parts : Inside → FabricParts
parts s = record {
  network = s.network;
  replies = s.replies;
  log = s.log;
  accesses = s.accesses.items;
  hops = s.hops;
}
