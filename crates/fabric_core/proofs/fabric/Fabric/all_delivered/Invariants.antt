use Rattle.std.proofs.Common.{◌≡◌, length}
use Rattle.std.specs.Prelude.{take}
use Rattle.std.specs.List.{list_all}
use Rattle.fabric_core.specs.Fabric.{has_delivered}
use Rattle.fabric_core.proofs.fabric.Fabric.all_delivered.Given as goal

abbrev pub invariant-loop-t : goal.invariant-loop-t
invariant-loop-t l = l.all ≡ list_all (has_delivered (length l.self.network.ordered)) (take l.t l.self.network.interfaces)
