use Rattle.std.proofs.Common.{◌≡◌}
use Rattle.machine_core.proofs.PrivateSteps.{cores_noted}
use Rattle.machine_core.proofs.station.Station.settle.Given as goal

abbrev pub invariant-loop : goal.invariant-loop
invariant-loop g l = l.fabric ≡ cores_noted l.counter l.fn.self.tile l.fn.fabric
