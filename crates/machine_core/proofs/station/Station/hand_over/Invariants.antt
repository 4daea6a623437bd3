use Rattle.std.proofs.Common.{◌≡◌, ◌++◌}
use Rattle.std.specs.Prelude.{take}
use Rattle.machine_core.proofs.station.Station.hand_over.Given as goal

abbrev pub invariant-loop-access : goal.invariant-loop-access
invariant-loop-access g l = l.fabric ≡ record l.fn.fabric { accesses = l.fn.fabric.accesses ++ take l.access-index l.access-items }
