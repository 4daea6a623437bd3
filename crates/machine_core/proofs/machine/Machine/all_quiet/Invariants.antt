use Rattle.std.proofs.Common.{◌≡◌}
use Rattle.std.specs.Prelude.{take}
use Rattle.std.specs.List.{list_all}
use Rattle.machine_core.specs.Stations.{is_quiet, units_of}
use Rattle.machine_core.proofs.machine.Machine.all_quiet.Given as goal

abbrev pub invariant-loop-station : goal.invariant-loop-station
invariant-loop-station g l = l.all ≡ list_all is_quiet (units_of (take l.station-index l.station-items))
