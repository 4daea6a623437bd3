use Rattle.std.proofs.Common.{◌≡◌, ◌+◌, ◌-◌, ◌≤◌}
use Rattle.round_laws.specs.Turns.{core_steps, most_alone}
use Rattle.tile_pool.specs.Workers.{CoresLead}
use Rattle.tile_pool.proofs.worker.run_alone.Given as goal

-- what was done, and that together with what is left it is all that the tile does
abbrev pub invariant-loop : goal.invariant-loop
invariant-loop g l = record {
  tile : l.station.tile ≡ l.initial.station.tile;
  lead : CoresLead g.U.Unit.behaviour l.initial.station.unit l.station;
  cores : l.station.cores ≡ l.counter;
  left : l.counter + core_steps g.U.Unit.behaviour (16 - l.counter) l.station.unit
      ≡ core_steps g.U.Unit.behaviour most_alone l.initial.station.unit;
  steps : l.station.unit.core.steps ≤ l.initial.station.unit.core.steps + l.counter;
  within : l.counter ≤ 16;
}
