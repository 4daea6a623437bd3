use Rattle.std.proofs.Common.{◌≡◌, ◌*◌, ◌+◌, length}
use Rattle.std.specs.List.{All}
use Rattle.mesh_gen.specs.Grid.{tiles}
use Rattle.mesh_gen.specs.Mesh.{grid}
use Rattle.net_iface.specs.Trackers.{IsUnused}
use Rattle.net_iface.proofs.trackers.new_trackers.Given as goal

abbrev pub invariant-loop : goal.invariant-loop
invariant-loop l = record {
  count : length l.trackers.items ≡ l.counter;
  each : All (IsUnused (tiles (grid l.mesh)) (tiles (grid l.mesh) * (5 * l.mesh.vcs + 4))) l.trackers.items;
}
