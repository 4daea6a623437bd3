use Rattle.std.proofs.Common.{◌≡◌, ◌+◌, ◌-◌, ◌≤◌, ◌++◌, length}
use Rattle.std.specs.Prelude.{filter}
use Rattle.std.specs.List.{filter_map}
use Rattle.std.specs.Vec.{vec_capacity}
use Rattle.mesh_gen.specs.TileSet.{has_tile}
use Rattle.order_tracker.specs.Order.{upwards}
use Rattle.net_iface.specs.Unordered.{lowest_of, LoseLowest}
use Rattle.net_iface.proofs.requests.order_by_priority.Given as goal

abbrev pub invariant-loop-t : goal.invariant-loop-t
invariant-loop-t l = record {
  ordered : l.ordered.items ++ filter_map (lowest_of l.lists.items) (filter (has_tile l.set) (upwards l.t (l.to - l.t)))
      ≡ l.initial.ordered.items ++ filter_map (lowest_of l.initial.lists.items) (filter (has_tile l.set) (upwards l.from (l.to - l.from)));
  lists : LoseLowest l.from l.t l.set l.initial.lists.items l.lists.items;
  room : length l.ordered.items + (l.to - l.t) ≤ vec_capacity l.ordered;
  capacity : vec_capacity l.ordered ≡ vec_capacity l.initial.ordered;
}
