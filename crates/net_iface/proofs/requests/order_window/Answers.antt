use Rattle.std.proofs.Common.{◌≡◌, ◌-◌, ◌%◌, ◌≤◌, arith, ap, length, length-append}
use Rattle.mesh_gen.specs.TileSet.{has_tile}
use Rattle.order_tracker.specs.Order.{upwards}
use Rattle.net_iface.specs.Unordered.{lowest_of}
use Rattle.net_iface.proofs.Priorities.{ordered_in, all_ordered_le, ordered_in_round}
use Rattle.net_iface.proofs.requests.order_window.Goals as goal

pub order_by_priority-requires-2-clause-room : goal.order_by_priority-requires-2-clause-room
order_by_priority-requires-2-clause-room c =
    let first = c.args.number % c.from.result in
    let next = lowest_of c.args.lists.now.items in
    let few = all_ordered_le next (has_tile c.args.set) first (c.args.tiles - first) in
    let more = ap length c.order_by_priority.ensures.ordered in
    let count = length-append c.args.ordered.now.items (ordered_in next (has_tile c.args.set) (upwards first (c.args.tiles - first))) in
    let below : first - 0 ≡ first = omega arith in
    let inside : first ≤ c.args.tiles = omega (arith, c.from.ensures, c.requires.tiles.0) in
    omega (arith, few, more, count, inside, c.requires.room, c.order_by_priority.ensures.room)

pub returns-clause-ordered : goal.returns-clause-ordered
returns-clause-ordered c =
    let first = rw c.from.ensures at c.order_by_priority.ensures in
    let second = rw c.from.ensures at c.order_by_priority-2.ensures.ordered in
    ordered_in_round c.args.tiles c.args.number c.args.set c.args.lists.now.items c.order_by_priority.new.lists.items c.args.ordered.now.items c.order_by_priority.new.ordered.items c.order_by_priority-2.new.ordered.items
    c.requires.tiles.0 first.ordered second first.lists
