-- What is true of an ordered network at every moment follows from what is kept of its parts.
use Rattle.std.proofs.Common.{◌≡◌, ◌≢◌, ℕ, ◌+◌, ◌<◌, ◌≤◌, List, length, take, drop, ap, arith, length-append, length-drop}
use Rattle.std.specs.Prelude.{slice_index}
use Rattle.std.specs.List.{All, AllPairs}
use Rattle.std.proofs.lemmas.List.Elements.{All-drop, recursion_from_All, All-from_recursion}
use Rattle.order_tracker.specs.Order.{order_from, order}
use Rattle.order_tracker.specs.Tracker.{IsWindow}
use Rattle.chip_model.specs.Chip.{tile_count}
use Rattle.chip_model.specs.Copies.{Name}
use Rattle.chip_model.specs.OrderedNetwork.{Interface}
use Rattle.chip_model.specs.NetworkShape.{WindowsFit}
use Rattle.chip_model.specs.CopiesOwed.{owing, channel_count}
use Rattle.net_iface.specs.OrderedNet.{FewAreLeft}
use Rattle.net_iface.specs.Parts.{Parts, interface_of, network_of, AreKept}
use Rattle.net_iface.proofs.Accounts.{accounted}
use Rattle.net_iface.proofs.Interfaces.{tile_within, tile_is}
use Rattle.net_iface.proofs.Orders.{order_split, length-order_from-ge, each_window}
use Rattle.net_iface.proofs.Room.{length-ordered, undelivered_few}

-- windows after one that is not used up have an entry each, which the tile has not delivered
pub few_are_left : (p : Parts) → AreKept p → WindowsFit p.chip p.windows.windows
    → ((t : ℕ) (names : List Name) → AllPairs (λ a b. a ≢ b) names → All (λ name. 0 < owing p.chip.grid p.routers.copies name t) names → length names ≤ channel_count p.chip) → FewAreLeft p.chip (network_of p)
few_are_left p kept fit law = λ t taken used interface there counted more left.
    let f = interface_of p.windows.windows.posts p.ordered p.unordered p.delivered in
    let n = tile_count p.chip in
    let w = p.windows.windows in
    let inside = tile_within f n t interface there in
    let delivered : slice_index p.delivered t ≡ interface.delivered = ap (λ (i : Interface). i.delivered) (tile_is f n t interface there) in
    let low = fit.taken t taken counted in
    let few = undelivered_few p.chip p.routers.copies w p.ordered p.unordered p.delivered t (accounted p kept) kept.sizes.some inside (law t) in
    let split = ap length (order_split n (used + 1) w.closed (omega arith)) in
    let all = All-drop (IsWindow n) (used + 1) w.closed (All-from_recursion (IsWindow n) w.closed (each_window (IsWindow n) w.closed fit.closed)) in
    let behind = length-order_from-ge n (used + 1) (drop (used + 1) w.closed) kept.sizes.some (recursion_from_All (IsWindow n) (drop (used + 1) w.closed) all) in
    omega (
      arith,
      delivered,
      low,
      few,
      split,
      behind,
      left,
      more,
      length-append (order n (take (used + 1) w.closed)) (order_from n (used + 1) (drop (used + 1) w.closed)),
      length-drop (used + 1) w.closed,
      length-drop (slice_index p.delivered t) p.ordered,
      length-ordered n p.ordered w.closed (accounted p kept).in_order,
    )
