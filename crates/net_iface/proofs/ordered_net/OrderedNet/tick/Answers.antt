use Rattle.std.proofs.Common.{length-append, ◌≡◌, ◌++◌, length, Some, ap, ◌∙◌, sym, arith}
use Rattle.std.specs.List.{filter_map}
use Rattle.order_tracker.specs.Order.{expansion}
use Rattle.chip_model.specs.Chip.{tile_count}
use Rattle.chip_model.specs.Windows.{Windows, window_closed}
use Rattle.chip_model.specs.OrderedNetwork.{after_network_tick}
use Rattle.net_iface.specs.Unordered.{lowest_of, LoseLowest}
use Rattle.net_iface.specs.Parts.{network_of}
use Rattle.net_iface.proofs.InsideParts.{parts}
use Rattle.net_iface.proofs.Kept.{AreKept-merge, AreKept-close}
use Rattle.net_iface.proofs.Steps.{merge_is, close_is, IsLast, last_is, not_last, after_network_tick-last, after_network_tick-other, after_network_tick-none}
use Rattle.net_iface.proofs.Views.{windows_seen, closing_seen}
use Rattle.net_iface.proofs.Priorities.{window_le}
use Rattle.net_iface.proofs.ordered_net.OrderedNet.tick.Goals as goal

is_last : (c : goal.After-order_window) → IsLast (parts c.self.inside).windows.ticks (parts c.self.inside).windows.windows c.in-Ok-Some.vector
is_last c = let p = parts c.self.inside in last_is p.windows.ticks p.windows.windows c.in-Ok-Some.vector (sym c.in-Ok-Some.ensures.vector ∙ c.in-Ok-Some.field-0-is)

closes : (c : goal.After-order_window) → c.tick.new.self.windows ≡ window_closed (parts c.self.inside).windows.windows
closes c = let p = parts c.self.inside in sym (close_is p.windows.ticks p.windows.windows c.tick.new.self.windows c.in-Ok-Some.ensures.ok (is_last c).last)

loses : (c : goal.After-order_window) → LoseLowest 0 (tile_count (parts c.self.inside).chip) (parts c.self.inside).windows.windows.posts (parts c.self.inside).unordered c.order_window.new.lists.items
loses c = rw (c.tiles-tiles.ensures.tiles, sym (is_last c).is) at c.order_window.ensures.lists

orders : (c : goal.After-order_window) → c.order_window.new.ordered.items
    ≡ (parts c.self.inside).ordered ++ filter_map (lowest_of (parts c.self.inside).unordered) (expansion (tile_count (parts c.self.inside).chip) (length (parts c.self.inside).windows.windows.closed) (parts c.self.inside).windows.windows.posts)
orders c =
    let count = rw (← c.self.view_is) at c.closed_count-number.ensures.count in
    rw (c.tiles-tiles.ensures.tiles, count, sym (is_last c).is) at c.order_window.ensures.ordered

last_steps : (c : goal.After-order_window) → after_network_tick (parts c.self.inside).chip (network_of (parts c.self.inside))
    ≡ Some (network_of (record (parts c.self.inside) { windows = c.tick.new.self; ordered = c.order_window.new.ordered.items; unordered = c.order_window.new.lists.items }))
last_steps c =
    let p = parts c.self.inside in
    let ticks = rw c.self.invariant.0.sizes.ticks at c.in-Ok-Some.ensures.ok in
    let is = is_last c in
    let last = rw c.self.invariant.0.sizes.ticks at is.last in
    after_network_tick-last p.chip (network_of p) c.tick.new.self.windows ticks last
    ∙ ap Some (closing_seen p c.tick.new.self c.order_window.new.ordered.items c.order_window.new.lists.items (closes c) (loses c) (orders c) c.self.invariant.0)

other_steps : (c : goal.In-Ok-None) → after_network_tick (parts c.self.inside).chip (network_of (parts c.self.inside)) ≡ Some (network_of (record (parts c.self.inside) { windows = c.tick.new.self }))
other_steps c =
    let p = parts c.self.inside in
    let other = not_last p.windows.ticks p.windows.windows (sym c.in-Ok-None.ensures.vector ∙ c.in-Ok-None.field-0-is) in
    let ticks = rw c.self.invariant.0.sizes.ticks at c.in-Ok-None.ensures.ok in
    let other_here = rw c.self.invariant.0.sizes.ticks at other in
    let merged = merge_is p.windows.ticks p.windows.windows c.tick.new.self.windows c.in-Ok-None.ensures.ok other in
    after_network_tick-other p.chip (network_of p) c.tick.new.self.windows ticks other_here ∙ ap Some (windows_seen p c.tick.new.self (sym (ap (λ (w : Windows). w.posts) merged)))

pub invariant_of-self : goal.invariant_of-self
invariant_of-self c =
    let p = parts c.self.inside in
    let room = rw (← c.self.view_is) at c.requires in
    let kept_room = c.order_window.ensures.room in
    let roomy = c.self.invariant.1 in
    let holds = c.network_laws.ensures.ticked p.chip (network_of p) _ c.self.invariant.0.holds (last_steps c) in
    (AreKept-close p c.tick.new.self c.order_window.new.ordered.items c.order_window.new.lists.items c.in-Ok-Some.ensures.sizes (closes c) room (loses c) (orders c) holds c.self.invariant.0, omega (arith, kept_room, roomy))

pub invariant_of-self-in-Ok-None : goal.invariant_of-self-in-Ok-None
invariant_of-self-in-Ok-None c =
    let p = parts c.self.inside in
    let other = not_last p.windows.ticks p.windows.windows (sym c.in-Ok-None.ensures.vector ∙ c.in-Ok-None.field-0-is) in
    let holds = c.network_laws.ensures.ticked p.chip (network_of p) _ c.self.invariant.0.holds (other_steps c) in
    (AreKept-merge p c.tick.new.self c.in-Ok-None.ensures.sizes c.in-Ok-None.ensures.ok other holds c.self.invariant.0, c.self.invariant.1)

pub returns-in-Ok-Some-clause-ok : goal.returns-in-Ok-Some-clause-ok
returns-in-Ok-Some-clause-ok c = rw (← c.self.view_is) (last_steps c)

pub returns-in-Ok-None-clause-ok : goal.returns-in-Ok-None-clause-ok
returns-in-Ok-None-clause-ok c = rw (← c.self.view_is) (other_steps c)

pub returns-in-Err-clause-err : goal.returns-in-Err-clause-err
returns-in-Err-clause-err c =
    let p = parts c.self.inside in
    rw (← c.self.view_is) (after_network_tick-none p.chip (network_of p) (rw c.self.invariant.0.sizes.ticks at c.in-Err.ensures.err))

pub returns-in-Ok-Some-clause-few : goal.returns-in-Ok-Some-clause-few
returns-in-Ok-Some-clause-few c =
    let p = parts c.self.inside in
    let grown = ap length (orders c) in
    let whole = length-append p.ordered (filter_map (lowest_of p.unordered) (expansion (tile_count p.chip) (length p.windows.windows.closed) p.windows.windows.posts)) in
    let few = window_le (lowest_of p.unordered) (tile_count p.chip) (length p.windows.windows.closed) p.windows.windows.posts c.self.invariant.0.sizes.some in
    rw (← c.self.view_is) (omega arith)
