-- What contracts see of the parts after a call.
use Rattle.std.proofs.Common.{◌≡◌, ℕ, ◌++◌, List, length, sym, ◌∙◌, ap}
use Rattle.std.specs.List.{filter_map}
use Rattle.circular_buffer.specs.Buffer.{Buffer}
use Rattle.mesh_gen.specs.declared.request.Request.{Request}
use Rattle.order_tracker.specs.Order.{expansion}
use Rattle.chip_model.specs.Chip.{tile_count}
use Rattle.chip_model.specs.Windows.{Windows, window_closed}
use Rattle.chip_model.specs.OrderedNetwork.{OrderedNetwork, Interface, ordered_by_window}
use Rattle.net_iface.specs.Unordered.{lowest_of, LoseLowest}
use Rattle.net_iface.proofs.Closings.{interfaces_same, ordered_by_window_is}
use Rattle.net_iface.proofs.Accounts.{accounted}
use Rattle.window_core.specs.Windows.{WindowsState}
use Rattle.net_iface.specs.Parts.{Parts, interfaces_of, network_of, AreKept}

abbrev as_network : Parts → WindowsState → List Request → List Interface → OrderedNetwork
as_network p windows ordered interfaces = record { copies = p.routers.copies; windows = windows.windows; ordered = ordered; interfaces = interfaces }

-- windows with as many posts
pub windows_seen : (p : Parts) (windows : WindowsState) → windows.windows.posts ≡ p.windows.windows.posts → record (network_of p) { windows = windows.windows } ≡ network_of (record p { windows = windows })
windows_seen p windows posts =
    ap (λ (set : ℕ). record { copies = p.routers.copies; windows = windows.windows; ordered = p.ordered; interfaces = interfaces_of (tile_count p.chip) set p.ordered p.unordered p.delivered }) (sym posts)

-- a window that has closed
pub closing_seen : (p : Parts) (windows : WindowsState) (ordered : List Request) (unordered : List (Buffer Request)) → windows.windows ≡ window_closed p.windows.windows → LoseLowest 0 (tile_count p.chip) p.windows.windows.posts p.unordered unordered
    → ordered ≡ p.ordered ++ filter_map (lowest_of p.unordered) (expansion (tile_count p.chip) (length p.windows.windows.closed) p.windows.windows.posts) → AreKept p
    → record (network_of p) { windows = windows.windows; ordered = p.ordered ++ ordered_by_window p.chip (network_of p) } ≡ network_of (record p { windows = windows; ordered = ordered; unordered = unordered })
closing_seen p windows ordered unordered closes lose is kept =
    let w = p.windows.windows in
    let n = tile_count p.chip in
    let more = filter_map (lowest_of p.unordered) (expansion n (length w.closed) w.posts) in
    let same = interfaces_same p.chip p.routers.copies w p.ordered p.unordered unordered p.delivered lose (accounted p kept) kept.sizes.some kept.sizes.unordered in
    let posts : 0 ≡ windows.windows.posts = sym (ap (λ (v : Windows). v.posts) closes) in
    ap (λ (rs : List Request). as_network p windows (p.ordered ++ rs) (interfaces_of n w.posts p.ordered p.unordered p.delivered)) (ordered_by_window_is p kept.sizes.some)
    ∙ ap (as_network p windows (p.ordered ++ more)) same
    ∙ ap (λ (rs : List Request). as_network p windows rs (interfaces_of n 0 rs unordered p.delivered)) (sym is)
    ∙ ap (λ (set : ℕ). as_network p windows ordered (interfaces_of n set ordered unordered p.delivered)) posts
