-- A tick, a post and a take each lower the measure of the ordered network.
use Rattle.std.proofs.Common.{◌≡◌, ℕ, zero, suc, ◌+◌, ◌-◌, ◌*◌, ◌%◌, ◌^◌, ◌<◌, ◌≤◌, Bool, true, false, cond, bit_or, List, [], ◌∷◌, ◌++◌, Some, None, length, set, refl, sym, ◌∙◌, ap, subst, arith, append-nil, length-append, eqb-true, ltb-true, lt-ltb}
use Rattle.std.specs.Prelude.{slice_get, count_by, nat_lt, ◌==◌, ◌||◌}
use Rattle.std.proofs.Math.Nat.{mul-add, add-mul, mul_comm, mul-le-mul_left}
use Rattle.std.proofs.lemmas.Option.{slice_get_within}
use Rattle.std.proofs.lemmas.List.Sums.{sum_by-cons, sum_by-append, length-filter}
use Rattle.mesh_gen.specs.declared.request.Request.{Request}
use Rattle.mesh_gen.specs.TileSet.{has_tile}
use Rattle.mesh_gen.proofs.TileSets.{has_tile-or, has_tile-one, has_tile-none}
use Rattle.order_tracker.specs.Order.{upwards, round_from, expansion}
use Rattle.mesh_gen.specs.Partial.{◌>>=◌}
use Rattle.chip_model.specs.Chip.{Chip, tile_count}
use Rattle.chip_model.specs.Windows.{Windows, after_post, window_closed, is_last_tick, after_tick, after_take}
use Rattle.chip_model.specs.OrderedNetwork.{OrderedNetwork, Interface, with_interface, after_request_post, lowest_unordered, ordered_by_window, after_network_tick, after_vector_take}
use Rattle.chip_model.specs.NetworkShape.{WindowsFit}
use Rattle.net_iface.proofs.Binds.{bind_eq, made}
use Rattle.window_core.specs.WindowSteps.{TickPasses}
use Rattle.window_core.proofs.Holds.{post_is, tick_is}
use Rattle.chip_laws.proofs.SupplyCounts.{sum_by-set, upwards-append}
use Rattle.bound_laws.specs.Measure.{per_answer, per_posted, per_made, posted_count, window_to_go, vectors_to_go, deliveries_to_go, windows_to_go, requests_to_go}
use Rattle.bound_laws.proofs.NetworkChanges.{Lowers, TickLowers}
use Rattle.flow_laws.proofs.ListSums.{count_none}
use Rattle.bound_laws.proofs.Sums.{counts_one, counts_none, cond_le, sum_rises, product_falls, length-filter_map-le}

-- ---- a take
taken_lowers : (chip : Chip) (w new : Windows) (t : ℕ) → after_take w t ≡ Some new → windows_to_go chip new < windows_to_go chip w
unfolding after_take
taken_lowers chip w new t =
    bind_eq (λ (new : Windows). windows_to_go chip new < windows_to_go chip w) (slice_get w.taken t) _
    (λ count there last done. bind_eq (λ (new : Windows). windows_to_go chip new < windows_to_go chip w) (slice_get w.closed count) _
    (λ vector is_there n is. made (λ (new : Windows). windows_to_go chip new < windows_to_go chip w) (record w { taken = set w.taken t (count + 1) }) n
    (let less = slice_get_within w.closed count vector is_there in
    let change = sum_by-set (λ count. length w.closed - count) w.taken t count (count + 1) there in omega arith) is) last done)
    new

pub take_lowers : (chip : Chip) (net new : OrderedNetwork) (t : ℕ) → after_vector_take net t ≡ Some new → Lowers chip net new
unfolding after_vector_take requests_to_go
take_lowers chip net new t =
    bind_eq (Lowers chip net) (after_take net.windows t) _
    (λ windows takes n is. made (Lowers chip net) (record net { windows = windows }) n
    (let less = taken_lowers chip net.windows windows t takes in record { ordered = refl; lowers = omega arith }) is)
    new

-- ---- how many tiles posted
pub posted-none : (chip : Chip) (w : Windows) → w.posts ≡ 0 → posted_count chip w ≡ 0
posted-none chip w none = count_none (has_tile w.posts) (upwards 0 (tile_count chip)) (λ k t there. rw none (has_tile-none t))

-- one more tile is counted at most once
above : (t first count : ℕ) → t < first → count_by (λ s. t == s) (upwards first count) ≡ 0
above t first zero less = refl
above t first (suc count) less =
    let rest = above t (first + 1) count (omega arith) in
    let other : (t == first) ≡ false = grind arith in
    sum_by-cons (λ s. cond (t == s) 1 0) first (upwards (first + 1) count) ∙ rw other (omega arith)

once : (t first count : ℕ) → count_by (λ s. t == s) (upwards first count) ≤ 1
once t first zero = omega arith
once t first (suc count) = by (t == first) refl (once t (first + 1) count)
  where
    by : (here : Bool) → (t == first) ≡ here → count_by (λ s. t == s) (upwards (first + 1) count) ≤ 1 → count_by (λ s. t == s) (upwards first (suc count)) ≤ 1
    by true is rest =
        let none = above t (first + 1) count (omega (arith, eqb-true t first is)) in
        let here = counts_one (t == first) is in
        omega (arith, sum_by-cons (λ s. cond (t == s) 1 0) first (upwards (first + 1) count))
    by false is rest =
        let other = counts_none (t == first) is in
        omega (arith, sum_by-cons (λ s. cond (t == s) 1 0) first (upwards (first + 1) count))

either : (a b : Bool) → cond (a || b) 1 0 ≤ cond b 1 0 + cond a 1 0
either true true = omega arith
either true false = omega arith
either false true = omega arith
either false false = omega arith

one_more : (posts t : ℕ) (xs : List ℕ) → count_by (has_tile (bit_or (2 ^ t) posts)) xs ≤ count_by (has_tile posts) xs + count_by (λ s. t == s) xs
one_more posts t [] = omega arith
one_more posts t (x ∷ xs) =
    let rest = one_more posts t xs in
    let first : cond (has_tile (bit_or (2 ^ t) posts) x) 1 0 ≤ cond (has_tile posts x) 1 0 + cond (t == x) 1 0 =
    rw (has_tile-or (2 ^ t) posts x, has_tile-one t x) (either (t == x) (has_tile posts x)) in
    omega (
      arith,
      sum_by-cons (λ s. cond (has_tile (bit_or (2 ^ t) posts) s) 1 0) x xs,
      sum_by-cons (λ s. cond (has_tile posts s) 1 0) x xs,
      sum_by-cons (λ s. cond (t == s) 1 0) x xs,
    )

posted-more : (chip : Chip) (w : Windows) (t : ℕ) → posted_count chip (record w { posts = bit_or (2 ^ t) w.posts }) ≤ posted_count chip w + 1
posted-more chip w t = let more = one_more w.posts t (upwards 0 (tile_count chip)) in let single = once t 0 (tile_count chip) in omega arith

-- ---- a post
-- the windows' part grows by less than what is paid for a request that was made
posted_grows : (chip : Chip) (w new : Windows) (t : ℕ) → after_post w t ≡ Some new → windows_to_go chip new < windows_to_go chip w + per_made chip
posted_grows chip w new t posts =
    let post = post_is t w new posts in
    subst (λ (new : Windows). windows_to_go chip new < windows_to_go chip w + per_made chip) (sym post.is) grows
  where
    grows : windows_to_go chip (record w { posts = bit_or (2 ^ t) w.posts }) < windows_to_go chip w + per_made chip
    grows =
        let few = mul-le-mul_left (per_posted chip) (posted-more chip w t) in
        let window = cond_le (nat_lt 0 (bit_or (2 ^ t) w.posts)) (chip.window - w.phase + tile_count chip) in
        omega (arith, mul-add (per_posted chip) (posted_count chip w) 1)

pub post_lowers : (chip : Chip) (net new : OrderedNetwork) (t : ℕ) → after_request_post net t ≡ Some new → Lowers chip net new
unfolding after_request_post requests_to_go
post_lowers chip net new t =
    bind_eq (Lowers chip net) (slice_get net.interfaces t) _
    (λ interface there n last. guarded interface there (nat_lt interface.posted (length interface.made)) refl n last)
    new
  where
    after : Interface → Windows → OrderedNetwork
    after interface windows = with_interface (record net { windows = windows }) t (record interface { posted = interface.posted + 1 })

    lowers : (interface : Interface) (windows : Windows) → slice_get net.interfaces t ≡ Some interface → interface.posted < length interface.made
        → after_post net.windows t ≡ Some windows → Lowers chip net (after interface windows)
    lowers interface windows there less posts =
        let grows = posted_grows chip net.windows windows t posts in
        let new = record interface { posted = interface.posted + 1 } in
        let prices = sum_by-set (λ (interface : Interface). per_made chip * (length interface.made - interface.posted)) net.interfaces t interface new there in
        let price = product_falls (per_made chip) (length interface.made) interface.posted less in
        let deliveries = sum_by-set (λ (interface : Interface). length net.ordered - interface.delivered) net.interfaces t interface new there in
        record { ordered = refl; lowers = omega arith }

    guarded : (interface : Interface) → slice_get net.interfaces t ≡ Some interface → (more : Bool) → nat_lt interface.posted (length interface.made) ≡ more
        → (n : OrderedNetwork) → cond more (after_post net.windows t >>= (λ windows. Some (after interface windows))) None ≡ Some n → Lowers chip net n
    guarded interface there true is n last =
        bind_eq (Lowers chip net) (after_post net.windows t) _
        (λ windows posts m done. made (Lowers chip net) (after interface windows) m (lowers interface windows there (ltb-true _ _ is) posts) done) n last
    guarded interface there false is n last = cc

-- ---- how many requests a window orders
pub count-split : (p : ℕ → Bool) (b c : ℕ) → count_by p (upwards 0 (b + c)) ≡ count_by p (upwards 0 b) + count_by p (upwards b c)
count-split p b c =
    let from : 0 + b ≡ b = omega arith in
    let split : upwards 0 (b + c) ≡ upwards 0 b ++ upwards b c = upwards-append 0 b c ∙ ap (λ (first : ℕ). upwards 0 b ++ upwards first c) from in
    ap (count_by p) split ∙ sum_by-append (λ x. cond (p x) 1 0) (upwards 0 b) (upwards b c)

count-round : (p : ℕ → Bool) (n first : ℕ) → first ≤ n → count_by p (round_from n first) ≡ count_by p (upwards 0 n)
count-round p n first within =
    let whole : first + (n - first) ≡ n = omega arith in
    let all = sym (ap (λ (n : ℕ). count_by p (upwards 0 n)) whole) ∙ count-split p first (n - first) in
    omega (arith, sum_by-append (λ x. cond (p x) 1 0) (upwards first (n - first)) (upwards 0 first))

few_ordered : (chip : Chip) (net : OrderedNetwork) → 0 < tile_count chip → length (ordered_by_window chip net) ≤ posted_count chip net.windows
few_ordered chip net some =
    let n = tile_count chip in
    let k = length net.windows.closed in
    let few = length-filter_map-le (lowest_unordered net) (expansion n k net.windows.posts) in
    let all = length-filter (has_tile net.windows.posts) (round_from n (k % n)) in
    let same = count-round (has_tile net.windows.posts) n (k % n) (omega arith) in
    omega arith

-- ---- a tick
merge_lowers : (chip : Chip) (w : Windows) → w.phase < chip.window → 0 < w.posts
    → windows_to_go chip (record w { phase = w.phase + 1 }) < windows_to_go chip w
merge_lowers chip w phase some = rw (lt-ltb 0 w.posts some) (omega arith)

closed_none : (chip : Chip) (w : Windows) → length w.taken ≡ tile_count chip → windows_to_go chip (window_closed w) ≤ vectors_to_go w + tile_count chip
closed_none chip w tiles =
    let none = posted-none chip (window_closed w) refl in
    let free = ap (λ (count : ℕ). per_posted chip * count) none in
    let vectors =
    sum_rises (λ count. length (w.closed ++ w.posts ∷ []) - count) (λ count. length w.closed - count) 1 w.taken
    (λ count. omega (arith, length-append w.closed (w.posts ∷ []))) in
    omega arith

open_window : (chip : Chip) (w : Windows) → 0 < w.posts → is_last_tick chip.window w ≡ true → window_to_go chip w ≡ 1 + tile_count chip
open_window chip w some last = rw (lt-ltb 0 w.posts some) (let ends = eqb-true (w.phase + 1) chip.window last in omega arith)

deliveries_grow : (net : OrderedNetwork) (windows : Windows) (more : List Request)
    → deliveries_to_go (record net { windows = windows; ordered = net.ordered ++ more }) ≤ deliveries_to_go net + length more * length net.interfaces
deliveries_grow net windows more =
    sum_rises (λ (interface : Interface). length (net.ordered ++ more) - interface.delivered)
    (λ (interface : Interface). length net.ordered - interface.delivered) (length more) net.interfaces
    (λ interface. omega (arith, length-append net.ordered more))

close_lowers : (chip : Chip) (net : OrderedNetwork) → 0 < tile_count chip → length net.windows.taken ≡ tile_count chip
    → length net.interfaces ≡ tile_count chip → 0 < net.windows.posts → is_last_tick chip.window net.windows ≡ true
    → TickLowers chip net (record net { windows = window_closed net.windows; ordered = net.ordered ++ ordered_by_window chip net })
unfolding requests_to_go
close_lowers chip net tiles taken interfaces some last = record { more = more; ordered = refl; lowers = lowers }
  where
    more : List Request
    more = ordered_by_window chip net

    lowers : requests_to_go chip (record net { windows = window_closed net.windows; ordered = net.ordered ++ more }) + per_answer chip * length more
        < requests_to_go chip net
    lowers =
        let w = net.windows in
        let few = few_ordered chip net tiles in
        let none = closed_none chip w taken in
        let window = open_window chip w some last in
        let delivered = deliveries_grow net (window_closed w) more in
        let paid = mul-le-mul_left (per_posted chip) few in
        let parts = add-mul (tile_count chip) (per_answer chip) (length more) in
        let turned = mul_comm (tile_count chip) (length more) in
        let each = ap (λ (n : ℕ). length more * n) interfaces in
        omega arith

pub tick_lowers : (chip : Chip) (net new : OrderedNetwork) → 0 < tile_count chip → WindowsFit chip net.windows → length net.interfaces ≡ tile_count chip
    → after_network_tick chip net ≡ Some new → TickLowers chip net new
unfolding after_network_tick requests_to_go
tick_lowers chip net new tiles fits interfaces =
    bind_eq (TickLowers chip net) (after_tick chip.window net.windows) _
    (λ windows ticks n is. made (TickLowers chip net) (after windows (is_last_tick chip.window net.windows)) n
    (by windows (tick_is chip.window net.windows windows ticks) (is_last_tick chip.window net.windows) refl) is)
    new
  where
    after : Windows → Bool → OrderedNetwork
    after windows last = record net { windows = windows; ordered = cond last (net.ordered ++ ordered_by_window chip net) net.ordered }

    by : (windows : Windows) → TickPasses chip.window net.windows windows → (last : Bool) → is_last_tick chip.window net.windows ≡ last
        → TickLowers chip net (after windows last)
    by windows tick true is =
        let closed : windows ≡ window_closed net.windows = rw is at tick.is in
        subst (λ (windows : Windows). TickLowers chip net (after windows true)) (sym closed) (close_lowers chip net tiles fits.tiles interfaces tick.posted is)
    by windows tick false is =
        let merged : windows ≡ record net.windows { phase = net.windows.phase + 1 } = rw is at tick.is in
        subst (λ (windows : Windows). TickLowers chip net (after windows false)) (sym merged)
        (let less = merge_lowers chip net.windows fits.phase tick.posted in record { more = []; ordered = sym (append-nil net.ordered); lowers = omega arith })
