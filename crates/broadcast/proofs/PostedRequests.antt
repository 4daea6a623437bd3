-- The tiles of a window post, each for the request that it has made.
use Rattle.std.proofs.Common.{◌≡◌, ◌≢◌, ℕ, zero, suc, ◌+◌, ◌<◌, ◌≤◌, ◌^◌, Bool, true, false, cond, List, ◌∷◌, length, Some, refl, sym, ◌∙◌, ap, subst, arith, inl, inr}
use Rattle.std.specs.Prelude.{◌&&◌, ◌||◌, ◌==◌, not, nat_lt, slice_get, filter, map, bit_or, is_some}
use Rattle.std.proofs.lemmas.Bool.{cases_eq, cases_lt, lt-ltb, eq-eqb, ne_eqb}
use Rattle.std.proofs.lemmas.Bool.Decides.{nat_tests}
use Rattle.mesh_gen.specs.Ports.{count_if}
use Rattle.mesh_gen.specs.TileSet.{has_tile}
use Rattle.mesh_gen.proofs.TileSets.{has_tile-or, has_tile-one}
use Rattle.order_tracker.specs.Order.{upwards}
use Rattle.report_text.specs.declared.event.Event.TheVariants.{Post}
use Rattle.chip_model.specs.Chip.{Chip, tile_count}
use Rattle.chip_model.specs.Windows.{Windows, after_post}
use Rattle.chip_model.specs.OrderedNetwork.{OrderedNetwork, Interface, with_interface, after_request_post}
use Rattle.chip_model.specs.NetworkFits.{NetworkFits}
use Rattle.chip_model.specs.Delivery.{network_step, network_tried, network_swept}
use Rattle.window_core.proofs.Steps.{is_some-after_post-first, after_post-some}
use Rattle.net_iface.proofs.Places.{HasItem, item_at, same_some, slice_get-set_same, slice_get-set_other}
use Rattle.net_iface.proofs.Steps.{after_request_post-some}
use Rattle.broadcast.proofs.BroadcastStages.{NetworkLaws, is_below, is_from, HaveLeft, HavePosted, tried_some}
use Rattle.broadcast.proofs.MadeRequests.{below_there, below_without}

from_here : (w k : ℕ) → has_tile w k ≡ true → count_if (is_from w k k) ≡ count_if (is_from w (k + 1) k) + 1
from_here w k inside =
    let less : nat_lt k (k + 1) ≡ true = grind (arith, nat_tests) in
    let not_less : nat_lt k k ≡ false = grind (arith, nat_tests) in
    rw (inside, less, not_less) refl

from_there : (w k t : ℕ) → t ≢ k → is_from w (k + 1) t ≡ is_from w k t
from_there w k t other = ap (λ (b : Bool). has_tile w t && not b) (elim (cases_lt t k) [
  | inl less ↦ grind (arith, nat_tests, less)
  | inr more ↦ grind (arith, nat_tests, more, other)
])

from_without : (w k t : ℕ) → has_tile w k ≡ false → is_from w (k + 1) t ≡ is_from w k t
from_without w k t outside = elim (cases_eq t k) [
  | inl same ↦ ap (λ (b : Bool). b && not (nat_lt t (k + 1))) (ap (has_tile w) same ∙ outside) ∙ sym (ap (λ (b : Bool). b && not (nat_lt t k)) (ap (has_tile w) same ∙ outside))
  | inr other ↦ from_there w k t other
]

module _ (laws : NetworkLaws) (chip : Chip) (closed : List ℕ) (w : ℕ) where
  -- the tile of this number posts
  one_posts : (k : ℕ) (net : OrderedNetwork) → k < tile_count chip → has_tile w k ≡ true → HavePosted chip closed w k net → HavePosted chip closed w (k + 1) (network_tried chip net (Post k))
  unfolding network_step
  one_posts k net inside here before = tried_some (HavePosted chip closed w (k + 1)) chip net new (Post k) posted (record {
    rests = record { holds = laws.posted chip net new k before.rests.holds posted; phase = before.rests.phase; closed_is = before.rests.closed_is };
    posts = posts_of;
    left = left_of;
  })
    where
      fits : NetworkFits chip net
      fits = before.rests.holds.fits

      interface : HasItem net.interfaces k
      interface = item_at net.interfaces k (omega (arith, fits.interfaces, inside))

      not_yet : is_below w k k ≡ false
      not_yet = let not_less : nat_lt k k ≡ false = grind (arith, nat_tests) in rw (here, not_less) refl

      windows : Windows
      windows = record net.windows { posts = bit_or (2 ^ k) net.windows.posts }

      may : is_some (after_post net.windows k) ≡ true
      may =
          let some = lt-ltb k (length net.windows.taken) (omega (arith, fits.windows.tiles, inside)) in
          let free = before.posts k ∙ not_yet in
          is_some-after_post-first net.windows k before.rests.phase ∙ rw (some, free) refl

      less : interface.item.posted < length interface.item.made
      less = omega (arith, before.left k interface.item interface.there, from_here w k here)

      new : OrderedNetwork
      new = with_interface (record net { windows = windows }) k (record interface.item { posted = interface.item.posted + 1 })

      posted : after_request_post net k ≡ Some new
      posted = after_request_post-some net k interface.item windows interface.there (lt-ltb interface.item.posted (length interface.item.made) less) (after_post-some net.windows k may)

      posts_of : (t : ℕ) → has_tile (bit_or (2 ^ k) net.windows.posts) t ≡ is_below w (k + 1) t
      posts_of t = has_tile-or (2 ^ k) net.windows.posts t ∙ ap (λ (b : Bool). b || has_tile net.windows.posts t) (has_tile-one k t) ∙ elim (cases_eq t k) [
        | inl same ↦ (
            let one : (k == t) ≡ true = eq-eqb k t (sym same) in
            let there : has_tile w t ≡ true = ap (has_tile w) same ∙ here in
            let less_next : nat_lt t (k + 1) ≡ true = grind (arith, nat_tests, same) in
            rw (one, there, less_next) refl)
        | inr other ↦ (
            let none : (k == t) ≡ false = ne_eqb k t (λ same. other (sym same)) in
            ap (λ (b : Bool). b || has_tile net.windows.posts t) none ∙ before.posts t ∙ sym (below_there w k t other))
      ]

      left_of : HaveLeft (λ t. count_if (is_from w (k + 1) t)) new
      left_of t found there = elim (cases_eq t k) [
        | inl same ↦ (
            let is : record interface.item { posted = interface.item.posted + 1 } ≡ found =
            same_some _ found (sym (slice_get-set_same net.interfaces k (record interface.item { posted = interface.item.posted + 1 }) (omega (arith, fits.interfaces, inside))) ∙ ap (slice_get new.interfaces) (sym same) ∙ there) in
            let long : length found.made ≡ length interface.item.made = ap (λ (i : Interface). length i.made) (sym is) in
            let more : found.posted ≡ interface.item.posted + 1 = ap (λ (i : Interface). i.posted) (sym is) in
            let now : count_if (is_from w (k + 1) t) ≡ count_if (is_from w (k + 1) k) = ap (λ (n : ℕ). count_if (is_from w (k + 1) n)) same in
            omega (arith, long, more, now, from_here w k here, before.left k interface.item interface.there))
        | inr other ↦ before.left t found (sym (slice_get-set_other net.interfaces k t _ other) ∙ there) ∙ ap (λ (b : Bool). found.posted + count_if b) (sym (from_there w k t other))
      ]

  none_posts : (k : ℕ) (net : OrderedNetwork) → has_tile w k ≡ false → HavePosted chip closed w k net → HavePosted chip closed w (k + 1) net
  none_posts k net outside before = record {
    rests = before.rests;
    posts = λ t. before.posts t ∙ sym (below_without w k t outside);
    left = λ t interface there. before.left t interface there ∙ ap (λ (b : Bool). interface.posted + count_if b) (sym (from_without w k t outside));
  }

  -- the tiles of the set among so many numbers do
  pub all_post : (count k : ℕ) (net : OrderedNetwork) → k + count ≤ tile_count chip → HavePosted chip closed w k net
      → HavePosted chip closed w (k + count) (network_swept chip net (map Post (filter (has_tile w) (upwards k count))))
  all_post zero k net within before = subst (λ (n : ℕ). HavePosted chip closed w n net) (omega arith) before
  all_post (suc count) k net within before = by (λ new posted. subst (λ (n : ℕ). HavePosted chip closed w n (network_swept chip new (map Post (filter (has_tile w) (upwards (k + 1) count))))) (omega arith) (all_post count (k + 1) new (omega (arith, within)) posted)) (has_tile w k) refl
    where
      by : ((new : OrderedNetwork) → HavePosted chip closed w (k + 1) new → HavePosted chip closed w (k + suc count) (network_swept chip new (map Post (filter (has_tile w) (upwards (k + 1) count)))))
          → (here : Bool) → has_tile w k ≡ here → HavePosted chip closed w (k + suc count) (network_swept chip net (map Post (cond {A = List ℕ} here (k ∷ filter (has_tile w) (upwards (k + 1) count)) (filter (has_tile w) (upwards (k + 1) count)))))
      by rest true here = rest (network_tried chip net (Post k)) (one_posts k net (omega (arith, within)) here before)
      by rest false here = rest net (none_posts k net here before)
