-- Window after window: at the end of a broadcast every post is ordered, and every tile has delivered the whole order.
use Rattle.std.proofs.Common.{◌≡◌, ℕ, zero, suc, ◌+◌, ◌<◌, ◌≤◌, Bool, true, false, List, [], ◌∷◌, ◌++◌, length, map, replicate, Some, refl, sym, ◌∙◌, ap, subst, arith, inl, inr}
use Rattle.std.specs.Prelude.{◌&&◌, nat_lt, slice_get, filter}
use Rattle.std.specs.List.{AllByRecursion}
use Rattle.std.proofs.lemmas.Bool.{cases_Bool, cases_lt}
use Rattle.std.proofs.lemmas.Bool.Decides.{nat_tests}
use Rattle.std.proofs.lemmas.List.{append-nil, take_all, append_assoc}
use Rattle.std.proofs.lemmas.List.Sums.{fold-append}
use Rattle.std.proofs.lemmas.Option.{slice_get_within}
use Rattle.mesh_gen.specs.Limits.{AreTiles}
use Rattle.mesh_gen.specs.Ports.{count_if}
use Rattle.mesh_gen.specs.Routes.{HasTiles}
use Rattle.mesh_gen.specs.TileSet.{has_tile, set_of, is_among}
use Rattle.mesh_gen.proofs.TileSets.{has_tile-none, has_tile-set_of, same_sets, set_of-positive, among_all}
use Rattle.order_tracker.specs.Order.{upwards, order}
use Rattle.report_text.specs.declared.event.Event.TheVariants.{Inject, Post}
use Rattle.doc_text.specs.Doc.{Doc}
use Rattle.chip_model.specs.Chip.{Chip, chip_of, tile_count}
use Rattle.chip_model.specs.OrderedNetwork.{OrderedNetwork, Interface, opening_network, sources}
use Rattle.chip_model.specs.Delivery.{network_tried, network_swept, window_events, ticks, rising, Delivers, DeliversPosts, sources_delivered}
use Rattle.chip_model.specs.Delivery.Delivers.{done, window}
use Rattle.router_xy.proofs.CopySteps.{before_any_step}
use Rattle.flow_laws.specs.NetworkMoves.{NetworkRests}
use Rattle.broadcast.specs.Whole.{CanBroadcast, order_of_posts, IsWhole}
use Rattle.broadcast.proofs.Broadcasting.{rising_tiles}
use Rattle.broadcast.proofs.BroadcastStages.{NetworkLaws, is_below, is_from, HaveMade, HavePosted, HaveTicked, AreMoving}
use Rattle.broadcast.proofs.MadeRequests.{all_made}
use Rattle.broadcast.proofs.PostedRequests.{all_post}
use Rattle.broadcast.proofs.PassedTicks.{all_tick}
use Rattle.broadcast.proofs.RequestsMoved.{passes_move, at_rest}

-- ---- sets of tiles
-- a set of tiles below a number has none past it
none_past : (n : ℕ) (list : List ℕ) (t : ℕ) → AllByRecursion (λ s. s < n) list → n ≤ t → has_tile (set_of list) t ≡ false
none_past n list t inside past = elim (cases_Bool (is_among list t)) [
  | inl among ↦ absurd (omega (arith, among_all (λ s. s < n) list t inside among, past))
  | inr away ↦ has_tile-set_of list t ∙ away
]

below_all : (w n t : ℕ) → t < n → is_below w n t ≡ has_tile w t
below_all w n t inside = let less : nat_lt t n ≡ true = grind (arith, nat_tests, inside) in rw less (and_true (has_tile w t)) where
  and_true : (b : Bool) → (b && true) ≡ b
  and_true true = refl
  and_true false = refl

below_none : (w t : ℕ) → is_below w 0 t ≡ false
below_none w t = let none : nat_lt t 0 ≡ false = grind (arith, nat_tests) in rw none (and_false (has_tile w t)) where
  and_false : (b : Bool) → (b && false) ≡ false
  and_false true = refl
  and_false false = refl

from_all : (w t : ℕ) → is_from w 0 t ≡ has_tile w t
from_all w t = let none : nat_lt t 0 ≡ false = grind (arith, nat_tests) in rw none (and_true (has_tile w t)) where
  and_true : (b : Bool) → (b && true) ≡ b
  and_true true = refl
  and_true false = refl

from_none : (w n t : ℕ) → t < n → is_from w n t ≡ false
from_none w n t inside = let less : nat_lt t n ≡ true = grind (arith, nat_tests, inside) in rw less (and_false (has_tile w t)) where
  and_false : (b : Bool) → (b && false) ≡ false
  and_false true = refl
  and_false false = refl

-- between windows nothing is left to do
pub record IsBetween (chip : Chip) (closed : List ℕ) (net : OrderedNetwork) : Type 0 where
  pub moving : AreMoving chip closed net
  pub rests : NetworkRests net

module _ (laws : NetworkLaws) (chip : Chip) (some : HasTiles chip.grid) (some_channel : 0 < chip.vcs) (some_tick : 0 < chip.window) where
  -- ---- one window
  module _ (closed tiles : List ℕ) (are : AreTiles (tile_count chip) tiles) (net : OrderedNetwork) (before : IsBetween chip closed net) where
    abbrev n : ℕ
    n = tile_count chip

    abbrev w : ℕ
    w = set_of tiles

    begun : HaveMade chip closed w 0 net
    begun = record {
      rests = before.moving.rests;
      posts = before.moving.posts;
      left = λ t interface there. before.moving.left t interface there ∙ ap (λ (b : Bool). interface.posted + count_if b) (sym (below_none w t));
      free = λ t slot above. before.rests.copies t 0 slot;
    }

    abbrev made_net : OrderedNetwork
    made_net = network_swept chip net (map Inject (filter (has_tile w) (upwards 0 n)))

    made : HaveMade chip closed w n made_net
    made = subst (λ (k : ℕ). HaveMade chip closed w k made_net) (omega arith) (all_made laws chip some_channel closed w n 0 net (omega arith) begun)

    to_post : HavePosted chip closed w 0 made_net
    to_post = record {
      rests = made.rests;
      posts = λ t. ap (λ (posts : ℕ). has_tile posts t) made.posts ∙ has_tile-none t ∙ sym (below_none w t);
      left = λ t interface there.
          let inside : t < n = omega (arith, slice_get_within made_net.interfaces t interface there, made.rests.holds.fits.interfaces) in
          made.left t interface there ∙ ap (λ (b : Bool). interface.posted + count_if b) (below_all w n t inside ∙ sym (from_all w t));
    }

    abbrev posted_net : OrderedNetwork
    posted_net = network_swept chip made_net (map Post (filter (has_tile w) (upwards 0 n)))

    posted : HavePosted chip closed w n posted_net
    posted = subst (λ (k : ℕ). HavePosted chip closed w k posted_net) (omega arith) (all_post laws chip closed w n 0 made_net (omega arith) to_post)

    -- the vector of the window is its set
    vector : posted_net.windows.posts ≡ w
    vector = same_sets posted_net.windows.posts w (λ t. posted.posts t ∙ (elim (cases_lt t n) [
      | inl inside ↦ below_all w n t inside
      | inr past ↦ ap (λ (b : Bool). b && nat_lt t n) (none_past n tiles t are.inside past) ∙ sym (none_past n tiles t are.inside past)
    ]))

    to_tick : HaveTicked chip closed w 0 posted_net
    to_tick = record {
      holds = posted.rests.holds;
      phase = posted.rests.phase;
      posts = vector;
      closed_is = posted.rests.closed_is;
      left = λ t interface there.
          let inside : t < n = omega (arith, slice_get_within posted_net.interfaces t interface there, posted.rests.holds.fits.interfaces) in
          posted.left t interface there ∙ ap (λ (b : Bool). interface.posted + count_if b) (from_none w n t inside);
    }

    ticked : AreMoving chip (closed ++ w ∷ []) (network_swept chip posted_net (ticks chip.window))
    ticked = by chip.window some_tick refl
      where
        by : (count : ℕ) → 0 < count → chip.window ≡ count → AreMoving chip (closed ++ w ∷ []) (network_swept chip posted_net (ticks count))
        by zero less is = absurd (omega (arith, less))
        by (suc count) less is = all_tick laws chip closed w (set_of-positive tiles are.some) count 0 0 posted_net (omega (arith, is)) to_tick

    pub window_moves : AreMoving chip (closed ++ set_of tiles ∷ []) (network_swept chip net (window_events chip (rising chip tiles)))
    window_moves = subst (AreMoving chip (closed ++ w ∷ [])) (sym swept) ticked
      where
        turns : List ℕ
        turns = filter (has_tile w) (upwards 0 n)

        swept : network_swept chip net (window_events chip (rising chip tiles)) ≡ network_swept chip posted_net (ticks chip.window)
        swept =
            ap (λ (list : List ℕ). network_swept chip net (map Inject list ++ map Post list ++ ticks chip.window)) (rising_tiles n w)
            ∙ fold-append (network_tried chip) net (map Inject turns ++ map Post turns) (ticks chip.window)
            ∙ ap (λ (start : OrderedNetwork). network_swept chip start (ticks chip.window)) (fold-append (network_tried chip) net (map Inject turns) (map Post turns))

  -- ---- window after window
  all_windows : (posts : List (List ℕ)) (closed : List ℕ) (net last : OrderedNetwork) → AllByRecursion (AreTiles (tile_count chip)) posts → IsBetween chip closed net
      → Delivers chip (map (rising chip) posts) net last → IsBetween chip (closed ++ map set_of posts) last
  all_windows [] closed net last are before done = subst (λ (vectors : List ℕ). IsBetween chip vectors net) (sym (append-nil closed)) before
  all_windows (tiles ∷ posts) closed net last are before (window {settled = settled} count passed quiet rest) =
      let moved : AreMoving chip (closed ++ set_of tiles ∷ []) settled =
      subst (AreMoving chip (closed ++ set_of tiles ∷ [])) passed (passes_move laws chip (closed ++ set_of tiles ∷ []) count (network_swept chip net (window_events chip (rising chip tiles))) (window_moves closed tiles are.0 net before)) in
      let next : IsBetween chip (closed ++ set_of tiles ∷ []) settled = record { moving = moved; rests = at_rest laws chip (closed ++ set_of tiles ∷ []) some settled moved quiet } in
      subst (λ (vectors : List ℕ). IsBetween chip vectors last) (append_assoc closed (set_of tiles ∷ []) (map set_of posts)) (all_windows posts (closed ++ set_of tiles ∷ []) settled last are.1 next rest)

  -- ---- before any window
  no_interface : (count t : ℕ) (interface : Interface) → slice_get (replicate count (record { made = []; posted = 0; delivered = 0 })) t ≡ Some interface
      → ◌≡◌ {A = Interface} (record { made = []; posted = 0; delivered = 0 }) interface
  no_interface zero t interface there = cc
  no_interface (suc count) zero interface there = cc
  no_interface (suc count) (suc t) interface there = no_interface count t interface there

  none_taken : (count t taken : ℕ) → slice_get (replicate count 0) t ≡ Some taken → taken ≡ 0
  none_taken zero t taken there = cc
  none_taken (suc count) zero taken there = cc
  none_taken (suc count) (suc t) taken there = none_taken count t taken there

  opened : IsBetween chip [] (opening_network chip)
  opened = record {
    moving = record {
      rests = record { holds = laws.opened chip some_tick; phase = refl; closed_is = refl };
      posts = refl;
      left = λ t interface there. let is = no_interface (tile_count chip) t interface there in ap (λ (i : Interface). length i.made) (sym is) ∙ ap (λ (i : Interface). i.posted + 0) is;
    };
    rests = record {
      all = record {
        taken = λ t count there. none_taken (tile_count chip) t count there;
        delivered = λ t interface there. ap (λ (i : Interface). i.delivered) (sym (no_interface (tile_count chip) t interface there));
      };
      ordered = λ t interface there. ap (λ (i : Interface). length i.made) (sym (no_interface (tile_count chip) t interface there));
      copies = λ router port slot. before_any_step chip.grid chip.vcs router port slot;
    };
  }

  pub delivered_all : (posts : List (List ℕ)) (last : OrderedNetwork) → AllByRecursion (AreTiles (tile_count chip)) posts → Delivers chip (map (rising chip) posts) (opening_network chip) last
      → IsBetween chip (map set_of posts) last
  delivered_all posts last are delivers = all_windows posts [] (opening_network chip) last are opened delivers

-- ---- a whole broadcast
all_lists : (ordered whole : List ℕ) (f : Interface → List ℕ) (interfaces : List Interface) → ((t : ℕ) (interface : Interface) → slice_get interfaces t ≡ Some interface → f interface ≡ whole)
    → AllByRecursion (λ list. list ≡ whole) (map f interfaces)
all_lists ordered whole f [] each = record {}
all_lists ordered whole f (interface ∷ interfaces) each = (each 0 interface refl, all_lists ordered whole f interfaces (λ t next there. each (suc t) next there))

pub whole_broadcast : NetworkLaws → (d : Doc) (net : OrderedNetwork) → CanBroadcast d → DeliversPosts d net → IsWhole d net
whole_broadcast laws d net can delivers = record {
  ordered = in_order;
  delivered = end.rests.all.delivered;
  lists = all_lists (sources net.ordered) (order_of_posts d) (sources_delivered net) net.interfaces (λ t interface there.
      ap sources (take_all interface.delivered net.ordered (omega (arith, end.rests.all.delivered t interface there))) ∙ in_order);
}
  where
    end : IsBetween (chip_of d) (map set_of d.posts) net
    end = delivered_all laws (chip_of d) can.tiles can.channels can.ticks d.posts net can.posts delivers

    in_order : sources net.ordered ≡ order_of_posts d
    in_order = end.moving.rests.holds.fits.ordered ∙ ap (order (tile_count (chip_of d))) end.moving.rests.closed_is
