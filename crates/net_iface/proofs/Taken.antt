-- A tile takes the next vector: its tracker has room for it, and follows one window more.
use Rattle.std.proofs.Common.{refl, ◌≡◌, ◌≢◌, ℕ, ◌+◌, ◌<◌, ◌≤◌, List, [], ◌∷◌, ◌++◌, length, take, set, get_or, Some, sym, ◌∙◌, ap, subst, inl, inr, arith, length-take, length-set}
use Rattle.std.specs.Prelude.{slice_get, slice_index}
use Rattle.std.specs.List.{All, AllPairs, AllByRecursion}
use Rattle.std.proofs.lemmas.Bool.{cases_eq}
use Rattle.std.proofs.lemmas.List.{take_more, get_or-set_same, get_or-set_other}
use Rattle.std.proofs.lemmas.Option.{get_or_from_slice_get, slice_get_within}
use Rattle.mesh_gen.proofs.TileSets.{AllByRecursion-push}
use Rattle.order_tracker.specs.Tracker.{TrackerState, IsWindow}
use Rattle.order_tracker.proofs.Sequence.{Follows-push}
use Rattle.chip_model.specs.Chip.{tile_count}
use Rattle.chip_model.specs.Windows.{Windows, next_vector, after_take}
use Rattle.chip_model.specs.Copies.{Name}
use Rattle.chip_model.specs.CopiesOwed.{owing, channel_count}
use Rattle.chip_model.specs.NetworkShape.{WindowsFit}
use Rattle.window_core.proofs.Steps.{IsNext, next_from, after_take-some}
use Rattle.net_iface.specs.NetworkHolds.{OrderedNetworkHolds}
use Rattle.net_iface.specs.Parts.{Parts, network_of, IsFollowing, AreKept}
use Rattle.net_iface.specs.Trackers.{MayTakeIn, with_window}
use Rattle.net_iface.proofs.Orders.{each_window}
use Rattle.window_core.specs.Windows.{WindowsState, SameSizes}
use Rattle.net_iface.proofs.Accounts.{accounted}
use Rattle.net_iface.proofs.Kept.{sized_windows, sized_lists}
use Rattle.net_iface.proofs.Places.{same_some, item_at, slice_get-set_same, slice_get-set_other}
use Rattle.net_iface.proofs.Room.{undelivered_few, windows_few}

-- what a take is
pub record IsTake (w : Windows) (t vector : ℕ) (new : Windows) : Type 0 where
  pub count : ℕ
  pub counted : slice_get w.taken t ≡ Some count
  pub there : slice_get w.closed count ≡ Some vector
  pub is : record w { taken = set w.taken t (count + 1) } ≡ new

next_of_tile : (w : Windows) (t vector : ℕ) → next_vector w t ≡ Some vector → IsNext w.taken w.closed t vector
unfolding next_vector
next_of_tile w t vector next = next_from w.taken w.closed t vector next

pub take_is : (w : Windows) (t vector : ℕ) (new : Windows) → after_take w t ≡ Some new → next_vector w t ≡ Some vector → IsTake w t vector new
take_is w t vector new takes next =
    let one = next_of_tile w t vector next in
    let step = after_take-some w t vector one in
    record { count = one.at; counted = one.counted; there = one.there; is = cc }

module _ (p : Parts) (t vector : ℕ) (new : Windows) (kept : AreKept p) (one : IsTake p.windows.windows t vector new) (window : IsWindow (tile_count p.chip) vector)
    (fit : WindowsFit p.chip p.windows.windows) (few : length p.windows.windows.closed ≤ length p.ordered)
    (law : (names : List Name) → AllPairs (λ a b. a ≢ b) names → All (λ name. 0 < owing p.chip.grid p.routers.copies name t) names → length names ≤ channel_count p.chip) where
  count_is : slice_index p.windows.windows.taken t ≡ one.count
  count_is = get_or_from_slice_get p.windows.windows.taken t one.count 0 one.counted

  tile_inside : t < tile_count p.chip
  tile_inside = omega (arith, slice_get_within p.windows.windows.taken t one.count one.counted, kept.sizes.taken)

  -- the condition of a tracker's push
  pub may_take_in : (tracker : TrackerState) → slice_get p.trackers t ≡ Some tracker → MayTakeIn vector tracker
  may_take_in tracker there =
      let following = kept.trackers t tracker there in
      let follows = rw count_is at following.follows in
      let all = each_window (IsWindow (tile_count p.chip)) p.windows.windows.closed fit.closed in
      let undelivered = undelivered_few p.chip p.routers.copies p.windows.windows p.ordered p.unordered p.delivered t (accounted p kept) kept.sizes.some tile_inside law in
      let windows =
      windows_few (tile_count p.chip) one.count (slice_index p.delivered t) vector p.ordered p.windows.windows.closed tracker kept.sizes.some (accounted p kept).in_order all one.there following.tiles following.sets
      follows.left follows.within
      in
      record {
        some = window.some;
        tiles = rw following.tiles window.inside;
        room = omega (arith, windows, undelivered, following.room);
        count = omega (arith, follows.pushed, length-take one.count p.windows.windows.closed, few, kept.sizes.within, kept.sizes.small);
      }

  follows_more : (tracker : TrackerState) → IsFollowing p.chip p.windows.windows p.delivered t tracker → IsFollowing p.chip new p.delivered t (with_window tracker vector)
  follows_more tracker following =
      let w = p.windows.windows in
      let count : slice_index new.taken t ≡ one.count + 1 =
      ap (λ (v : Windows). slice_index v.taken t) (sym one.is) ∙ get_or-set_same w.taken t (one.count + 1) 0 (slice_get_within w.taken t one.count one.counted)
      in
      let here : get_or w.closed one.count 0 ≡ vector = get_or_from_slice_get w.closed one.count vector 0 one.there in
      let front : take (slice_index new.taken t) new.closed ≡ take (slice_index w.taken t) w.closed ++ vector ∷ [] =
      ap (λ (k : ℕ). take k new.closed) count ∙ ap (λ (v : Windows). take (one.count + 1) v.closed) (sym one.is)
      ∙ take_more w.closed one.count 0 (slice_get_within w.closed one.count vector one.there) ∙ ap (λ (x : ℕ). take one.count w.closed ++ x ∷ []) here
      ∙ ap (λ (k : ℕ). take k w.closed ++ vector ∷ []) (sym count_is)
      in
      record {
        tiles = following.tiles;
        room = following.room;
        sets = AllByRecursion-push_window tracker.windows following.sets;
        follows = rw front (Follows-push (take (slice_index w.taken t) w.closed) (slice_index p.delivered t) tracker vector following.follows);
      }
    where
      AllByRecursion-push_window : (windows : List ℕ) → AllByRecursion (IsWindow (tile_count p.chip)) windows → AllByRecursion (IsWindow (tile_count p.chip)) (windows ++ vector ∷ [])
      AllByRecursion-push_window windows all = AllByRecursion-push (IsWindow (tile_count p.chip)) windows vector all window

  follows_as_before : (u : ℕ) (tracker : TrackerState) → u ≢ t → IsFollowing p.chip p.windows.windows p.delivered u tracker → IsFollowing p.chip new p.delivered u tracker
  follows_as_before u tracker other following =
      let w = p.windows.windows in
      let count : slice_index new.taken u ≡ slice_index w.taken u = ap (λ (v : Windows). slice_index v.taken u) (sym one.is) ∙ get_or-set_other w.taken t u (one.count + 1) 0 other in
      let closed : new.closed ≡ w.closed = ap (λ (v : Windows). v.closed) (sym one.is) in
      record { tiles = following.tiles; room = following.room; sets = following.sets; follows = rw (count, closed) following.follows }

  pub AreKept-take : (windows : WindowsState) (trackers : List TrackerState) → windows.windows ≡ new → SameSizes p.windows windows
      → ((tracker : TrackerState) → slice_get p.trackers t ≡ Some tracker → trackers ≡ set p.trackers t (with_window tracker vector))
      → OrderedNetworkHolds p.chip (network_of (record p { windows = windows; trackers = trackers })) → AreKept (record p { windows = windows; trackers = trackers })
  AreKept-take windows trackers is same pushes holds =
      let found = item_at p.trackers t (omega (arith, kept.sizes.trackers, tile_inside)) in
      let trackers_are = pushes found.item found.there in
      let step : record p.windows.windows { taken = set p.windows.windows.taken t (one.count + 1) } ≡ windows.windows = one.is ∙ sym is in
      let sized = sized_windows p windows same (ap (λ (v : Windows). length v.taken) (sym step) ∙ length-set p.windows.windows.taken t (one.count + 1)) kept.sizes in
      record {
        sizes = sized_lists (record p { windows = windows }) trackers p.ordered p.unordered p.made p.delivered sized sized.within
            (ap length trackers_are ∙ length-set p.trackers t (with_window found.item vector)) refl refl refl;
        holds = holds;
        trackers = λ u tracker there. subst (λ (v : Windows). IsFollowing p.chip v p.delivered u tracker) (sym is) (
            elim (cases_eq u t) [
              | inl here ↦
                  let now : with_window found.item vector ≡ tracker =
                  same_some (with_window found.item vector) tracker
                  (sym (slice_get-set_same p.trackers t (with_window found.item vector) (omega (arith, kept.sizes.trackers, tile_inside)))
                  ∙ ap (λ (ts : List TrackerState). slice_get ts t) (sym trackers_are) ∙ ap (slice_get trackers) (sym here) ∙ there)
                  in
                  subst (λ (v : ℕ). IsFollowing p.chip new p.delivered v tracker) (sym here)
                  (subst (λ (s : TrackerState). IsFollowing p.chip new p.delivered t s) now (follows_more found.item (kept.trackers t found.item found.there)))
              | inr other ↦
                  follows_as_before u tracker other
                  (kept.trackers u tracker (sym (slice_get-set_other p.trackers t u (with_window found.item vector) other) ∙ ap (λ (ts : List TrackerState). slice_get ts u) (sym trackers_are) ∙ there))
            ]);
        capacities = kept.capacities;
        counts = kept.counts;
      }
