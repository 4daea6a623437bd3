-- The tiles of a window make a request each: the local channels of their routers are free.
use Rattle.std.proofs.Common.{◌≡◌, ◌≢◌, ℕ, zero, suc, ◌+◌, ◌<◌, ◌≤◌, Bool, true, false, cond, List, [], ◌∷◌, ◌++◌, length, length-append, Option, Some, None, refl, sym, ◌∙◌, ap, subst, arith, inl, inr}
use Rattle.std.specs.Prelude.{◌&&◌, nat_lt, slice_get, filter, map}
use Rattle.std.proofs.lemmas.Bool.{cases_eq, cases_lt}
use Rattle.std.proofs.lemmas.Bool.Decides.{nat_tests}
use Rattle.mesh_gen.specs.declared.kind.Kind.TheVariants.{GetS}
use Rattle.mesh_gen.specs.declared.request.Request.{Request}
use Rattle.mesh_gen.specs.Ports.{count_if}
use Rattle.mesh_gen.specs.TileSet.{has_tile}
use Rattle.order_tracker.specs.Order.{upwards}
use Rattle.vc_bank.specs.Channels.{slots_at, lowest_free, normal_slots, IsFree}
use Rattle.vc_bank.specs.Places.{Network, at, put, HasPlace}
use Rattle.vc_bank.proofs.FreeSlots.{none-lowest_free}
use Rattle.vc_bank.proofs.PlaceLaws.{at-put_other}
use Rattle.report_text.specs.declared.event.Event.TheVariants.{Inject}
use Rattle.chip_model.specs.declared.net_copy.NetCopy.{NetCopy}
use Rattle.chip_model.specs.Chip.{Chip, tile_count}
use Rattle.chip_model.specs.Copies.{channels_of, arriving}
use Rattle.chip_model.specs.OrderedNetwork.{OrderedNetwork, Interface, next_request, with_interface, after_inject}
use Rattle.chip_model.specs.NetworkFits.{NetworkFits}
use Rattle.chip_model.specs.Delivery.{network_step, network_tried, network_swept}
use Rattle.router_xy.proofs.Steps.{entered_into, lowest_is_free}
use Rattle.net_iface.proofs.Places.{HasItem, item_at, same_some, slice_get-set_same, slice_get-set_other}
use Rattle.net_iface.proofs.Steps.{after_inject-some}
use Rattle.router_xy.proofs.OwedCounts.{free_place}
use Rattle.flow_laws.proofs.RouterChannels.{normal_there, stands_there}
use Rattle.broadcast.proofs.BroadcastStages.{NetworkLaws, is_below, HaveLeft, HaveMade, tried_some}

-- ---- a local channel that is free
record HasFree (net : Network NetCopy) (t : ℕ) : Type 0 where
  slot : ℕ
  lowest : lowest_free (channels_of net t) 0 ≡ Some slot

free_at : (net : Network NetCopy) (t : ℕ) → ((slot : ℕ) → at net t 0 slot ≡ None) → 0 < normal_slots (channels_of net t) → IsFree (channels_of net t) 0 0
free_at net t none some = by item.item item.there
  where
    item : HasItem (slots_at (channels_of net t) 0) 0
    item = item_at (slots_at (channels_of net t) 0) 0 some

    by : (packet : Option NetCopy) → slice_get (slots_at (channels_of net t) 0) 0 ≡ Some packet → slice_get (slots_at (channels_of net t) 0) 0 ≡ Some None
    by None there = there
    by (Some copy) there = absurd (let stands = stands_there net t 0 0 copy there in let free = none 0 in cc)

has_free : (net : Network NetCopy) (t : ℕ) → ((slot : ℕ) → at net t 0 slot ≡ None) → 0 < normal_slots (channels_of net t) → HasFree net t
has_free net t none some = by (lowest_free (channels_of net t) 0) refl
  where
    by : (lowest : Option ℕ) → lowest_free (channels_of net t) 0 ≡ lowest → HasFree net t
    by None full = absurd (none-lowest_free (channels_of net t) 0 full 0 some (free_at net t none some))
    by (Some slot) is = record { slot = slot; lowest = is }

-- ---- one more number
below_here : (w k : ℕ) → has_tile w k ≡ true → count_if (is_below w (k + 1) k) ≡ count_if (is_below w k k) + 1
below_here w k inside =
    let less : nat_lt k (k + 1) ≡ true = grind (arith, nat_tests) in
    let not_less : nat_lt k k ≡ false = grind (arith, nat_tests) in
    rw (inside, less, not_less) refl

pub below_there : (w k t : ℕ) → t ≢ k → is_below w (k + 1) t ≡ is_below w k t
below_there w k t other = ap (λ (b : Bool). has_tile w t && b) (lt_next k t other)
  where
    lt_next : (k t : ℕ) → t ≢ k → nat_lt t (k + 1) ≡ nat_lt t k
    lt_next k t other = elim (cases_lt t k) [ inl less ↦ grind (arith, nat_tests, less) | inr more ↦ grind (arith, nat_tests, more, other) ]

pub below_without : (w k t : ℕ) → has_tile w k ≡ false → is_below w (k + 1) t ≡ is_below w k t
below_without w k t outside = elim (cases_eq t k) [
  | inl same ↦ ap (λ (b : Bool). b && nat_lt t (k + 1)) (not_there same) ∙ sym (ap (λ (b : Bool). b && nat_lt t k) (not_there same))
  | inr other ↦ below_there w k t other
]
  where
    not_there : t ≡ k → has_tile w t ≡ false
    not_there same = ap (has_tile w) same ∙ outside

module _ (laws : NetworkLaws) (chip : Chip) (some_channel : 0 < chip.vcs) (closed : List ℕ) (w : ℕ) where
  -- the tile of this number makes its request
  pub one_made : (k : ℕ) (net : OrderedNetwork) → k < tile_count chip → has_tile w k ≡ true → HaveMade chip closed w k net → HaveMade chip closed w (k + 1) (network_tried chip net (Inject k))
  unfolding network_step
  one_made k net inside here before = tried_some (HaveMade chip closed w (k + 1)) chip net new (Inject k) injected (record {
    rests = record { holds = laws.made chip net new k GetS 0 before.rests.holds injected; phase = before.rests.phase; closed_is = before.rests.closed_is };
    posts = before.posts;
    left = left_of;
    free = λ t slot above. at-put_other net.copies k 0 entry.slot (Some (arriving chip.grid k q)) t 0 slot place (inl (λ same. absurd (omega (arith, same, above)))) ∙ before.free t slot (omega (arith, above));
  })
    where
      fits : NetworkFits chip net
      fits = before.rests.holds.fits

      interface : HasItem net.interfaces k
      interface = item_at net.interfaces k (omega (arith, fits.interfaces, inside))

      q : Request
      q = next_request k interface.item GetS 0

      entry : HasFree net.copies k
      entry = has_free net.copies k (λ slot. before.free k slot (omega arith)) (let some = normal_there chip.grid chip.vcs true net.copies k fits.channels inside in omega (arith, some, some_channel))

      place : HasPlace net.copies k 0 entry.slot
      place = free_place net.copies k 0 entry.slot (lowest_is_free (channels_of net.copies k) 0 entry.slot entry.lowest)

      new : OrderedNetwork
      new = with_interface (record net { copies = put net.copies k 0 entry.slot (Some (arriving chip.grid k q)) }) k (record interface.item { made = interface.item.made ++ q ∷ [] })

      injected : after_inject chip net k GetS 0 ≡ Some new
      injected = after_inject-some chip net k GetS 0 interface.item (put net.copies k 0 entry.slot (Some (arriving chip.grid k q))) interface.there (entered_into chip.grid net.copies q entry.slot entry.lowest)

      left_of : HaveLeft (λ t. count_if (is_below w (k + 1) t)) new
      left_of t found there = elim (cases_eq t k) [
        | inl same ↦ (
            let is : record interface.item { made = interface.item.made ++ q ∷ [] } ≡ found =
            same_some _ found (sym (slice_get-set_same net.interfaces k (record interface.item { made = interface.item.made ++ q ∷ [] }) (omega (arith, fits.interfaces, inside))) ∙ ap (slice_get new.interfaces) (sym same) ∙ there) in
            let long : length found.made ≡ length interface.item.made + 1 = ap (λ (i : Interface). length i.made) (sym is) ∙ length-append interface.item.made (q ∷ []) in
            let posted : found.posted ≡ interface.item.posted = ap (λ (i : Interface). i.posted) (sym is) in
            let now : count_if (is_below w (k + 1) t) ≡ count_if (is_below w k k) + 1 = ap (λ (n : ℕ). count_if (is_below w (k + 1) n)) same ∙ below_here w k here in
            omega (arith, long, posted, now, before.left k interface.item interface.there))
        | inr other ↦ before.left t found (sym (slice_get-set_other net.interfaces k t _ other) ∙ there) ∙ ap (λ (b : Bool). found.posted + count_if b) (sym (below_there w k t other))
      ]

  none_made : (k : ℕ) (net : OrderedNetwork) → has_tile w k ≡ false → HaveMade chip closed w k net → HaveMade chip closed w (k + 1) net
  none_made k net outside before = record {
    rests = before.rests;
    posts = before.posts;
    left = λ t interface there. before.left t interface there ∙ ap (λ (b : Bool). interface.posted + count_if b) (sym (below_without w k t outside));
    free = λ t slot above. before.free t slot (omega (arith, above));
  }

  -- the tiles of the set among so many numbers do
  pub all_made : (count k : ℕ) (net : OrderedNetwork) → k + count ≤ tile_count chip → HaveMade chip closed w k net
      → HaveMade chip closed w (k + count) (network_swept chip net (map Inject (filter (has_tile w) (upwards k count))))
  all_made zero k net within before = subst (λ (n : ℕ). HaveMade chip closed w n net) (omega arith) before
  all_made (suc count) k net within before = by (λ new made. subst (λ (n : ℕ). HaveMade chip closed w n (network_swept chip new (map Inject (filter (has_tile w) (upwards (k + 1) count))))) (omega arith) (all_made count (k + 1) new (omega (arith, within)) made)) (has_tile w k) refl
    where
      by : ((new : OrderedNetwork) → HaveMade chip closed w (k + 1) new → HaveMade chip closed w (k + suc count) (network_swept chip new (map Inject (filter (has_tile w) (upwards (k + 1) count)))))
          → (here : Bool) → has_tile w k ≡ here → HaveMade chip closed w (k + suc count) (network_swept chip net (map Inject (cond {A = List ℕ} here (k ∷ filter (has_tile w) (upwards (k + 1) count)) (filter (has_tile w) (upwards (k + 1) count)))))
      by rest true here = rest (network_tried chip net (Inject k)) (one_made k net (omega (arith, within)) here before)
      by rest false here = rest net (none_made k net here before)
