-- A tick passes: the last one of a window orders a request of each tile that posted in it.
use Rattle.std.proofs.Common.{◌≡◌, ℕ, ◌+◌, ◌%◌, ◌<◌, Bool, true, false, cond, List, [], ◌∷◌, ◌++◌, length, take, Option, Some, refl, sym, ◌∙◌, ap, subst, inl, inr, arith, append-nil, length-append}
use Rattle.std.specs.Prelude.{slice_get}
use Rattle.std.proofs.lemmas.Bool.{cases_Bool}
use Rattle.std.proofs.lemmas.List.{map-append, take_more}
use Rattle.std.proofs.lemmas.Option.{slice_get_within, get_or_from_slice_get}
use Rattle.mesh_gen.specs.declared.request.Request.{Request}
use Rattle.mesh_gen.specs.TileSet.{has_tile}
use Rattle.mesh_gen.proofs.TileSets.{has_tile-none}
use Rattle.order_tracker.specs.Order.{order}
use Rattle.chip_model.specs.Chip.{Chip, tile_count}
use Rattle.chip_model.specs.Windows.{Windows, window_closed, after_tick, is_last_tick}
use Rattle.chip_model.specs.OrderedNetwork.{OrderedNetwork, Interface, sources, lowest_unordered, ordered_by_window, after_network_tick}
use Rattle.chip_model.specs.Bookkeeping.{count_by_tile}
use Rattle.chip_model.specs.NetworkFits.{requests_of}
use Rattle.net_iface.proofs.Binds.{bind_eq, made}
use Rattle.net_iface.proofs.Named.{length-requests_of, requests_of-append, count_by_tile-append}
use Rattle.net_iface.proofs.Orders.{order-push}
use Rattle.net_iface.proofs.Places.{item_at}
use Rattle.net_iface.proofs.Steps.{merge_is, close_is}
use Rattle.net_iface.proofs.Priorities.{ordered_in, requests_of-round, ordered_taken, ordered_passed, sources-expansion}
use Rattle.net_iface.proofs.Accords.{Agrees, Accords, Keeps, carried}

module _ (chip : Chip) (net : OrderedNetwork) (accords : Accords chip net) (some : 0 < tile_count chip) where
  abbrev posts : ℕ
  posts = net.windows.posts

  abbrev added : List Request
  added = ordered_by_window chip net

  -- the lowest request of a tile that is not ordered
  lowest_at : (t : ℕ) (interface : Interface) → slice_get net.interfaces t ≡ Some interface → lowest_unordered net t ≡ slice_get interface.made (count_by_tile t net.ordered)
  lowest_at t interface there = rw there refl

  lowest_from : (t : ℕ) (q : Request) → lowest_unordered net t ≡ Some q → q.source ≡ t
  lowest_from t q is =
      bind_eq (λ (r : Request). r.source ≡ t) (slice_get net.interfaces t) _
      (λ interface there r found. ((accords.agree t interface there).made (count_by_tile t net.ordered) r found).0) q is

  lowest_there : (t : ℕ) → t < tile_count chip → has_tile posts t ≡ true → (q : Request) × (lowest_unordered net t ≡ Some q) × (q.source ≡ t)
  lowest_there t inside posted =
      let here = item_at net.interfaces t (omega (arith, accords.tiles)) in
      let agrees = accords.agree t here.item here.there in
      let one : ◌≡◌ {A = ℕ} (cond (has_tile posts t) 1 0) 1 = ap (λ (b : Bool). cond b 1 0) posted in
      let first = item_at here.item.made (count_by_tile t net.ordered) (omega (arith, one, agrees.posted, agrees.posted_made)) in
      let is = lowest_at t here.item here.there ∙ first.there in
      (first.item, is, lowest_from t first.item is)

  added_of : (t : ℕ) → t < tile_count chip → requests_of t added ≡ requests_of t (ordered_in (lowest_unordered net) (has_tile posts) (t ∷ []))
  added_of t inside =
      let first : length net.windows.closed % tile_count chip < tile_count chip = omega arith in
      requests_of-round (lowest_unordered net) (has_tile posts) lowest_from (tile_count chip) (length net.windows.closed % tile_count chip) t (omega arith) inside

  sources_added : sources (net.ordered ++ added) ≡ order (tile_count chip) (net.windows.closed ++ posts ∷ [])
  sources_added =
      map-append (λ (q : Request). q.source) net.ordered added
      ∙ ap (λ (ss : List ℕ). ss ++ sources added) accords.in_order
      ∙ ap (λ (ss : List ℕ). order (tile_count chip) net.windows.closed ++ ss) (sources-expansion (tile_count chip) (length net.windows.closed) posts (lowest_unordered net) some lowest_there)
      ∙ sym (order-push (tile_count chip) net.windows.closed posts)

  no_post : (t : ℕ) → ◌≡◌ {A = ℕ} (cond (has_tile 0 t) 1 0) 0
  no_post t = ap (λ (b : Bool). cond b 1 0) (has_tile-none t)

  still_agrees : (t : ℕ) (interface : Interface) → slice_get net.interfaces t ≡ Some interface → Agrees (net.ordered ++ added) 0 t interface
  still_agrees t interface there =
      let agrees = accords.agree t interface there in
      let inside : t < tile_count chip = omega (arith, slice_get_within net.interfaces t interface there, accords.tiles) in
      let grows = count_by_tile-append t net.ordered added in
      let counts = length-requests_of t added in
      let longer = length-append net.ordered added in
      let split = requests_of-append t net.ordered added in
      let within = agrees.within in
      elim (cases_Bool (has_tile posts t)) [
        | inl posted ↦
            let one : ◌≡◌ {A = ℕ} (cond (has_tile posts t) 1 0) 1 = ap (λ (b : Bool). cond b 1 0) posted in
            let (q, is, source) = lowest_there t inside posted in
            let own : requests_of t added ≡ q ∷ [] = added_of t inside ∙ ordered_taken (lowest_unordered net) (has_tile posts) t q posted is source in
            let count : count_by_tile t (net.ordered ++ added) ≡ count_by_tile t net.ordered + 1 = omega (arith, grows, counts, ap length own) in
            let next : slice_get interface.made (count_by_tile t net.ordered) ≡ Some q = sym (lowest_at t interface there) ∙ is in
            record {
              within = omega (arith, within, longer);
              made = agrees.made;
              in_place =
                  split ∙ ap (λ (rs : List Request). rs ++ requests_of t added) agrees.in_place ∙ ap (λ (rs : List Request). take (count_by_tile t net.ordered) interface.made ++ rs) own
                  ∙ ap (λ (r : Request). take (count_by_tile t net.ordered) interface.made ++ r ∷ []) (sym (get_or_from_slice_get interface.made (count_by_tile t net.ordered) q q next))
                  ∙ sym (take_more interface.made (count_by_tile t net.ordered) q (slice_get_within interface.made (count_by_tile t net.ordered) q next))
                  ∙ ap (λ (k : ℕ). take k interface.made) (sym count);
              posted_made = agrees.posted_made;
              posted = omega (arith, agrees.posted, one, count, no_post t);
            }
        | inr away ↦
            let none_posted : ◌≡◌ {A = ℕ} (cond (has_tile posts t) 1 0) 0 = ap (λ (b : Bool). cond b 1 0) away in
            let own : requests_of t added ≡ [] = added_of t inside ∙ ordered_passed (lowest_unordered net) (has_tile posts) t away in
            let count : count_by_tile t (net.ordered ++ added) ≡ count_by_tile t net.ordered = omega (arith, grows, counts, ap length own) in
            record {
              within = omega (arith, within, longer);
              made = agrees.made;
              in_place = split ∙ ap (λ (rs : List Request). requests_of t net.ordered ++ rs) own ∙ append-nil (requests_of t net.ordered) ∙ agrees.in_place ∙ ap (λ (k : ℕ). take k interface.made) (sym count);
              posted_made = agrees.posted_made;
              posted = omega (arith, agrees.posted, none_posted, count, no_post t);
            }
      ]

  closes : Keeps chip net (record net { windows = window_closed net.windows; ordered = net.ordered ++ added })
  closes = record {
    accords = record { tiles = accords.tiles; agree = still_agrees; in_order = sources_added; made = accords.made };
    none = record { more = added; grows = refl; same = λ t interface there. (interface, there, refl) };
  }

  pub keeps-tick : (new : OrderedNetwork) → after_network_tick chip net ≡ Some new → Keeps chip net new
  unfolding after_network_tick
  keeps-tick new is =
      bind_eq (Keeps chip net) (after_tick chip.window net.windows) _ (λ windows tick last done. by windows tick (is_last_tick chip.window net.windows) refl last done) new is
    where
      by : (windows : Windows) → after_tick chip.window net.windows ≡ Some windows → (ends : Bool) → is_last_tick chip.window net.windows ≡ ends → (last : OrderedNetwork)
          → ◌≡◌ {A = Option OrderedNetwork} (Some (record net { windows = windows; ordered = cond ends (net.ordered ++ added) net.ordered })) (Some last) → Keeps chip net last
      by windows tick true ends last =
          made (Keeps chip net) _ last (subst (λ (w : Windows). Keeps chip net (record net { windows = w; ordered = net.ordered ++ added })) (close_is chip.window net.windows windows tick ends) closes)
      by windows tick false more last =
          made (Keeps chip net) _ last (subst (λ (w : Windows). Keeps chip net (record net { windows = w })) (merge_is chip.window net.windows windows tick more)
          (carried chip net accords net.copies (record net.windows { phase = net.windows.phase + 1 }) (λ q on. on) refl refl))
