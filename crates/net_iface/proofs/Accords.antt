-- What the interfaces of a network agree on with its order, and what keeps it.
use Rattle.std.proofs.Common.{◌≡◌, ◌≢◌, ℕ, ◌+◌, ◌^◌, ◌<◌, ◌≤◌, Bool, true, false, cond, ◌==◌, ◌||◌, List, [], ◌∷◌, ◌++◌, length, take, drop, set, Option, Some, refl, sym, ◌∙◌, ap, subst, inl, inr, arith, append-nil, bit_or, length-append, length-set}
use Rattle.std.specs.Prelude.{slice_get, nat_lt}
use Rattle.std.proofs.lemmas.Bool.{cases_eq, ltb-true, ne_eqb, eq-eqb}
use Rattle.std.proofs.lemmas.List.{take-append-drop, take-append-le}
use Rattle.std.proofs.lemmas.Option.{slice_get_within}
use Rattle.mesh_gen.specs.declared.request.Request.{Request}
use Rattle.mesh_gen.specs.declared.kind.Kind.{Kind}
use Rattle.mesh_gen.specs.declared.port.Port.{Port}
use Rattle.mesh_gen.specs.Grid.{Grid}
use Rattle.mesh_gen.specs.TileSet.{has_tile}
use Rattle.mesh_gen.proofs.TileSets.{has_tile-or, has_tile-one}
use Rattle.vc_bank.specs.Places.{Network}
use Rattle.order_tracker.specs.Order.{order}
use Rattle.chip_model.specs.declared.net_copy.NetCopy.{NetCopy}
use Rattle.chip_model.specs.Partial.{when, ◌>>=◌}
use Rattle.chip_model.specs.Chip.{Chip, tile_count}
use Rattle.chip_model.specs.Windows.{Windows, after_post, after_take}
use Rattle.chip_model.specs.Copies.{Name, after_entry, after_hop}
use Rattle.chip_model.specs.OrderedNetwork.{OrderedNetwork, Interface, sources, with_interface, next_request, after_inject, after_request_post, after_vector_take, after_copy_hop, expected_at_next_hop}
use Rattle.chip_model.specs.Bookkeeping.{AreMadeBy, count_by_tile}
use Rattle.chip_model.specs.CopiesOwed.{HasCopies, NoneComes, ComesAlone}
use Rattle.chip_model.specs.NetworkFits.{requests_of}
use Rattle.net_iface.specs.OneOrder.{IsOneOrder}
use Rattle.net_iface.proofs.Binds.{bind_eq, made}
use Rattle.net_iface.proofs.Named.{slice_get_grown, slice_get-append_right, AreMadeBy-push, AreMadeBy-front}
use Rattle.net_iface.proofs.Places.{same_some, item_at, slice_get-set_same, slice_get-set_other}
use Rattle.window_core.proofs.Holds.{post_is, take_is}
use Rattle.net_iface.proofs.Posts.{counted}

-- a tile's requests stand in the order in their own order, it has posted for those, and for one more where it posted in
-- the open window, and has delivered no more than there are
pub record Agrees (ordered : List Request) (posts t : ℕ) (interface : Interface) : Type 0 where
  pub within : interface.delivered ≤ length ordered
  pub made : AreMadeBy t interface.made
  pub in_place : requests_of t ordered ≡ take (count_by_tile t ordered) interface.made
  pub posted_made : interface.posted ≤ length interface.made
  pub posted : interface.posted ≡ count_by_tile t ordered + cond (has_tile posts t) 1 0

-- a request is one that its source made
pub record IsMade (interfaces : List Interface) (q : Request) : Type 0 where
  pub interface : Interface
  pub source : slice_get interfaces q.source ≡ Some interface
  pub made : slice_get interface.made q.number ≡ Some q

pub record Accords (chip : Chip) (net : OrderedNetwork) : Type 0 where
  pub tiles : length net.interfaces ≡ tile_count chip
  pub agree : (t : ℕ) (interface : Interface) → slice_get net.interfaces t ≡ Some interface → Agrees net.ordered net.windows.posts t interface
  pub in_order : sources net.ordered ≡ order (tile_count chip) net.windows.closed
  pub made : (q : Request) → HasCopies net.copies q → IsMade net.interfaces q

-- no tile has delivered, and the order has only grown
pub record DeliversNone (old new : OrderedNetwork) : Type 0 where
  pub more : List Request
  pub grows : new.ordered ≡ old.ordered ++ more
  pub same : (t : ℕ) (interface : Interface) → slice_get new.interfaces t ≡ Some interface → (before : Interface) × (slice_get old.interfaces t ≡ Some before) × (before.delivered ≡ interface.delivered)

pub record Keeps (chip : Chip) (old new : OrderedNetwork) : Type 0 where
  pub accords : Accords chip new
  pub none : DeliversNone old new

-- the requests of each tile stand in the order by their numbers
pub one_order_of : (chip : Chip) (net : OrderedNetwork) → Accords chip net → IsOneOrder chip net
one_order_of chip net accords = record {
  in_order = accords.in_order;
  numbered = λ t inside.
      let here = item_at net.interfaces t (omega (arith, accords.tiles)) in
      let agrees = accords.agree t here.item here.there in
      let count = count_by_tile t net.ordered in
      subst (λ (rs : List Request). AreMadeBy t rs) (sym agrees.in_place)
      (AreMadeBy-front t (take count here.item.made) (drop count here.item.made) (subst (λ (rs : List Request). AreMadeBy t rs) (sym (take-append-drop count here.item.made)) agrees.made));
  tiles = accords.tiles;
  within = λ t interface there. (accords.agree t interface there).within;
}

-- ---- one interface changes

pub other_interface : (P : ℕ → Interface → Type 0) (xs : List Interface) (t : ℕ) (was now : Interface) → slice_get xs t ≡ Some was → ((u : ℕ) (i : Interface) → u ≢ t → slice_get xs u ≡ Some i → P u i) → P t now
    → (u : ℕ) (i : Interface) → slice_get (set xs t now) u ≡ Some i → P u i
other_interface P xs t was now there others here u i found = elim (cases_eq u t) [
  | inl same ↦
      let is : now ≡ i = same_some now i (sym (slice_get-set_same xs t now (slice_get_within xs t was there)) ∙ ap (slice_get (set xs t now)) (sym same) ∙ found) in
      subst (λ (v : ℕ). P v i) (sym same) (subst (λ (j : Interface). P t j) is here)
  | inr other ↦ others u i other (sym (slice_get-set_other xs t u now other) ∙ found)
]

pub same_delivered : (xs : List Interface) (t : ℕ) (was now : Interface) → slice_get xs t ≡ Some was → was.delivered ≡ now.delivered
    → (u : ℕ) (i : Interface) → slice_get (set xs t now) u ≡ Some i → (before : Interface) × (slice_get xs u ≡ Some before) × (before.delivered ≡ i.delivered)
same_delivered xs t was now there same =
    other_interface (λ u i. (before : Interface) × (slice_get xs u ≡ Some before) × (before.delivered ≡ i.delivered)) xs t was now there (λ u i other found. (i, found, refl)) (was, there, same)

pub made_kept : (xs : List Interface) (t : ℕ) (was now : Interface) (more : List Request) (q : Request) → slice_get xs t ≡ Some was → now.made ≡ was.made ++ more → IsMade xs q → IsMade (set xs t now) q
made_kept xs t was now more q there grows made = elim (cases_eq q.source t) [
  | inl same ↦
      let is : was ≡ made.interface = same_some was made.interface (sym there ∙ ap (slice_get xs) (sym same) ∙ made.source) in
      record {
        interface = now;
        source = ap (slice_get (set xs t now)) same ∙ slice_get-set_same xs t now (slice_get_within xs t was there);
        made = ap (λ (rs : List Request). slice_get rs q.number) grows ∙ slice_get_grown was.made more q.number q (ap (λ (i : Interface). slice_get i.made q.number) is ∙ made.made);
      }
  | inr other ↦ record { interface = made.interface; source = slice_get-set_other xs t q.source now other ∙ made.source; made = made.made }
]

-- ---- a request is made

abbrev pub EntersAlone : Type 0
EntersAlone = (g : Grid) (old new : Network NetCopy) (q : Request) → after_entry g old q ≡ Some new → ComesAlone q old new

abbrev pub HopsWithNone : Type 0
HopsWithNone = (g : Grid) (old new : Network NetCopy) (r : ℕ) (port : Port) (slot : ℕ) (out : Port) (expected : Option Name) → after_hop g old r port slot out expected ≡ Some new → NoneComes old new

module _ (chip : Chip) (net : OrderedNetwork) (accords : Accords chip net) where
  one_more_made : (t : ℕ) (kind : Kind) (line : ℕ) (interface : Interface) → slice_get net.interfaces t ≡ Some interface
      → Agrees net.ordered net.windows.posts t (record interface { made = interface.made ++ next_request t interface kind line ∷ [] })
  one_more_made t kind line interface there =
      let q = next_request t interface kind line in
      let agrees = accords.agree t interface there in
      let after_post = agrees.posted in
      let most = agrees.posted_made in
      record {
        within = agrees.within;
        made = AreMadeBy-push t interface.made q refl refl agrees.made;
        in_place = agrees.in_place ∙ sym (take-append-le (count_by_tile t net.ordered) interface.made (q ∷ []) (omega arith));
        posted_made = omega (arith, most, length-append interface.made (q ∷ []));
        posted = after_post;
      }

  pub keeps-inject : EntersAlone → (t : ℕ) (kind : Kind) (line : ℕ) (new : OrderedNetwork) → after_inject chip net t kind line ≡ Some new → Keeps chip net new
  unfolding after_inject
  keeps-inject enters t kind line new is =
      bind_eq (Keeps chip net) (slice_get net.interfaces t) _
      (λ interface there last done. bind_eq (Keeps chip net) (after_entry chip.grid net.copies (next_request t interface kind line)) _
      (λ copies enter y is. made (Keeps chip net) _ y (kept interface there copies (enters chip.grid net.copies copies (next_request t interface kind line) enter)) is) last done)
      new is
    where
      kept : (interface : Interface) → slice_get net.interfaces t ≡ Some interface → (copies : Network NetCopy) → ComesAlone (next_request t interface kind line) net.copies copies
          → Keeps chip net (with_interface (record net { copies = copies }) t (record interface { made = interface.made ++ next_request t interface kind line ∷ [] }))
      kept interface there copies comes =
          let q = next_request t interface kind line in
          let now : Interface = record interface { made = interface.made ++ q ∷ [] } in
          record {
            accords = record {
              tiles = length-set net.interfaces t now ∙ accords.tiles;
              agree = other_interface (Agrees net.ordered net.windows.posts) net.interfaces t interface now there (λ u i other found. accords.agree u i found) (one_more_made t kind line interface there);
              in_order = accords.in_order;
              made = λ r on. elim (comes r on) [
                | inl before ↦ made_kept net.interfaces t interface now (q ∷ []) r there refl (accords.made r before)
                | inr just ↦ subst (λ (s : Request). IsMade (set net.interfaces t now) s) (sym just) (record {
                  interface = now;
                  source = slice_get-set_same net.interfaces t now (slice_get_within net.interfaces t interface there);
                  made = slice_get-append_right interface.made (q ∷ []) (length interface.made) 0 (omega arith);
                })
              ];
            };
            none = record { more = []; grows = sym (append-nil net.ordered); same = same_delivered net.interfaces t interface now there refl };
          }

  -- ---- a tile posts

  pub keeps-post : (t : ℕ) (new : OrderedNetwork) → after_request_post net t ≡ Some new → Keeps chip net new
  unfolding after_request_post
  keeps-post t new is =
      bind_eq (Keeps chip net) (slice_get net.interfaces t) _ (λ interface there last done. by interface there (nat_lt interface.posted (length interface.made)) refl last done) new is
    where
      kept : (interface : Interface) → slice_get net.interfaces t ≡ Some interface → interface.posted < length interface.made → (windows : Windows) → after_post net.windows t ≡ Some windows
          → Keeps chip net (with_interface (record net { windows = windows }) t (record interface { posted = interface.posted + 1 }))
      kept interface there more windows posts =
          let post = post_is t net.windows windows posts in
          let fresh = post.fresh in
          let set_is : bit_or (2 ^ t) net.windows.posts ≡ windows.posts = ap (λ (w : Windows). w.posts) (sym post.is) in
          let closed_is : net.windows.closed ≡ windows.closed = ap (λ (w : Windows). w.closed) (sym post.is) in
          let has : (u : ℕ) → has_tile windows.posts u ≡ ((t == u) || has_tile net.windows.posts u) = λ u.
          ap (λ (s : ℕ). has_tile s u) (sym set_is) ∙ has_tile-or (2 ^ t) net.windows.posts u ∙ ap (λ (b : Bool). b || has_tile net.windows.posts u) (has_tile-one t u)
          in
          let now : Interface = record interface { posted = interface.posted + 1 } in
          let agrees = accords.agree t interface there in
          let here : has_tile windows.posts t ≡ true = has t ∙ ap (λ (b : Bool). b || has_tile net.windows.posts t) (eq-eqb t t refl) in
          record {
            accords = record {
              tiles = length-set net.interfaces t now ∙ accords.tiles;
              agree = other_interface (Agrees net.ordered windows.posts) net.interfaces t interface now there
                  (λ u i other found.
                  let before = accords.agree u i found in
                  let away : has_tile windows.posts u ≡ has_tile net.windows.posts u = has u ∙ ap (λ (b : Bool). b || has_tile net.windows.posts u) (ne_eqb t u (λ e. other (sym e))) in
                  record {
                    within = before.within;
                    made = before.made;
                    in_place = before.in_place;
                    posted_made = before.posted_made;
                    posted = before.posted ∙ ap (λ (b : Bool). count_by_tile u net.ordered + cond b 1 0) (sym away);
                  })
                  (record {
                    within = agrees.within;
                    made = agrees.made;
                    in_place = agrees.in_place;
                    posted_made = omega arith;
                    posted = ap (λ (k : ℕ). k + 1) agrees.posted ∙ counted (count_by_tile t net.ordered) (has_tile net.windows.posts t) (has_tile windows.posts t) fresh here;
                  });
              in_order = accords.in_order ∙ ap (order (tile_count chip)) closed_is;
              made = λ r on. made_kept net.interfaces t interface now [] r there (sym (append-nil interface.made)) (accords.made r on);
            };
            none = record { more = []; grows = sym (append-nil net.ordered); same = same_delivered net.interfaces t interface now there refl };
          }

      by : (interface : Interface) → slice_get net.interfaces t ≡ Some interface → (more : Bool) → nat_lt interface.posted (length interface.made) ≡ more → (last : OrderedNetwork)
          → when more (after_post net.windows t >>= (λ windows. Some (with_interface (record net { windows = windows }) t (record interface { posted = interface.posted + 1 })))) ≡ Some last → Keeps chip net last
      by interface there false fewer last done = cc
      by interface there true more last done =
          bind_eq (Keeps chip net) (after_post net.windows t) _ (λ windows posts y is. made (Keeps chip net) _ y (kept interface there (ltb-true interface.posted (length interface.made) more) windows posts) is) last done

  -- ---- a vector is taken, and a copy hops

  -- nothing changes but copies and windows, and no request and no vector comes
  pub carried : (copies : Network NetCopy) (windows : Windows) → NoneComes net.copies copies → windows.posts ≡ net.windows.posts → windows.closed ≡ net.windows.closed
      → Keeps chip net (record net { copies = copies; windows = windows })
  carried copies windows comes posts closed = record {
    accords = record {
      tiles = accords.tiles;
      agree = λ t interface there. subst (λ (s : ℕ). Agrees net.ordered s t interface) (sym posts) (accords.agree t interface there);
      in_order = accords.in_order ∙ ap (order (tile_count chip)) (sym closed);
      made = λ q on. accords.made q (comes q on);
    };
    none = record { more = []; grows = sym (append-nil net.ordered); same = λ t interface there. (interface, there, refl) };
  }

  pub keeps-take : (t : ℕ) (new : OrderedNetwork) → after_vector_take net t ≡ Some new → Keeps chip net new
  unfolding after_vector_take
  keeps-take t new is =
      bind_eq (Keeps chip net) (after_take net.windows t) _
      (λ windows takes y is. made (Keeps chip net) _ y (let same = take_is t net.windows windows takes in carried net.copies windows (λ q on. on) (ap (λ (w : Windows). w.posts) same.is) (ap (λ (w : Windows). w.closed) same.is)) is) new is

  pub keeps-hop : HopsWithNone → (r : ℕ) (port : Port) (slot : ℕ) (out : Port) (new : OrderedNetwork) → after_copy_hop chip net r port slot out ≡ Some new → Keeps chip net new
  unfolding after_copy_hop
  keeps-hop hops r port slot out new is =
      bind_eq (Keeps chip net) (after_hop chip.grid net.copies r port slot out (expected_at_next_hop chip net r out)) _
      (λ copies hop y is. made (Keeps chip net) _ y (carried copies net.windows (hops chip.grid net.copies copies r port slot out (expected_at_next_hop chip net r out) hop) refl refl) is) new is
