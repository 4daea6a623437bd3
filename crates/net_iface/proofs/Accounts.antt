-- What a network that fits tells of its parts: the requests that were made, are ordered, and were delivered.
use Rattle.std.proofs.Common.{◌≡◌, ◌≢◌, ℕ, ◌+◌, ◌<◌, true, List, [], ◌∷◌, ◌++◌, length, take, Some, refl, sym, ◌∙◌, ap, subst, append_assoc, arith, length-append}
use Rattle.std.specs.Prelude.{slice_get, slice_index}
use Rattle.circular_buffer.specs.Buffer.{Buffer}
use Rattle.mesh_gen.specs.declared.request.Request.{Request}
use Rattle.mesh_gen.specs.Ports.{count_if}
use Rattle.mesh_gen.specs.TileSet.{has_tile}
use Rattle.vc_bank.specs.Places.{Network, at}
use Rattle.order_tracker.specs.Order.{order}
use Rattle.chip_model.specs.declared.net_copy.NetCopy.{NetCopy}
use Rattle.chip_model.specs.Chip.{Chip, tile_count}
use Rattle.chip_model.specs.Windows.{Windows}
use Rattle.chip_model.specs.Copies.{Name}
use Rattle.chip_model.specs.OrderedNetwork.{Interface, sources}
use Rattle.chip_model.specs.Bookkeeping.{AreMadeBy}
use Rattle.chip_model.specs.CopiesOwed.{owing, times_named, HasCopies}
use Rattle.chip_model.specs.NetworkFits.{NetworkFits, requests_of}
use Rattle.net_iface.specs.Unordered.{unordered_at, unordered_of, with_last}
use Rattle.net_iface.specs.Parts.{Parts, requests_of_tile, interface_of, network_of, AreKept}
use Rattle.net_iface.proofs.Named.{length-requests_of}
use Rattle.net_iface.proofs.Interfaces.{tile_within, tile_is}
use Rattle.net_iface.proofs.Expected.{interface_at}

-- a copy is of a request that its source made
pub record IsOfMade (tiles : ℕ) (ordered : List Request) (unordered : List (Buffer Request)) (q : Request) : Type 0 where
  pub source : q.source < tiles
  pub made : slice_get (requests_of_tile ordered unordered q.source) q.number ≡ Some q

-- what holds of the requests that were made, are ordered, and were delivered
pub record IsAccounted (chip : Chip) (copies : Network NetCopy) (w : Windows) (ordered : List Request) (unordered : List (Buffer Request)) (delivered : List ℕ) : Type 0 where
  pub made : (t : ℕ) → t < tile_count chip → AreMadeBy t (requests_of_tile ordered unordered t)
  pub posted : (t : ℕ) → t < tile_count chip → has_tile w.posts t ≡ true → 0 < length (unordered_of unordered t)
  pub in_order : sources ordered ≡ order (tile_count chip) w.closed
  pub of_made : (router port slot : ℕ) (copy : NetCopy) → at copies router port slot ≡ Some copy → IsOfMade (tile_count chip) ordered unordered copy.request
  pub owed : (name : Name) (t : ℕ) → name.0 < tile_count chip → t < tile_count chip →
      owing chip.grid copies name t + times_named name (take (slice_index delivered t) ordered) ≡ times_named name (requests_of_tile ordered unordered name.0)

pub accounted_of : (p : Parts) → NetworkFits p.chip (network_of p) → IsAccounted p.chip p.routers.copies p.windows.windows p.ordered p.unordered p.delivered
accounted_of p fits =
    let f = interface_of p.windows.windows.posts p.ordered p.unordered p.delivered in
    let n = tile_count p.chip in
    record {
      made = λ t inside. (fits.agree t (f t) (interface_at p t inside)).made;
      posted = λ t inside has.
          let agrees = fits.agree t (f t) (interface_at p t inside) in
          omega (arith, agrees.posted_made, ap count_if has, length-append (requests_of t p.ordered) (unordered_of p.unordered t), length-requests_of t p.ordered);
      in_order = fits.ordered;
      of_made = λ router port slot copy stands.
          let m = fits.made router port slot copy stands in
          let s = copy.request.source in
          record { source = tile_within f n s m.interface m.source; made = ap (λ (i : Interface). slice_get i.made copy.request.number) (tile_is f n s m.interface m.source) ∙ m.made };
      owed = λ name t source inside. fits.owed name name.0 t (f name.0) (f t) (interface_at p name.0 source) refl (interface_at p t inside);
    }

pub accounted : (p : Parts) → AreKept p → IsAccounted p.chip p.routers.copies p.windows.windows p.ordered p.unordered p.delivered
accounted p kept = accounted_of p kept.holds.fits

-- what is on the way was made
pub made_if_on_the_way : (p : Parts) (q : Request) → AreKept p → HasCopies p.routers.copies q → IsOfMade (tile_count p.chip) p.ordered p.unordered q
made_if_on_the_way p q kept way =
    subst (λ (r : Request). IsOfMade (tile_count p.chip) p.ordered p.unordered r) way.there.is ((accounted p kept).of_made way.router way.port way.slot way.there.copy way.there.stands)

-- ---- a request is made

module _ (ordered : List Request) (unordered more : List (Buffer Request)) (q : Request)
    (there : unordered_at more q.source ≡ with_last (unordered_at unordered q.source) q) (others : (u : ℕ) → u ≢ q.source → unordered_at more u ≡ unordered_at unordered u) where
  pub requests_of_tile-own : requests_of_tile ordered more q.source ≡ requests_of_tile ordered unordered q.source ++ q ∷ []
  requests_of_tile-own =
      ap (λ (list : Buffer Request). requests_of q.source ordered ++ list.items) there
      ∙ sym (append_assoc (requests_of q.source ordered) (unordered_of unordered q.source) (q ∷ []))

  pub requests_of_tile-others : (u : ℕ) → u ≢ q.source → requests_of_tile ordered more u ≡ requests_of_tile ordered unordered u
  requests_of_tile-others u other = ap (λ (list : Buffer Request). requests_of u ordered ++ list.items) (others u other)
