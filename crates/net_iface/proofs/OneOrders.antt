-- What fits is of one order.
use Rattle.std.proofs.Common.{ℕ, ◌<◌, ◌≤◌, List, length, take, drop, sym, ◌∙◌, ap, subst, arith}
use Rattle.std.specs.Prelude.{slice_index, option_map}
use Rattle.std.proofs.lemmas.List.{take-append-drop}
use Rattle.std.proofs.lemmas.Option.{get_or_from_slice_get, slice_get-map}
use Rattle.mesh_gen.specs.declared.request.Request.{Request}
use Rattle.chip_model.specs.Chip.{Chip, tile_count}
use Rattle.chip_model.specs.OrderedNetwork.{OrderedNetwork, Interface}
use Rattle.chip_model.specs.Bookkeeping.{AreMadeBy, count_by_tile}
use Rattle.chip_model.specs.NetworkFits.{NetworkFits}
use Rattle.net_iface.specs.OrderedNet.{delivered_counts}
use Rattle.net_iface.specs.OneOrder.{IsOneOrder}
use Rattle.net_iface.proofs.Named.{AreMadeBy-front}
use Rattle.net_iface.proofs.Places.{item_at}

pub one_order : (chip : Chip) (net : OrderedNetwork) → NetworkFits chip net → IsOneOrder chip net
one_order chip net fits = record {
  in_order = fits.ordered;
  numbered = λ t inside.
      let here = item_at net.interfaces t (omega (arith, fits.interfaces)) in
      let agrees = fits.agree t here.item here.there in
      let count = count_by_tile t net.ordered in
      subst (λ (rs : List Request). AreMadeBy t rs) (sym agrees.ordered)
      (AreMadeBy-front t (take count here.item.made) (drop count here.item.made) (subst (λ (rs : List Request). AreMadeBy t rs) (sym (take-append-drop count here.item.made)) agrees.made));
  tiles = fits.interfaces;
  within = λ t interface there. (fits.agree t interface there).within;
}

-- a tile has delivered no more than there is
pub delivered_few : (chip : Chip) (net : OrderedNetwork) (t : ℕ) → NetworkFits chip net → t < tile_count chip → slice_index (delivered_counts net) t ≤ length net.ordered
delivered_few chip net t fits inside =
    let here = item_at net.interfaces t (omega (arith, fits.interfaces)) in
    let counted = get_or_from_slice_get (delivered_counts net) t here.item.delivered 0 (slice_get-map (λ (interface : Interface). interface.delivered) net.interfaces t ∙ ap (option_map (λ (interface : Interface). interface.delivered)) here.there) in
    omega (arith, counted, (fits.agree t here.item here.there).within)
