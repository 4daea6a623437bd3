-- The request that a tile delivers is the next of the order.
use Rattle.std.proofs.Common.{◌≡◌, ◌∙◌, sym, ap, subst, Some, slice_get}
use Rattle.std.proofs.lemmas.Option.{same_Some}
use Rattle.doc_text.specs.Doc.{Doc}
use Rattle.chip_model.specs.Units.{UnitState}
use Rattle.chip_model.specs.ChipState.{ChipState}
use Rattle.chip_model.specs.ChipInvariant.{ProtocolHolds}
use Rattle.chip_laws.specs.DocLaws.{DocLaws}
use Rattle.chip_laws.specs.Meetings.{DeliveriesFit}
use Rattle.chip_laws.proofs.RequestsInside.{tile_of, tile_of_unit}

-- what a tile delivers next is the next request of the order
pub deliveries_fit : (d : Doc) (s : ChipState) → DocLaws d → ProtocolHolds d s → DeliveriesFit d s
deliveries_fit d s fits holds t unit q net at_unit delivers =
    let tile = tile_of d s t holds (tile_of_unit d s t unit holds at_unit) in
    let same : tile.unit ≡ unit = same_Some tile.unit unit (sym tile.unit_at ∙ at_unit) in
    subst (λ (x : UnitState). slice_get s.network.ordered x.node.delivered ≡ Some q) same
    (ap (slice_get s.network.ordered) tile.holds.node.agrees.counts ∙ fits.next s.network net t tile.interface q holds.network.requests tile.interface_at delivers)
