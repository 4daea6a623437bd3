-- What the calls of a node ask of their callers holds where events make them.
use Rattle.std.proofs.Common.{◌≡◌, ℕ, sym, ◌∙◌, subst, Some, slice_get}
use Rattle.std.proofs.lemmas.Option.{same_Some}
use Rattle.mesh_gen.specs.declared.request.Request.{Request}
use Rattle.doc_text.specs.Doc.{Doc}
use Rattle.chip_model.specs.Chip.{chip_of}
use Rattle.chip_model.specs.OrderedNetwork.{OrderedNetwork, after_delivery}
use Rattle.chip_model.specs.Units.{UnitState}
use Rattle.chip_model.specs.ChipState.{ChipState}
use Rattle.chip_model.specs.ChipInvariant.{ProtocolHolds}
use Rattle.snoop_core.specs.Requests.{OwnRequestFits}
use Rattle.chip_laws.specs.Meetings.{DeliveriesFit}
use Rattle.chip_laws.proofs.RequestsInside.{tile_of, tile_of_unit}
use Rattle.chip_laws.proofs.TileAgreements.{keeps_of, own_request_fits}

-- the own request that is delivered is the one of what its node waits for
pub own_requests_fit : (d : Doc) (s : ChipState) (t : ℕ) (unit : UnitState) (q : Request) (net : OrderedNetwork) → ProtocolHolds d s → DeliveriesFit d s → slice_get s.units t ≡ Some unit
    → after_delivery (chip_of d) s.network t ≡ Some (q, net) → OwnRequestFits unit.node.tile unit.node.side q
own_requests_fit d s t unit q net holds next at delivers =
    let tile = tile_of d s t holds (tile_of_unit d s t unit holds at) in
    let same : tile.unit ≡ unit = same_Some tile.unit unit (sym tile.unit_at ∙ at) in
    subst (λ (x : UnitState). OwnRequestFits x.node.tile x.node.side q) same
    (own_request_fits s.network t tile.interface tile.unit.node q (record {
      agrees = tile.agrees;
      at = next t tile.unit q net tile.unit_at delivers;
      keeps = keeps_of s.network t tile.interface tile.unit.node tile.holds.node.agrees tile.holds.node.followed;
    }))
