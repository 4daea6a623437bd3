-- A document's chip has tiles, and each request of the order is of one.
use Rattle.std.proofs.Common.{◌≡◌, ℕ, ◌<◌, Some, slice_get}
use Rattle.mesh_gen.specs.declared.request.Request.{Request}
use Rattle.mesh_gen.proofs.OneTile.{product_positive}
use Rattle.doc_text.specs.Doc.{Doc}
use Rattle.chip_model.specs.Chip.{chip_of, tile_count}
use Rattle.chip_model.specs.ChipState.{ChipState}
use Rattle.chip_model.specs.ChipInvariant.{ProtocolHolds}
use Rattle.net_iface.proofs.Entries.{source_below}
use Rattle.chip_laws.specs.DocFits.{DocFits}

pub tiles_some : (d : Doc) → DocFits d → 0 < tile_count (chip_of d)
tiles_some d fits = product_positive d.cols d.rows fits.chip.tiles.some_column fits.chip.tiles.some_row

pub source_inside : (d : Doc) (s : ChipState) (place : ℕ) (q : Request) → DocFits d → ProtocolHolds d s → slice_get s.network.ordered place ≡ Some q → q.source < tile_count (chip_of d)
source_inside d s place q fits holds at =
    source_below (tile_count (chip_of d)) s.network.ordered s.network.windows.closed place q (tiles_some d fits) holds.network.requests.ordered at
