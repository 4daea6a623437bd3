-- What lemmas take of a document's chip: its limits, and the laws of its ordered network.
use Rattle.std.specs.Prelude.{◌≡◌, ℕ, ◌<◌, Some, slice_get}
use Rattle.mesh_gen.specs.declared.request.Request.{Request}
use Rattle.doc_text.specs.Doc.{Doc}
use Rattle.chip_model.specs.Chip.{chip_of, tile_count}
use Rattle.chip_model.specs.OrderedNetwork.{OrderedNetwork, Interface, after_network_tick, after_delivery}
use Rattle.chip_model.specs.NetworkFits.{NetworkFits}
use Rattle.net_iface.specs.NetworkHolds.{OrderedNetworkHolds}
use Rattle.chip_laws.specs.DocFits.{DocFits}

-- it fits, its order holds requests of its tiles, which deliver them in that order, and a tick keeps what holds of its network
pub record DocLaws (d : Doc) : Type 0 where
  pub doc : DocFits d
  pub inside : (net : OrderedNetwork) (place : ℕ) (q : Request) → NetworkFits (chip_of d) net → slice_get net.ordered place ≡ Some q → q.source < tile_count (chip_of d)
  pub next : (old new : OrderedNetwork) (t : ℕ) (interface : Interface) (q : Request) → NetworkFits (chip_of d) old → slice_get old.interfaces t ≡ Some interface
      → after_delivery (chip_of d) old t ≡ Some (q, new) → slice_get old.ordered interface.delivered ≡ Some q
  pub ticked : (old new : OrderedNetwork) → OrderedNetworkHolds (chip_of d) old → after_network_tick (chip_of d) old ≡ Some new → OrderedNetworkHolds (chip_of d) new
