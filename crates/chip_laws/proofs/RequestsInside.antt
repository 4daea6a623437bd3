-- Ordered requests are of tiles and for lines of memory, and so are those that wait.
use Rattle.std.proofs.Common.{◌≡◌, ℕ, ◌<◌, Bool, true, false, cond, refl, sym, subst, arith, Option, Some, None, List, [], take, slice_get}
use Rattle.std.specs.Prelude.{◌==◌, ◌&&◌, slice_index_or, filter}
use Rattle.std.specs.List.{AllByRecursion}
use Rattle.std.proofs.lemmas.Option.{slice_get_within}
use Rattle.mesh_gen.specs.declared.request.Request.{Request}
use Rattle.report_text.specs.declared.access.AccessKind.{AccessKind}
use Rattle.report_text.specs.declared.access.AccessKind.TheVariants.{Load, Store, Swap, Add}
use Rattle.doc_text.specs.Doc.{Doc}
use Rattle.chip_model.specs.declared.waiting.Waiting.{Waiting}
use Rattle.chip_model.specs.Chip.{Chip, chip_of, tile_count}
use Rattle.chip_model.specs.Misses.{Demand, request_for}
use Rattle.chip_model.specs.Records.{LineRecord}
use Rattle.chip_model.specs.OrderedNetwork.{Interface}
use Rattle.chip_model.specs.Node.{Node}
use Rattle.chip_model.specs.Units.{UnitState}
use Rattle.chip_model.specs.ChipState.{ChipState}
use Rattle.chip_model.specs.NodeShape.{DemandFits, NodeFits}
use Rattle.chip_model.specs.Ownership.{delivered_to}
use Rattle.chip_model.specs.Bookkeeping.{is_get, count_by_tile, between, up_to_getm, waiting_for, IsFollowed, DemandIsFollowed}
use Rattle.chip_model.specs.Suppliers.{last_written_back, has_reached_memory, waiters_after, WaitersAreGets}
use Rattle.chip_model.specs.NetworkFits.{InterfaceAgrees}
use Rattle.chip_model.specs.ChipInvariant.{UnitHolds, ProtocolHolds}
use Rattle.net_iface.proofs.Places.{item_at}
use Rattle.chip_laws.specs.DocLaws.{DocLaws}
use Rattle.chip_laws.specs.Tiles.{TileOf}
use Rattle.chip_laws.proofs.Each.{each_from, each_filter, each_between, each_up_to_getm, waiting_inside}
use Rattle.chip_laws.proofs.NodeMessages.{AreInside, RequestInside, SendsFit}
use Rattle.chip_laws.proofs.TileAgreements.{next_made}

pub tile_of : (d : Doc) (s : ChipState) (t : ℕ) → ProtocolHolds d s → t < tile_count (chip_of d) → TileOf d s t
tile_of d s t holds inside =
    let i = item_at s.network.interfaces t (omega (arith, inside, holds.network.requests.interfaces)) in
    let u = item_at s.units t (omega (arith, inside, holds.units)) in
    record {
      interface = i.item;
      unit = u.item;
      interface_at = i.there;
      unit_at = u.there;
      agrees = holds.network.requests.agree t i.item i.there;
      holds = holds.tiles t i.item u.item i.there u.there;
    }

-- the tile of a unit
pub tile_of_unit : (d : Doc) (s : ChipState) (t : ℕ) (unit : UnitState) → ProtocolHolds d s → slice_get s.units t ≡ Some unit → t < tile_count (chip_of d)
tile_of_unit d s t unit holds at = omega (arith, slice_get_within s.units t unit at, holds.units)

pub source_inside : (d : Doc) (s : ChipState) (place : ℕ) (q : Request) → DocLaws d → ProtocolHolds d s → slice_get s.network.ordered place ≡ Some q → q.source < tile_count (chip_of d)
source_inside d s place q fits holds at = fits.inside s.network place q holds.network.requests at

-- an ordered request is of a tile and for a line
pub request_inside : (d : Doc) (s : ChipState) (place : ℕ) (q : Request) → DocLaws d → ProtocolHolds d s → slice_get s.network.ordered place ≡ Some q → RequestInside (chip_of d) q
request_inside d s place q fits holds at =
    let inside = source_inside d s place q fits holds at in
    let tile = tile_of d s q.source holds inside in
    let made = next_made s.network q.source place tile.interface q tile.agrees at refl in
    record {
      source = inside;
      line = subst (λ (c : Chip). q.line < c.lines) tile.holds.node.chip (tile.holds.node.agrees.lines (count_by_tile q.source (take place s.network.ordered)) q made);
    }

abbrev Sources : Doc → List Request → Type 0
Sources d requests = AllByRecursion (λ (q : Request). q.source < tile_count (chip_of d)) requests

sources_inside : (d : Doc) (s : ChipState) → DocLaws d → ProtocolHolds d s → Sources d s.network.ordered
sources_inside d s fits holds =
    each_from (λ (q : Request). q.source < tile_count (chip_of d)) s.network.ordered (λ place q at. source_inside d s place q fits holds at)

-- those that follow a place
waiting_after : (d : Doc) (ordered : List Request) (p : Request → Bool) (place below : ℕ) → Sources d ordered → AreInside (chip_of d) (waiting_for (up_to_getm (filter p (between place below ordered))))
waiting_after d ordered p place below all =
    let inside : Request → Type 0 = λ (q : Request). q.source < tile_count (chip_of d) in
    waiting_inside (tile_count (chip_of d)) (up_to_getm (filter p (between place below ordered)))
    (each_up_to_getm inside (filter p (between place below ordered)) (each_filter inside p (between place below ordered) (each_between inside place below ordered all)))

-- ---- who waits for the words of a demand
nobody : (chip : Chip) (list : List Waiting) → list ≡ [] → AreInside chip list
nobody chip list none = subst (AreInside chip) (sym none) _

list_by : (d : Doc) (ordered : List Request) (node : Node) (demand : Demand) (kind : AccessKind) (place : Option ℕ) → Sources d ordered → DemandFits node.chip node.side.cache demand
    → demand.kind ≡ request_for kind → demand.ordered ≡ place → ((g : ℕ) → demand.ordered ≡ Some g → IsFollowed ordered node demand g) → AreInside (chip_of d) demand.list
list_by d ordered node demand Load place all fits kind is follows = nobody (chip_of d) demand.list (fits.reads kind)
list_by d ordered node demand Store None all fits kind is follows = nobody (chip_of d) demand.list (fits.unordered is).0
list_by d ordered node demand Swap None all fits kind is follows = nobody (chip_of d) demand.list (fits.unordered is).0
list_by d ordered node demand Add None all fits kind is follows = nobody (chip_of d) demand.list (fits.unordered is).0
list_by d ordered node demand Store (Some g) all fits kind is follows = subst (AreInside (chip_of d)) (sym ((follows g is).list kind)) (waiting_after d ordered _ g node.delivered all)
list_by d ordered node demand Swap (Some g) all fits kind is follows = subst (AreInside (chip_of d)) (sym ((follows g is).list kind)) (waiting_after d ordered _ g node.delivered all)
list_by d ordered node demand Add (Some g) all fits kind is follows = subst (AreInside (chip_of d)) (sym ((follows g is).list kind)) (waiting_after d ordered _ g node.delivered all)

pub sends_fit : (d : Doc) (s : ChipState) (node : Node) → DocLaws d → ProtocolHolds d s → node.chip ≡ chip_of d → NodeFits node → DemandIsFollowed s.network.ordered node
    → SendsFit (chip_of d) node.side
sends_fit d s node fits holds chip is followed = record {
  controllers = fits.doc.chip.controllers;
  demand = λ demand stands. subst (λ (c : Chip). demand.line < c.lines) chip (is.lines.demand demand stands);
  list = λ demand stands. list_by d s.network.ordered node demand demand.pending.kind demand.ordered (sources_inside d s fits holds) (is.side.demand demand stands)
      (is.side.demand demand stands).asks refl (λ g ordered. followed demand g stands ordered);
  back = λ back stands. subst (λ (c : Chip). back.line < c.lines) chip (is.lines.back back stands);
}

-- ---- who waits at a home
waiters_after_inside : (d : Doc) (s : ChipState) (node : Node) (line : ℕ) (place : Option ℕ) → Sources d s.network.ordered → AreInside (chip_of d) (waiters_after s node line place)
waiters_after_inside d s node line None all = _
waiters_after_inside d s node line (Some place) all = by (has_reached_memory s line place) where
  by : (home : Bool) → AreInside (chip_of d)
      (cond {A = List Waiting} home [] (waiting_for (up_to_getm (filter (λ (q : Request). is_get q.kind && (q.line == line)) (between place node.delivered s.network.ordered)))))
  by true = _
  by false = waiting_after d s.network.ordered (λ (q : Request). is_get q.kind && (q.line == line)) place node.delivered all

pub waiters_inside : (d : Doc) (s : ChipState) (node : Node) (line : ℕ) (r : LineRecord) → DocLaws d → ProtocolHolds d s → WaitersAreGets s node → slice_index_or node.records line None ≡ Some r
    → AreInside (chip_of d) r.waiters
waiters_inside d s node line r fits holds waiters at = subst (AreInside (chip_of d)) (sym (waiters line r at)) (by r.fresh) where
  by : (fresh : Bool) → AreInside (chip_of d) (cond {A = List Waiting} fresh [] (waiters_after s node line (last_written_back line (delivered_to s.network.ordered node))))
  by true = _
  by false = waiters_after_inside d s node line (last_written_back line (delivered_to s.network.ordered node)) (sources_inside d s fits holds)
