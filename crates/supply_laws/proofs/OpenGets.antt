-- The get for which a tile waits is that of its demand, which was sent and is for the same line.
use Rattle.std.proofs.Common.{◌≡◌, ℕ, ◌≤◌, Bool, true, false, refl, sym, ◌∙◌, ap, inl, inr, ◌⊎◌, Option, Some, None, List}
use Rattle.std.specs.Prelude.{◌==◌, slice_get}
use Rattle.std.proofs.lemmas.Bool.{eq-eqb, both_ways}
use Rattle.mesh_gen.specs.declared.kind.Kind.TheVariants.{PutM}
use Rattle.mesh_gen.specs.declared.request.Request.{Request}
use Rattle.chip_model.specs.OrderedNetwork.{OrderedNetwork, Interface}
use Rattle.chip_model.specs.Misses.{Demand}
use Rattle.chip_model.specs.Node.{Node}
use Rattle.chip_model.specs.NodeShape.{SideFits}
use Rattle.chip_model.specs.Bookkeeping.{is_get, TileAgrees}
use Rattle.chip_model.specs.Suppliers.{place_of_ordered}
use Rattle.chip_model.specs.NetworkFits.{InterfaceAgrees}
use Rattle.chip_laws.proofs.Options.{none_some}
use Rattle.chip_laws.proofs.UnderWay.{demand_gets}
use Rattle.supply_laws.proofs.GetPlaces.{get_parts, FirstGet, open_place, waits_at}
use Rattle.supply_laws.proofs.Undelivered.{undelivered_get, undelivered_put}

-- the get of a tile at a place, for which its demand stands
pub record OpenGet (ordered : List Request) (t : ℕ) (node : Node) (place : ℕ) : Type 0 where
  pub get : Request
  pub at : slice_get ordered place ≡ Some get
  pub asks : is_get get.kind ≡ true
  pub source : get.source ≡ t
  pub demand : Demand
  pub stands : node.side.misses.demand ≡ Some demand
  pub line : demand.line ≡ get.line
  pub kind : demand.kind ≡ get.kind
  pub sent : demand.sent ≡ true
  pub stage : (demand.ordered ≡ Some place) ⊎ ((demand.ordered ≡ None) × (node.delivered ≤ place))

demand_of : (entry : Option Demand) (place : ℕ) → place_of_ordered entry ≡ Some place → (demand : Demand) × (entry ≡ Some demand) × (demand.ordered ≡ Some place)
demand_of None place is = none_some place is
demand_of (Some demand) place is = (demand, refl, is)

was_sent : (demand : Demand) (place : ℕ) → (demand.sent ≡ false → (demand.ordered ≡ None) × (demand.early ≡ None)) → demand.ordered ≡ Some place → demand.sent ≡ true
was_sent demand place unsent ordered = by demand.sent refl where
  by : (b : Bool) → demand.sent ≡ b → demand.sent ≡ true
  by true is = is
  by false is = none_some place (sym (unsent is).0 ∙ ordered)

pub open_get : (net : OrderedNetwork) (t : ℕ) (interface : Interface) (node : Node) (place : ℕ) → InterfaceAgrees net t interface → TileAgrees net t interface node → SideFits node.chip node.side
    → open_place net.ordered node ≡ Some place → OpenGet net.ordered t node place
open_get net t interface node place agrees is fits waits = by (waits_at net.ordered node place waits) where
  by : (place_of_ordered node.side.misses.demand ≡ Some place) ⊎ ((place_of_ordered node.side.misses.demand ≡ None) × FirstGet net.ordered node.tile node.delivered place)
      → OpenGet net.ordered t node place
  by (inl ordered) =
      let found = demand_of node.side.misses.demand place ordered in
      let at = is.demand found.0 place found.1 found.2 in
      record {
        get = at.request;
        at = at.at;
        asks = ap is_get at.kind ∙ demand_gets node.chip node.side found.0 fits found.1;
        source = at.source ∙ is.tile;
        demand = found.0;
        stands = found.1;
        line = sym at.line;
        kind = sym at.kind;
        sent = was_sent found.0 place (fits.demand found.0 found.1).unsent found.2;
        stage = inl found.2;
      }
  by (inr first) =
      let parts = get_parts node.tile first.1.get first.1.gets in
      let source : first.1.get.source ≡ t = parts.1 ∙ is.tile in
      let found = undelivered_get net t interface node place first.1.get agrees is first.1.at source first.1.beyond parts.0 in
      record {
        get = first.1.get;
        at = first.1.at;
        asks = parts.0;
        source = source;
        demand = found.0;
        stands = found.1;
        line = found.2.line;
        kind = found.2.kind;
        sent = found.2.sent;
        stage = inr (found.2.unordered, first.1.beyond);
      }

-- a tile that waits for a get of a line has none of its own requests on its way that writes the line back
pub none_written_back : {P : Type 0} (net : OrderedNetwork) (t : ℕ) (interface : Interface) (node : Node) (g place : ℕ) (put : Request) → InterfaceAgrees net t interface
    → TileAgrees net t interface node
    → SideFits node.chip node.side → (is : OpenGet net.ordered t node g) → slice_get net.ordered place ≡ Some put → put.kind ≡ PutM → put.source ≡ t → put.line ≡ is.get.line
    → node.delivered ≤ place → P
none_written_back net t interface node g place put agrees is fits get at kind source line beyond =
    let found = undelivered_put net t interface node place put agrees is at source beyond (ap is_get kind) in
    let same : get.demand.line ≡ found.0.line = get.line ∙ sym line ∙ sym found.2.line in
    absurd (both_ways (get.demand.line == found.0.line) (fits.apart get.demand found.0 get.stands found.1) (eq-eqb get.demand.line found.0.line same))
