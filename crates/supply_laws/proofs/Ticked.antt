-- After a tick: the order may have grown, and each tile still agrees with it.
use Rattle.std.proofs.Common.{◌≡◌, ℕ, arith, Some, List, ◌++◌}
use Rattle.std.specs.Prelude.{slice_get}
use Rattle.std.proofs.lemmas.Option.{slice_get_within}
use Rattle.mesh_gen.specs.declared.request.Request.{Request}
use Rattle.doc_text.specs.Doc.{Doc}
use Rattle.chip_model.specs.Chip.{chip_of}
use Rattle.chip_model.specs.OrderedNetwork.{Interface, after_network_tick}
use Rattle.chip_model.specs.Units.{UnitState}
use Rattle.chip_model.specs.ChipState.{ChipState}
use Rattle.chip_model.specs.NetworkFits.{NetworkFits, InterfaceAgrees}
use Rattle.chip_model.specs.ChipInvariant.{NodeHolds, ProtocolHolds}
use Rattle.net_iface.proofs.Places.{item_at}
use Rattle.chip_laws.specs.DocLaws.{DocLaws}
use Rattle.chip_laws.specs.EventSteps.{ChangesNetwork}
use Rattle.chip_laws.proofs.NetworkFrames.{ticked_views}
use Rattle.chip_laws.proofs.NodeKeeps.{node_keeps, node_holds, node_stays_keeps}

-- a tile after a tick, whose unit did not change
pub record TickedTile (d : Doc) (new : ChipState) (t : ℕ) (unit : UnitState) : Type 0 where
  pub interface : Interface
  pub agrees : InterfaceAgrees new.network t interface
  pub node : NodeHolds d new t interface unit.node

pub record Ticked (d : Doc) (s new : ChipState) : Type 0 where
  pub more : List Request
  pub order : new.network.ordered ≡ s.network.ordered ++ more
  pub units : new.units ≡ s.units
  pub tiles : (t : ℕ) (unit : UnitState) → slice_get s.units t ≡ Some unit → TickedTile d new t unit

-- the ordered network after a tick
pub ticked_network : (d : Doc) (s new : ChipState) → DocLaws d → ProtocolHolds d s → ChangesNetwork (after_network_tick (chip_of d) s.network) s new → NetworkFits (chip_of d) new.network
ticked_network d s new fits holds does = (fits.ticked s.network new.network (record { fits = holds.network.requests; took = holds.network.took }) does.network).fits

pub ticked : (d : Doc) (s new : ChipState) → DocLaws d → ProtocolHolds d s → ChangesNetwork (after_network_tick (chip_of d) s.network) s new → Ticked d s new
ticked d s new fits holds does =
    let views = ticked_views (chip_of d) s.network new.network does.network in
    let after = ticked_network d s new fits holds does in
    record {
      more = views.more;
      order = views.ordered;
      units = does.units;
      tiles = λ t unit at.
          let within = slice_get_within s.units t unit at in
          let here = item_at new.network.interfaces t (omega (arith, within, holds.units, after.interfaces)) in
          let was = views.interfaces t here.item here.there in
          let before = holds.tiles t was.was unit was.at at in
          record {
            interface = here.item;
            agrees = after.agree t here.item here.there;
            node = node_holds d new (s.network.ordered ++ views.more) t here.item unit.node views.ordered
                (node_stays_keeps (chip_of d) s.network.ordered views.more t was.was here.item unit.node was.made was.delivered (holds.network.requests.agree t was.was was.at).within
                (node_keeps d s t was.was unit.node before.node));
          };
    }
