-- What a chip's nodes own and may write, and the times of its accesses: at the opening, and after every event.
use Rattle.std.proofs.Common.{◌≡◌, ℕ, zero, suc, sym, ◌∙◌, subst, Some, List, [], ◌∷◌, map, slice_get}
use Rattle.std.proofs.lemmas.Option.{same_Some}
use Rattle.mesh_gen.specs.declared.request.Request.{Request}
use Rattle.order_tracker.specs.Order.{upwards}
use Rattle.report_text.specs.declared.event.Event.{Event}
use Rattle.doc_text.specs.Doc.{Doc}
use Rattle.chip_model.specs.Chip.{Chip, chip_of, tile_count}
use Rattle.chip_model.specs.Node.{opening_node}
use Rattle.chip_model.specs.Units.{UnitState, Behaviour, opening_unit}
use Rattle.chip_model.specs.ChipState.{ChipState, program_of, opening}
use Rattle.chip_model.specs.Events.{step}
use Rattle.chip_model.specs.BehaviourLaws.{KeepsLaws}
use Rattle.chip_model.specs.Ownership.{OwnsByOrder}
use Rattle.chip_model.specs.Writers.{WritersFit}
use Rattle.chip_model.specs.ChipInvariant.{ProtocolHolds}
use Rattle.snoop_core.proofs.ByOrder.{OwnsByOrder-opening_node}
use Rattle.snoop_core.proofs.Opened.{lookup-empty}
use Rattle.chip_laws.specs.Meetings.{UnitsFit}
use Rattle.chip_laws.specs.Parts.{WritersHold}
use Rattle.chip_laws.proofs.Options.{none_some}
use Rattle.chip_laws.proofs.EventSteps.{event_does}
use Rattle.chip_laws.proofs.OrderFrames.{DeliversNext, known_of, holds_at}
use Rattle.chip_laws.proofs.WriterEvents.{owns_by_event, writers_by_event}
use Rattle.chip_laws.proofs.TimesEvents.{TilesAgree, timely_by_event, performers_by_event}

tiles_of : (d : Doc) (s : ChipState) → ProtocolHolds d s → TilesAgree s
tiles_of d s holds t unit at = (holds_at d s holds t unit at).holds.node.agrees.tile

-- after every event
pub writers_hold : (d : Doc) (b : Behaviour) (laws : KeepsLaws b) (s new : ChipState) (event : Event) → ProtocolHolds d s → UnitsFit b laws s → DeliversNext (chip_of d) s
    → step b (chip_of d) s event ≡ Some new → WritersHold d new
writers_hold d b laws s new event holds fit next e =
    let does = event_does b (chip_of d) s new event e in
    let known = known_of d s holds in
    record {
      owns = owns_by_event b laws (chip_of d) s new event fit known next does;
      writers = writers_by_event b laws (chip_of d) s new event fit known next does;
      timely = timely_by_event b laws (chip_of d) s new event fit known (tiles_of d s holds) next holds.timely does;
      performers = performers_by_event d b laws s new event fit known holds next does;
    }

-- ---- the opening
mapped : {X Y : Type 0} (f : X → Y) (xs : List X) (k : ℕ) (y : Y) → slice_get (map f xs) k ≡ Some y → (x : X) × (f x ≡ y)
mapped {X} {Y} f [] k y is = none_some y is
mapped {X} {Y} f (x ∷ xs) zero y is = (x, same_Some (f x) y is)
mapped {X} {Y} f (x ∷ xs) (suc k) y is = mapped f xs k y is

opened_writers : (ordered : List Request) (chip : Chip) (tile : ℕ) (memory : List ℕ) → WritersFit ordered (opening_node chip tile memory)
opened_writers ordered chip tile memory line held is = none_some held (sym (lookup-empty chip line) ∙ is)

pub writers_open : (d : Doc) → WritersHold d (opening d)
writers_open d = record {
  owns = λ t unit at. let one = mapped (λ tile. opening_unit (chip_of d) tile (program_of d tile) d.memory) (upwards 0 (tile_count (chip_of d))) t unit at in
      subst (λ (u : UnitState). OwnsByOrder [] u.node) one.1 (OwnsByOrder-opening_node [] (chip_of d) one.0 d.memory);
  writers = λ t unit at. let one = mapped (λ tile. opening_unit (chip_of d) tile (program_of d tile) d.memory) (upwards 0 (tile_count (chip_of d))) t unit at in
      subst (λ (u : UnitState). WritersFit [] u.node) one.1 (opened_writers [] (chip_of d) one.0 d.memory);
  timely = record {
    times = λ t place unit access at stands of. none_some access stands;
    writers = λ place access stands write. none_some access stands;
  };
  performers = λ place access stands. none_some access stands;
}
