-- An event that orders nothing keeps the places of open gets, and the protocol holds before and behind it.
use Rattle.std.proofs.Common.{◌≡◌, ℕ, Some, List, sym, ◌∙◌, ap, subst, arith, inl, inr}
use Rattle.std.specs.Prelude.{slice_get}
use Rattle.std.proofs.lemmas.Option.{same_Some}
use Rattle.mesh_gen.specs.declared.request.Request.{Request}
use Rattle.report_text.specs.declared.event.Event.{Event}
use Rattle.doc_text.specs.Doc.{Doc}
use Rattle.chip_model.specs.Chip.{chip_of}
use Rattle.chip_model.specs.Units.{UnitState, Behaviour}
use Rattle.chip_model.specs.ChipState.{ChipState}
use Rattle.chip_model.specs.BehaviourLaws.{KeepsLaws}
use Rattle.chip_model.specs.Suppliers.{count_of, delivered_at, place_of_get}
use Rattle.chip_laws.specs.DocLaws.{DocLaws}
use Rattle.chip_laws.specs.EventSteps.{EventDoes}
use Rattle.chip_laws.specs.MessageLaws.{MessageLaws}
use Rattle.supply_laws.specs.Reachable.{StateHolds}
use Rattle.supply_laws.proofs.GetPlaces.{open_place}
use Rattle.supply_laws.proofs.PlaceEvents.{GoesOnBy, KeepsPlaces, KeepsOrTicks, keeps_or_ticks}
use Rattle.value_laws.proofs.SettledSteps.{OrdersNothing}

-- where neither the order nor a unit changes
pub same_places : (s new : ChipState) → new.network.ordered ≡ s.network.ordered → new.units ≡ s.units → KeepsPlaces s new
same_places s new order units = record {
  order = order;
  places = λ t unit after was is.
      subst (λ (u : UnitState). GoesOnBy s t unit (place_of_get new u.node)) (unit_is t unit after was is)
      (inl (ap (λ (ordered : List Request). open_place ordered unit.node) order));
  counts = λ v. let same : delivered_at new v ≡ delivered_at s v = ap (λ (us : List UnitState). count_of (slice_get us v)) units in omega (arith, same);
  units = λ t after at. (after, ap (λ (us : List UnitState). slice_get us t) (sym units) ∙ at);
  stands = λ t unit at. (unit, ap (λ (us : List UnitState). slice_get us t) units ∙ at);
  tiles = λ t unit after was is. ap (λ (u : UnitState). u.node.tile) (sym (unit_is t unit after was is));
}
  where
    unit_is : (t : ℕ) (unit after : UnitState) → slice_get s.units t ≡ Some unit → slice_get new.units t ≡ Some after → unit ≡ after
    unit_is t unit after was is = same_Some unit after (sym was ∙ (ap (λ (us : List UnitState). slice_get us t) (sym units) ∙ is))

kept_places : (d : Doc) (s new : ChipState) → new.network.ordered ≡ s.network.ordered → KeepsOrTicks (chip_of d) s new → KeepsPlaces s new
kept_places d s new order (inl keeps) = keeps
kept_places d s new order (inr ticks) = same_places s new order ticks.units

pub orders_nothing : MessageLaws → (b : Behaviour) (laws : KeepsLaws b) (d : Doc) (s new : ChipState) (event : Event) → DocLaws d → StateHolds b laws d s
    → StateHolds b laws d new
    → EventDoes b (chip_of d) s new event → new.network.ordered ≡ s.network.ordered → OrdersNothing d s new
orders_nothing messages b laws d s new event fits holds left does order = record {
  before = holds.protocol;
  behind = left.protocol;
  answers = left.messages;
  places = kept_places d s new order (keeps_or_ticks messages b laws d s new fits holds.protocol holds.fit event does);
}
