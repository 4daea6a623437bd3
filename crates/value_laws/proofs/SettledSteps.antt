-- An event that orders nothing and changes the unit of one tile: where a tile had no write to come it has none afterwards.
use Rattle.std.proofs.Common.{◌≡◌, ℕ, ◌<◌, ◌≤◌, true, refl, sym, ◌∙◌, ap, subst, arith, inl, inr, ◌⊎◌, Option, Some, None, List}
use Rattle.std.specs.Prelude.{slice_get}
use Rattle.std.proofs.lemmas.Bool.{cases_lt}
use Rattle.std.proofs.lemmas.Option.{same_Some}
use Rattle.mesh_gen.specs.declared.request.Request.{Request}
use Rattle.doc_text.specs.Doc.{Doc}
use Rattle.chip_model.specs.Cache.{lookup}
use Rattle.chip_model.specs.Misses.{Demand}
use Rattle.chip_model.specs.Node.{Node}
use Rattle.chip_model.specs.Units.{UnitState}
use Rattle.chip_model.specs.ChipState.{ChipState}
use Rattle.chip_model.specs.NodeShape.{is_modified}
use Rattle.chip_model.specs.Suppliers.{count_of, delivered_at, place_of_ordered, place_of_get}
use Rattle.chip_model.specs.Writers.{IsSettled}
use Rattle.chip_model.specs.ChipInvariant.{ProtocolHolds}
use Rattle.chip_laws.specs.EventSteps.{ChangesUnit}
use Rattle.chip_laws.proofs.Options.{none_some}
use Rattle.chip_laws.proofs.SuppliedEvents.{unit_holds}
use Rattle.chip_laws.proofs.UnitFrames.{changed_unit}
use Rattle.supply_laws.specs.OpenGets.{DataAnswersGets}
use Rattle.supply_laws.proofs.GetPlaces.{WaitsAt, waits_at, at_waits}
use Rattle.supply_laws.proofs.PlaceEvents.{KeepsPlaces}

-- a state and the one after an event that orders nothing, with what holds of both whatever the values are
pub record OrdersNothing (d : Doc) (s new : ChipState) : Type 0 where
  pub before : ProtocolHolds d s
  pub behind : ProtocolHolds d new
  pub answers : DataAnswersGets new
  pub places : KeepsPlaces s new

-- a place of the order keeps its request
pub same_at : (d : Doc) (s new : ChipState) → OrdersNothing d s new → (k : ℕ) (q : Request) → slice_get new.network.ordered k ≡ Some q
    → slice_get s.network.ordered k ≡ Some q
same_at d s new e k q at = ap (λ (rs : List Request). slice_get rs k) (sym e.places.order) ∙ at

pub still_at : (d : Doc) (s new : ChipState) → OrdersNothing d s new → (k : ℕ) (q : Request) → slice_get s.network.ordered k ≡ Some q
    → slice_get new.network.ordered k ≡ Some q
still_at d s new e k q at = ap (λ (rs : List Request). slice_get rs k) e.places.order ∙ at

-- what is settled at a node that does not change stays so
pub settled_still : (d : Doc) (s new : ChipState) → OrdersNothing d s new → (node : Node) (line place : ℕ) → IsSettled s.network.ordered node line place
    → IsSettled new.network.ordered node line place
settled_still d s new e node line place is = subst (λ (rs : List Request). IsSettled rs node line place) (sym e.places.order) is

-- the place of an ordered demand
pub ordered_of : (entry : Option Demand) (place : ℕ) → place_of_ordered entry ≡ Some place
    → (demand : Demand) × (entry ≡ Some demand) × (demand.ordered ≡ Some place)
ordered_of None place is = none_some place is
ordered_of (Some demand) place is = (demand, refl, is)

-- a demand that stood at a node, ordered at a place, for the same request
pub record WasOrdered (node : Node) (demand : Demand) (place : ℕ) : Type 0 where
  pub was : Demand
  pub stood : node.side.misses.demand ≡ Some was
  pub ordered : was.ordered ≡ Some place
  pub kind : was.kind ≡ demand.kind
  pub line : was.line ≡ demand.line

module _ (d : Doc) (s new : ChipState) (e : OrdersNothing d s new) (t : ℕ) (unit after : UnitState) (c : ChangesUnit s new t unit after) where
  pub now : slice_get new.units t ≡ Some after
  now = changed_unit s new t unit after c

  -- its count does not fall
  pub more : unit.node.delivered ≤ after.node.delivered
  more =
      let less = e.places.counts t in
      let was : delivered_at s t ≡ unit.node.delivered = ap count_of c.at in
      let is : delivered_at new t ≡ after.node.delivered = ap count_of now in
      omega (arith, less, was, is)

  -- a demand ordered below the count was ordered already
  pub was_ordered : (demand : Demand) (place : ℕ) → after.node.side.misses.demand ≡ Some demand → demand.ordered ≡ Some place → place < unit.node.delivered
      → WasOrdered unit.node demand place
  was_ordered demand place stands is less = elim (e.places.places t unit after c.at now) [
    | inl same ↦ by (waits_at s.network.ordered unit.node place (sym same ∙ waits))
    | inr ends ↦ none_some place (sym ends.0 ∙ waits)
  ]
    where
      waits : place_of_get new after.node ≡ Some place
      waits = at_waits new.network.ordered after.node place (inl (ap place_of_ordered stands ∙ is))

      by : WaitsAt s.network.ordered unit.node place → WasOrdered unit.node demand place
      by (inl ordered) =
          let (was, stood, at) = ordered_of unit.node.side.misses.demand place ordered in
          let old = (unit_holds d s t unit e.before c.at).holds.node.agrees.demand was place stood at in
          let own = (unit_holds d new t after e.behind now).holds.node.agrees.demand demand place stands is in
          let same : old.request ≡ own.request = same_Some old.request own.request (sym old.at ∙ same_at d s new e place own.request own.at) in
          record {
            was = was;
            stood = stood;
            ordered = at;
            kind = sym old.kind ∙ ap (λ (q : Request). q.kind) same ∙ own.kind;
            line = sym old.line ∙ ap (λ (q : Request). q.line) same ∙ own.line;
          }
      by (inr first) = absurd (let beyond = first.1.beyond in omega (arith, beyond, less))

  -- it goes on having no write to come, where no copy becomes the only one or its count is beyond the place
  pub settled_on : (line place : ℕ)
      → (is_modified (lookup after.node.chip after.node.side.cache line) ≡ true
      → (is_modified (lookup unit.node.chip unit.node.side.cache line) ≡ true) ⊎ (place < after.node.delivered))
      → IsSettled s.network.ordered unit.node line place → IsSettled new.network.ordered after.node line place
  settled_on line place modified is = record {
    delivered = λ g q less at same kind source.
        let was = is.delivered g q less (same_at d s new e g q at) same kind (source ∙ e.places.tiles t unit after c.at now) in omega (arith, was, more);
    demand = λ x g stands ordered kind same. elim (cases_lt g place) [
      | inl less ↦ (
          let own = (unit_holds d new t after e.behind now).holds.node.agrees.demand x g stands ordered in
          let early =
          is.delivered g own.request less (same_at d s new e g own.request own.at) (own.line ∙ same) (own.kind ∙ kind)
          (own.source ∙ e.places.tiles t unit after c.at now) in
          let old = was_ordered x g stands ordered early in
          is.demand old.was g old.stood old.ordered (old.kind ∙ kind) (old.line ∙ same))
      | inr later ↦ later
    ];
    modified = λ only. elim (modified only) [
      | inl was ↦ (let less = is.modified was in omega (arith, less, more))
      | inr less ↦ less
    ];
  }
