-- Data that comes to a tile is what its demand waits for; and what came early is for a get that is ordered.
use Rattle.std.proofs.Common.{◌≡◌, ℕ, ◌≤◌, refl, sym, ◌∙◌, ap, subst, arith, Option, Some, None, List}
use Rattle.std.specs.Prelude.{drop, is_some, slice_get}
use Rattle.std.proofs.lemmas.Option.{same_Some}
use Rattle.mesh_gen.specs.declared.request.Request.{Request}
use Rattle.mesh_gen.specs.Ports.{port_number, count_if}
use Rattle.doc_text.specs.Doc.{Doc}
use Rattle.chip_model.specs.Chip.{chip_of}
use Rattle.chip_model.specs.Misses.{Demand}
use Rattle.chip_model.specs.Units.{UnitState}
use Rattle.chip_model.specs.ChipState.{ChipState}
use Rattle.chip_model.specs.Suppliers.{has_early, is_ordered, answers_to_come}
use Rattle.chip_model.specs.Bookkeeping.{is_get_of}
use Rattle.std.specs.List.{count_by}
use Rattle.chip_model.specs.ChipInvariant.{ProtocolHolds}
use Rattle.reply_net.proofs.Accounts.{received_is}
use Rattle.chip_laws.specs.Meetings.{ArrivalsFit}
use Rattle.chip_laws.proofs.OrderFrames.{holds_at}
use Rattle.chip_laws.proofs.SupplyRoom.{one_answer}
use Rattle.supply_laws.specs.OpenGets.{WaitsFor, DataAnswersGets}
use Rattle.supply_laws.proofs.GetPlaces.{open_place, none_waits}
use Rattle.supply_laws.proofs.OpenGets.{open_get}
use Rattle.supply_laws.proofs.DataKept.{carried_counts}

-- where more is to come to a tile its demand has no early data
wordless : (d : Doc) (s : ChipState) (t : ℕ) (unit : UnitState) (demand : Demand) → ProtocolHolds d s → slice_get s.units t ≡ Some unit → unit.node.side.misses.demand ≡ Some demand
    → 1 ≤ answers_to_come (chip_of d) s t → demand.early ≡ None
wordless d s t unit demand holds at stands some = by demand.early refl where
  by : (o : Option (List ℕ)) → demand.early ≡ o → demand.early ≡ None
  by None is = is
  by (Some words) is =
      let early : count_if (has_early unit.node.side.misses.demand) ≡ 1 = ap (λ (o : Option Demand). count_if (has_early o)) stands ∙ ap (λ (o : Option (List ℕ)). count_if (is_some o)) is in
      absurd (omega (arith, early, some, one_answer d s t unit holds at))

pub arrivals_fit : (d : Doc) (s : ChipState) → ProtocolHolds d s → DataAnswersGets s → ArrivalsFit s
arrivals_fit d s holds answers t port slot unit msg replies at comes has =
    let is = received_is s.replies t port slot (msg, replies) comes in
    let waits = answers.carried t (port_number port) slot msg is.stood has in
    let here = holds_at d s holds t unit at in
    let unit_is : waits.unit ≡ unit = same_Some waits.unit unit (sym waits.unit_at ∙ (ap (slice_get s.units) is.here ∙ at)) in
    let asked = open_get s.network t here.interface unit.node waits.place (holds.network.requests.agree t here.interface here.at) here.holds.node.agrees here.holds.node.fits.side
    (subst (λ (u : UnitState). open_place s.network.ordered u.node ≡ Some waits.place) unit_is waits.waits) in
    let get_is : asked.get ≡ waits.get = same_Some asked.get waits.get (sym asked.at ∙ waits.get_at) in
    let some : 1 ≤ answers_to_come (chip_of d) s t = subst (λ (k : ℕ). 1 ≤ answers_to_come (chip_of d) s k) is.here (carried_counts (chip_of d) s t (port_number port) slot msg is.stood has) in (
      asked.demand,
      asked.stands,
      record {
        line = asked.line ∙ ap (λ (q : Request). q.line) get_is ∙ waits.same;
        sent = asked.sent;
        wordless = wordless d s t unit asked.demand holds at asked.stands some;
      },
    )

-- ---- early data
some_place : (d : Doc) (s : ChipState) (t : ℕ) (unit : UnitState) → ProtocolHolds d s → slice_get s.units t ≡ Some unit → 1 ≤ count_if (has_early unit.node.side.misses.demand)
    → (place : ℕ) × (open_place s.network.ordered unit.node ≡ Some place)
some_place d s t unit holds at early = by (open_place s.network.ordered unit.node) refl where
  by : (o : Option ℕ) → open_place s.network.ordered unit.node ≡ o → (place : ℕ) × (open_place s.network.ordered unit.node ≡ Some place)
  by (Some place) is = (place, is)
  by None none =
      let here = holds_at d s holds t unit at in
      let waits = none_waits s.network.ordered unit.node none in
      let unordered : count_if (is_ordered unit.node.side.misses.demand) ≡ 0 = ap count_if waits.unordered in
      let few : count_by (is_get_of t) (drop unit.node.delivered s.network.ordered) ≡ 0 =
      ap (λ (k : ℕ). count_by (is_get_of k) (drop unit.node.delivered s.network.ordered)) (sym here.holds.node.agrees.tile) ∙ waits.undelivered in
      absurd (omega (arith, early, unordered, few, here.holds.serves.supplied))

-- it came for the get that its demand has on its way, which is ordered
pub early_waits : (d : Doc) (s : ChipState) (t : ℕ) (unit : UnitState) (demand : Demand) (words : List ℕ) → ProtocolHolds d s → slice_get s.units t ≡ Some unit
    → unit.node.side.misses.demand ≡ Some demand → demand.early ≡ Some words → WaitsFor s t demand.line
early_waits d s t unit demand words holds at stands early =
    let here = holds_at d s holds t unit at in
    let one : count_if (has_early unit.node.side.misses.demand) ≡ 1 = ap (λ (o : Option Demand). count_if (has_early o)) stands ∙ ap (λ (o : Option (List ℕ)). count_if (is_some o)) early in
    let waits = some_place d s t unit holds at (omega (arith, one)) in
    let agrees = holds.network.requests.agree t here.interface here.at in
    let asked = open_get s.network t here.interface unit.node waits.0 agrees here.holds.node.agrees here.holds.node.fits.side waits.1 in
    let same : demand ≡ asked.demand = same_Some demand asked.demand (sym stands ∙ asked.stands) in
    record {
      unit = unit;
      unit_at = at;
      place = waits.0;
      waits = waits.1;
      get = asked.get;
      get_at = asked.at;
      same = sym asked.line ∙ ap (λ (x : Demand). x.line) (sym same);
    }
