-- Where nothing is on its way, no demand is ordered: of the tiles whose get is ordered and not complete take the one whose get
-- stands first; it could only be answered from the list of a demand that stands before it.
use Rattle.std.proofs.Common.{◌≡◌, ℕ, zero, suc, ◌+◌, ◌<◌, ◌≤◌, Bool, true, false, List, [], ◌∷◌, Option, Some, None, length, take, refl, sym, ◌∙◌, ap, subst, arith}
use Rattle.std.specs.Prelude.{slice_get, ◌&&◌, ◌==◌, not, count_by, if◌then◌else◌}
use Rattle.std.specs.List.{sum_by}
use Rattle.std.proofs.lemmas.Bool.{eqb-true}
use Rattle.std.proofs.lemmas.Option.{get_or_from_slice_get}
use Rattle.mesh_gen.specs.declared.kind.Kind.TheVariants.{GetM}
use Rattle.mesh_gen.specs.declared.request.Request.{Request}
use Rattle.mesh_gen.specs.Ports.{count_if}
use Rattle.report_text.specs.declared.access.AccessKind.{AccessKind}
use Rattle.report_text.specs.declared.access.AccessKind.TheVariants.{Load, Store, Swap, Add}
use Rattle.doc_text.specs.Doc.{Doc}
use Rattle.chip_model.specs.declared.waiting.Waiting.{Waiting}
use Rattle.chip_model.specs.Chip.{Chip, chip_of}
use Rattle.chip_model.specs.Cache.{Cache}
use Rattle.chip_model.specs.Misses.{Demand, is_getm, request_for}
use Rattle.chip_model.specs.Records.{LineRecord}
use Rattle.chip_model.specs.Units.{UnitState}
use Rattle.chip_model.specs.ChipState.{ChipState}
use Rattle.chip_model.specs.NodeShape.{DemandFits}
use Rattle.chip_model.specs.Bookkeeping.{is_get, between, gets_of_others, up_to_getm, waiting_for, IsOrderedAt}
use Rattle.chip_model.specs.Suppliers.{is_to_come, is_data_for, places_in, places_after, places_at, promised_by, has_early, is_ordered, place_of_ordered, place_of_get}
use Rattle.chip_model.specs.ChipInvariant.{UnitHolds}
use Rattle.chip_laws.proofs.OrderFrames.{HoldsAt, holds_at}
use Rattle.chip_laws.proofs.OrderLists.{get_take}
use Rattle.supply_laws.proofs.GetPlaces.{get_drop}
use Rattle.supply_laws.proofs.LastPlaces.{count_none}
use Rattle.flow_laws.proofs.ListSums.{kept_passes, sum_some, sum_none, count_some}
use Rattle.progress_laws.proofs.QuietStates.{IsQuiet, none_to_come, no_data, no_waiters}

-- ---- who waits in the list of a demand stands behind it in the order
pub record StandsLater (s : ChipState) (t line g : ℕ) : Type 0 where
  pub place : ℕ
  pub request : Request
  pub there : slice_get s.network.ordered place ≡ Some request
  pub later : g < place
  pub source : request.source ≡ t
  pub line_is : request.line ≡ line
  pub get : is_get request.kind ≡ true

-- what stands among the requests up to the first GetM stands in the list
record StandsIn (requests : List Request) (q : Request) : Type 0 where
  place : ℕ
  there : slice_get requests place ≡ Some q

in_front : (requests : List Request) (k : ℕ) (q : Request) → slice_get (up_to_getm requests) k ≡ Some q → StandsIn requests q
in_front [] k q there = cc
in_front (first ∷ requests) k q there = by (is_getm first.kind) k (λ j is. in_front requests j q is) there
  where
    first_is : first ≡ q → StandsIn (first ∷ requests) q
    first_is same = record { place = 0; there = ap Some same }

    by : (b : Bool) (k : ℕ) → ((j : ℕ) → slice_get (up_to_getm requests) j ≡ Some q → StandsIn requests q) → slice_get (if b then first ∷ [] else first ∷ up_to_getm requests) k ≡ Some q
        → StandsIn (first ∷ requests) q
    by true zero rest there = first_is (cc)
    by true (suc k) rest there = cc
    by false zero rest there = first_is (cc)
    by false (suc k) rest there = let below = rest k there in record { place = suc below.place; there = below.there }

waits_for : (requests : List Request) (k : ℕ) (w : Waiting) → slice_get (waiting_for requests) k ≡ Some w → (q : Request) × (slice_get requests k ≡ Some q) × (q.source ≡ w.tile)
waits_for [] k w there = cc
waits_for (q ∷ requests) zero w there = (q, refl, (let same : record { tile = q.source; kind = q.kind } ≡ w = cc in ap (λ (x : Waiting). x.tile) same))
waits_for (q ∷ requests) (suc k) w there = waits_for requests k w there

first_two : (a b c : Bool) → (a && b && c) ≡ true → (a ≡ true) × (b ≡ true)
first_two true true c all = (refl, refl)
first_two true false c all = cc
first_two false b c all = cc

-- what stands between two places stands in the order
among : (ordered : List Request) (place below k : ℕ) (q : Request) → slice_get (between place below ordered) k ≡ Some q → slice_get ordered (place + 1 + k) ≡ Some q
among ordered place below k q there = get_take ordered below (place + 1 + k) q (sym (get_drop (take below ordered) (place + 1) k) ∙ there)

stands_later : (s : ChipState) (t u line g delivered : ℕ) → 0 < places_in t (waiting_for (up_to_getm (gets_of_others u line (between g delivered s.network.ordered)))) → StandsLater s t line g
stands_later s t u line g delivered some =
    let one = count_some (λ (w : Waiting). w.tile == t) (waiting_for (up_to_getm (gets_of_others u line (between g delivered s.network.ordered)))) some in
    let q = waits_for (up_to_getm (gets_of_others u line (between g delivered s.network.ordered))) one.place one.item one.there in
    let front = in_front (gets_of_others u line (between g delivered s.network.ordered)) one.place q.0 q.1 in
    let kept = kept_passes (λ (q : Request). is_get q.kind && (q.line == line) && not (q.source == u)) (between g delivered s.network.ordered) front.place q.0 front.there in
    let parts = first_two (is_get q.0.kind) (q.0.line == line) (not (q.0.source == u)) kept.passes in
    record {
      place = g + 1 + kept.place;
      request = q.0;
      there = among s.network.ordered g delivered kept.place q.0 kept.there;
      later = omega arith;
      source = q.2 ∙ eqb-true one.item.tile t one.passes;
      line_is = eqb-true q.0.line line parts.1;
      get = parts.0;
    }

-- ---- a demand that is ordered
pub record WaitsFrom (s : ChipState) (t : ℕ) (unit : UnitState) (g : ℕ) : Type 0 where
  pub there : slice_get s.units t ≡ Some unit
  pub demand : Demand
  pub is : unit.node.side.misses.demand ≡ Some demand
  pub ordered : demand.ordered ≡ Some g

waits_by : (demand : Option Demand) (g : ℕ) → place_of_ordered demand ≡ Some g → (one : Demand) × (demand ≡ Some one) × (one.ordered ≡ Some g)
waits_by None g is = cc
waits_by (Some demand) g is = (demand, refl, is)

pub waits_from : (s : ChipState) (t : ℕ) (unit : UnitState) (g : ℕ) → slice_get s.units t ≡ Some unit → place_of_ordered unit.node.side.misses.demand ≡ Some g → WaitsFrom s t unit g
waits_from s t unit g there is = let one = waits_by unit.node.side.misses.demand g is in record { there = there; demand = one.0; is = one.1; ordered = one.2 }

open_place : (s : ChipState) (t : ℕ) (unit : UnitState) (g : ℕ) → WaitsFrom s t unit g → place_of_get s unit.node ≡ Some g
open_place s t unit g waits = rw (waits.is, waits.ordered) refl

-- ---- its get is promised by some unit
some_promise : {d : Doc} {s : ChipState} → IsQuiet d s → (t : ℕ) (unit : UnitState) (g : ℕ) → WaitsFrom s t unit g → 0 < sum_by (promised_by t) s.units
some_promise {d} {s} quiet t unit g waits =
    let here = (holds_at d s quiet.holds t unit waits.there).holds in
    let fits = here.node.fits.side.demand waits.demand waits.is in
    let early : has_early unit.node.side.misses.demand ≡ false = rw (waits.is, fits.waits (rw waits.ordered refl)) refl in
    let ordered : is_ordered unit.node.side.misses.demand ≡ true = rw (waits.is, waits.ordered) refl in
    let supplied = here.serves.supplied in
    let no_early = ap count_if early in
    let is_one = ap count_if ordered in
    let channels = no_data quiet t in
    let coming = count_none (is_to_come (chip_of d) s t) 0 (length s.network.ordered) (λ place above below. none_to_come quiet t place (omega (arith, below))) in
    omega arith

-- ---- and that is by a demand that stands before it
pub record PromisedBefore (s : ChipState) (t g : ℕ) : Type 0 where
  pub tile : ℕ
  pub unit : UnitState
  pub place : ℕ
  pub waits : WaitsFrom s tile unit place
  pub before : place < g

nobody_listed : (t : ℕ) (list : List Waiting) → list ≡ [] → places_in t list ≡ 0
nobody_listed t list empty = ap (places_in t) empty

none_at_home : {d : Doc} {s : ChipState} → IsQuiet d s → (t u : ℕ) (unit : UnitState) → slice_get s.units u ≡ Some unit → sum_by (places_at t) unit.node.records ≡ 0
none_at_home quiet t u unit there = sum_none (places_at t) unit.node.records (λ line found is. by line found is)
  where
    by : (line : ℕ) (found : Option LineRecord) → slice_get unit.node.records line ≡ Some found → places_at t found ≡ 0
    by line None is = refl
    by line (Some r) is = nobody_listed t r.waiters (no_waiters quiet u unit there line r (get_or_from_slice_get unit.node.records line (Some r) None is))

is_write : {chip : Chip} {cache : Cache} (t : ℕ) (demand : Demand) → DemandFits chip cache demand → 0 < places_in t demand.list → demand.kind ≡ GetM
is_write t demand fits some = by demand.pending.kind fits.asks
  where
    by : (kind : AccessKind) → demand.kind ≡ request_for kind → demand.kind ≡ GetM
    by Load is = absurd (let none = nobody_listed t demand.list (fits.reads is) in omega arith)
    by Store is = is
    by Swap is = is
    by Add is = is

promised_by_demand : {d : Doc} {s : ChipState} → IsQuiet d s → (t : ℕ) (unit : UnitState) (g : ℕ) → WaitsFrom s t unit g → (u : ℕ) (other : UnitState) → slice_get s.units u ≡ Some other
    → (demand : Demand) → other.node.side.misses.demand ≡ Some demand → 0 < places_in t demand.list → PromisedBefore s t g
promised_by_demand {d} {s} quiet t unit g waits u other other_there demand demand_is some = by demand.ordered refl
  where
    there_too : HoldsAt d s u other
    there_too = holds_at d s quiet.holds u other other_there

    at_u : UnitHolds d s u there_too.interface other
    at_u = there_too.holds

    fits : DemandFits other.node.chip other.node.side.cache demand
    fits = at_u.node.fits.side.demand demand demand_is

    write : demand.kind ≡ GetM
    write = is_write t demand fits some

    later : (place : ℕ) → demand.ordered ≡ Some place → StandsLater s t demand.line place
    later place is =
        let followed = at_u.node.followed demand place demand_is is in
        stands_later s t other.node.tile demand.line place other.node.delivered (subst (λ (list : List Waiting). 0 < places_in t list) (followed.list write) some)

    same_place : (a b : ℕ) → ◌≡◌ {A = Option ℕ} (Some a) (Some b) → a ≡ b
    same_place a b same = cc

    before : (place : ℕ) → demand.ordered ≡ Some place → place < g
    before place is =
        let get = later place is in
        let mine : IsOrderedAt s.network.ordered other.node demand place = at_u.node.agrees.demand demand place demand_is is in
        let own : WaitsFrom s u other place = record { there = other_there; demand = demand; is = demand_is; ordered = is } in
        let source : mine.request.source ≡ u = mine.source ∙ at_u.node.agrees.tile in
        let open_at = (quiet.holds.wait demand.line).after_write place get.place mine.request get.request other get.later mine.at (mine.kind ∙ write) mine.line
        (ap (slice_get s.units) source ∙ other_there) (open_place s u other place own) get.there get.get get.line_is unit (ap (slice_get s.units) get.source ∙ waits.there)
        in
        let same : get.place ≡ g = same_place get.place g (sym open_at ∙ open_place s t unit g waits) in
        omega (arith, get.later)

    by : (found : Option ℕ) → demand.ordered ≡ found → PromisedBefore s t g
    by None is = absurd (let none = nobody_listed t demand.list (fits.unordered is).0 in omega arith)
    by (Some place) is = record { tile = u; unit = other; place = place; waits = record { there = other_there; demand = demand; is = demand_is; ordered = is }; before = before place is }

promised_before : {d : Doc} {s : ChipState} → IsQuiet d s → (t : ℕ) (unit : UnitState) (g : ℕ) → WaitsFrom s t unit g → PromisedBefore s t g
promised_before {d} {s} quiet t unit g waits =
    let one = sum_some (promised_by t) s.units (some_promise quiet t unit g waits) in
    by one.place one.item one.there one.item.node.side.misses.demand refl
    (let queue : count_by (is_data_for t) one.item.node.out ≡ 0 = ap (count_by (is_data_for t)) (quiet.queues one.place one.item one.there) in
    let records = none_at_home quiet t one.place one.item one.there in
    omega (arith, one.some))
  where
    by : (u : ℕ) (other : UnitState) → slice_get s.units u ≡ Some other → (demand : Option Demand) → other.node.side.misses.demand ≡ demand → 0 < places_after t other.node.side.misses.demand
        → PromisedBefore s t g
    by u other there None is some = absurd (let none = ap (places_after t) is in omega arith)
    by u other there (Some demand) is some = promised_by_demand quiet t unit g waits u other there demand is (subst (λ (one : Option Demand). 0 < places_after t one) is some)

-- ---- so none is ordered
pub no_demand_is_ordered : {d : Doc} {s : ChipState} → IsQuiet d s → (t : ℕ) (unit : UnitState) (g : ℕ) → WaitsFrom s t unit g → ⊥
no_demand_is_ordered {d} {s} quiet t unit g waits = descend g t unit g (omega arith) waits
  where
    descend : (bound : ℕ) (t : ℕ) (unit : UnitState) (g : ℕ) → g ≤ bound → WaitsFrom s t unit g → ⊥
    descend zero t unit g below waits = let by = promised_before quiet t unit g waits in omega (arith, by.before)
    descend (suc bound) t unit g below waits = let by = promised_before quiet t unit g waits in descend bound by.tile by.unit by.place (omega (arith, by.before)) by.waits
