-- Where nothing is on its way, a node that wants no request to be sent waits for nothing.
use Rattle.std.proofs.Common.{◌≡◌, ℕ, Bool, true, false, List, [], ◌∷◌, Option, Some, None, drop, refl, ap, subst, arith}
use Rattle.std.specs.Prelude.{slice_get, is_some, is_none, ◌&&◌, not, if◌then◌else◌}
use Rattle.std.proofs.lemmas.List.{take_all, drop_all}
use Rattle.mesh_gen.specs.declared.kind.Kind.{Kind}
use Rattle.mesh_gen.specs.declared.kind.Kind.TheVariants.{PutM}
use Rattle.mesh_gen.specs.declared.request.Request.{Request}
use Rattle.doc_text.specs.Doc.{Doc}
use Rattle.mesh_gen.specs.Partial.{when}
use Rattle.chip_model.specs.Misses.{Demand, WriteBack, wanted, wanted_by, wanted_by_demand}
use Rattle.chip_model.specs.Node.{waits_for_any}
use Rattle.chip_model.specs.Units.{UnitState}
use Rattle.chip_model.specs.ChipState.{ChipState}
use Rattle.chip_model.specs.Ownership.{delivered_to}
use Rattle.chip_model.specs.Bookkeeping.{count_by_tile, IsOutstanding, outstanding_get, outstanding_put}
use Rattle.chip_model.specs.Suppliers.{place_of_ordered}
use Rattle.chip_laws.proofs.OrderFrames.{holds_at}
use Rattle.progress_laws.proofs.QuietStates.{IsQuiet, delivered_all}
use Rattle.progress_laws.proofs.AnsweredGets.{waits_from, no_demand_is_ordered}

-- ---- every request of the tile was delivered to it
nothing_outstanding : {d : Doc} {s : ChipState} → IsQuiet d s → (t : ℕ) (unit : UnitState) → slice_get s.units t ≡ Some unit → IsOutstanding [] unit.node.side.misses
nothing_outstanding {d} {s} quiet t unit there =
    let here = holds_at d s quiet.holds t unit there in
    let whole : delivered_to s.network.ordered unit.node ≡ s.network.ordered = take_all unit.node.delivered s.network.ordered (omega (arith, delivered_all quiet t unit there)) in
    let count = ap (count_by_tile t) whole in
    let none : drop (count_by_tile t (delivered_to s.network.ordered unit.node)) here.interface.made ≡ [] =
    drop_all _ here.interface.made (omega (arith, count, quiet.requests.ordered t here.interface here.at))
    in
    subst (λ (rest : List Request). IsOutstanding rest unit.node.side.misses) none here.holds.node.agrees.under_way

-- ---- so a write-back was not sent, and a demand neither sent nor ordered: it would be wanted
no_back : (demand : Option Demand) (back : Option WriteBack) → [] ≡ outstanding_put back → is_some (wanted_by demand back) ≡ false → back ≡ None
no_back demand None puts unwanted = refl
no_back demand (Some back) puts unwanted = by back.sent puts unwanted
  where
    by : (is_sent : Bool) → ◌≡◌ {A = List (Kind × ℕ)} [] (if is_sent then (PutM, back.line) ∷ [] else [])
        → is_some {T = Kind × ℕ} (if is_sent then wanted_by_demand demand else Some (PutM, back.line)) ≡ false
        → ◌≡◌ {A = Option WriteBack} (Some back) None
    by false puts unwanted = cc
    by true puts unwanted = cc

no_demand : (demand : Option Demand) → [] ≡ outstanding_get demand → is_some (wanted_by_demand demand) ≡ false → place_of_ordered demand ≡ None → demand ≡ None
no_demand None gets unwanted unordered = refl
no_demand (Some demand) gets unwanted unordered = by demand.sent demand.ordered gets unwanted unordered
  where
    by : (is_sent : Bool) (ordered : Option ℕ) → ◌≡◌ {A = List (Kind × ℕ)} [] (if is_sent && is_none ordered then (demand.kind, demand.line) ∷ [] else [])
        → is_some {T = Kind × ℕ} (when (not is_sent) (Some (demand.kind, demand.line))) ≡ false → ordered ≡ None → ◌≡◌ {A = Option Demand} (Some demand) None
    by false ordered gets unwanted unordered = cc
    by true None gets unwanted unordered = cc
    by true (Some place) gets unwanted unordered = cc

not_ordered : {d : Doc} {s : ChipState} → IsQuiet d s → (t : ℕ) (unit : UnitState) → slice_get s.units t ≡ Some unit → place_of_ordered unit.node.side.misses.demand ≡ None
not_ordered {s = s} quiet t unit there = by (place_of_ordered unit.node.side.misses.demand) refl
  where
    by : (found : Option ℕ) → place_of_ordered unit.node.side.misses.demand ≡ found → place_of_ordered unit.node.side.misses.demand ≡ None
    by None is = is
    by (Some g) is = absurd (no_demand_is_ordered quiet t unit g (waits_from s t unit g there is))

pub waits_for_nothing : {d : Doc} {s : ChipState} → IsQuiet d s → (t : ℕ) (unit : UnitState) → slice_get s.units t ≡ Some unit → is_some (wanted unit.node.side.misses) ≡ false
    → waits_for_any unit.node ≡ false
unfolding wanted
waits_for_nothing quiet t unit there unwanted =
    let outstanding = nothing_outstanding quiet t unit there in
    let back : unit.node.side.misses.back ≡ None = no_back unit.node.side.misses.demand unit.node.side.misses.back outstanding.puts unwanted in
    let demand : unit.node.side.misses.demand ≡ None =
    no_demand unit.node.side.misses.demand outstanding.gets
    (subst (λ (o : Option WriteBack). is_some (wanted_by unit.node.side.misses.demand o) ≡ false) back unwanted) (not_ordered quiet t unit there)
    in
    rw (demand, back) refl
