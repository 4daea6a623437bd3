-- What a step of the cache side does to what its unit has still to do: the words that it promised are sent, and a core whose
-- access is done goes on.
use Rattle.std.proofs.Common.{◌≡◌, ℕ, ◌+◌, ◌-◌, ◌<◌, ◌≤◌, Bool, false, cond, List, [], ◌∷◌, Option, Some, None, refl, sym, ap, arith}
use Rattle.std.specs.Prelude.{is_some}
use Rattle.std.proofs.lemmas.Bool.{cond_both}
use Rattle.std.proofs.lemmas.List.Sums.{sum_by-cons}
use Rattle.mesh_gen.specs.declared.msg.Msg.{Msg}
use Rattle.mesh_gen.specs.Grid.{Grid, distance, x_of, y_of}
use Rattle.mesh_gen.specs.Routes.{HasTiles}
use Rattle.mesh_gen.proofs.Coordinates.{x_below, y_below}
use Rattle.core_isa.specs.Core.{effect_of, instr_at}
use Rattle.chip_model.specs.declared.done.Done.{Done}
use Rattle.chip_model.specs.declared.waiting.Waiting.{Waiting}
use Rattle.chip_model.specs.Chip.{Chip, tile_count}
use Rattle.chip_model.specs.Cache.{Cache}
use Rattle.chip_model.specs.Misses.{Demand, is_getm}
use Rattle.chip_model.specs.Snoop.{CacheSide, Outcome, quiet, with_demand, with_cache, done_by, data_to, data_to_all, written_by, completed, completed_load, completed_store, data_at, data_for, after_data}
use Rattle.chip_model.specs.Node.{with_side}
use Rattle.chip_model.specs.Units.{UnitState, performed, access_of}
use Rattle.chip_model.specs.UnitShape.{IsAccess}
use Rattle.bound_laws.specs.Measure.{per_answer, per_request, sends_to_go, promises_to_go, demand_promises, unsent_demand, unsent_to_go, next_to_go, core_to_go}
use Rattle.bound_laws.proofs.CoreToGo.{TakesAll, core_goes_on, core_side, access_done}

-- ---- what the words for a tile cost
apart_below : (a b n : ℕ) → a + 1 ≤ n → b + 1 ≤ n → (a - b) + (b - a) ≤ n - 1
apart_below a b n first second = omega arith

pub near : (chip : Chip) (t u : ℕ) → HasTiles chip.grid → t < tile_count chip → u < tile_count chip → 2 + distance chip.grid t u ≤ per_answer chip
near chip t u some from to =
    let g = chip.grid in
    let across = apart_below (x_of g t) (x_of g u) g.cols (omega (arith, x_below g t some)) (omega (arith, x_below g u some)) in
    let down = apart_below (y_of g t) (y_of g u) g.rows (omega (arith, y_below g t some from)) (omega (arith, y_below g u some to)) in
    omega arith

-- ---- what a side has still to do, beside its core
abbrev pub side_to_go : Chip → ℕ → CacheSide → ℕ
side_to_go chip t side = unsent_to_go chip side.misses + demand_promises chip.grid t side.misses.demand

-- the unit after a step of its side
abbrev pub unit_with : UnitState → Outcome → UnitState
unit_with unit outcome = (performed unit (with_side outcome.side unit.node, outcome.done)).0

-- with what is sent, a step leaves no more than before and so much
pub record SideGrows (unit : UnitState) (outcome : Outcome) (more : ℕ) : Type 0 where
  pub grows : side_to_go unit.node.chip unit.node.tile outcome.side + sends_to_go unit.node.chip.grid unit.node.tile outcome.sends + core_to_go unit.node.chip
      (unit_with unit outcome)
      ≤ side_to_go unit.node.chip unit.node.tile unit.node.side + core_to_go unit.node.chip unit + more

-- a step by which no access is done
pub side_stays : (unit : UnitState) (side : CacheSide) (sends : List Msg) (more : ℕ) → is_some side.misses.demand ≡ is_some unit.node.side.misses.demand
    → TakesAll unit.node.chip unit.node.side.cache side.cache
    → side_to_go unit.node.chip unit.node.tile side + sends_to_go unit.node.chip.grid unit.node.tile sends
    ≤ side_to_go unit.node.chip unit.node.tile unit.node.side + more
    → SideGrows unit (record { side = side; sends = sends; done = None }) more
side_stays unit side sends more same takes less = record { grows = let core = core_side unit.node.chip unit side same takes in omega arith }

-- ---- words that are sent to all that wait
pub sent_to_all : (g : Grid) (t line : ℕ) (words : List ℕ) (list : List Waiting) → sends_to_go g t (data_to_all line words list) ≡ promises_to_go g t list
sent_to_all g t line words [] = refl
sent_to_all g t line words (waiting ∷ list) =
    let rest = sent_to_all g t line words list in
    omega (
      arith,
      sum_by-cons (λ (msg : Msg). 2 + distance g t msg.to) (data_to waiting.tile line words) (data_to_all line words list),
      sum_by-cons (λ (waiting : Waiting). 2 + distance g t waiting.tile) waiting list,
    )

-- ---- a demand that completes
-- what is known of a demand of an in-order core
pub record DemandWaits (unit : UnitState) (demand : Demand) : Type 0 where
  pub running : unit.halted ≡ false
  pub access : IsAccess unit.node.chip demand.pending (effect_of (instr_at unit.program unit.core.place) unit.core)

abbrev pub Waits : UnitState → Type 0
Waits unit = (demand : Demand) → unit.node.side.misses.demand ≡ Some demand → DemandWaits unit demand

pub completes : (unit : UnitState) (demand : Demand) (place : ℕ) (words : List ℕ) → Waits unit → unit.node.side.misses.demand ≡ Some demand
    → SideGrows unit (completed unit.node.chip demand place words unit.node.side) 0
completes unit demand place words waits stands =
    cond_both (is_getm demand.kind) (completed_store chip demand place words side) (completed_load chip demand place words side)
    (λ outcome. SideGrows unit outcome 0)
    (λ writes. record {
      grows =
          let core = goes_on (completed_store chip demand place words side).side in
          let promised = ap (demand_promises chip.grid t) stands in
          omega (arith, sent_to_all chip.grid t demand.line (written_by demand.pending words) demand.list);
    })
    (λ reads. record { grows = let core = goes_on (completed_load chip demand place words side).side in omega arith })
  where
    chip : Chip
    chip = unit.node.chip

    t : ℕ
    t = unit.node.tile

    side : CacheSide
    side = unit.node.side

    done : Done
    done = done_by demand.pending (place + 1) words

    goes_on : (after : CacheSide)
        → core_to_go chip (unit_with unit (record { side = after; sends = []; done = Some done })) + next_to_go chip unit ≤ core_to_go chip unit
    goes_on after =
        let known = waits demand stands in
        let at = access_done chip unit.program unit.core demand.pending known.access in
        core_goes_on chip unit (unit_with unit (record { side = after; sends = []; done = Some done })) known.running refl at.inside
        (let moved = at.place (access_of unit done) refl in omega arith)

-- the demand becomes another one, for which at most so much more is to be sent
pub demand_changes : (unit : UnitState) (old new : Demand) (cache : Cache) (more : ℕ) → unit.node.side.misses.demand ≡ Some old
    → TakesAll unit.node.chip unit.node.side.cache cache
    → new.sent ≡ old.sent → promises_to_go unit.node.chip.grid unit.node.tile new.list ≤ promises_to_go unit.node.chip.grid unit.node.tile old.list + more
    → SideGrows unit (quiet (with_demand (Some new) (with_cache cache unit.node.side))) more
demand_changes unit old new cache more stands takes sent promised =
    let unsent = ap (unsent_demand unit.node.chip) stands in
    let same = ap (λ (b : Bool). cond {A = ℕ} b 0 (per_request unit.node.chip)) sent in
    let before = ap (demand_promises unit.node.chip.grid unit.node.tile) stands in
    side_stays unit (with_demand (Some new) (with_cache cache unit.node.side)) [] more (sym (ap is_some stands)) takes (omega arith)

-- words come for the demand
pub words_come : (unit : UnitState) (words : List ℕ) → Waits unit → SideGrows unit (after_data unit.node.chip unit.node.side words) 0
unfolding after_data
words_come unit words waits = by unit.node.side.misses.demand refl
  where
    at : (demand : Demand) (ordered : Option ℕ) → unit.node.side.misses.demand ≡ Some demand
        → SideGrows unit (data_at unit.node.chip unit.node.side words demand ordered) 0
    at demand (Some place) stands = completes unit demand place words waits stands
    at demand None stands =
        demand_changes unit demand (record demand { early = Some words }) unit.node.side.cache 0 stands (λ line fits. fits) refl (omega arith)

    by : (entry : Option Demand) → unit.node.side.misses.demand ≡ entry → SideGrows unit (data_for unit.node.chip unit.node.side words entry) 0
    by None is = side_stays unit unit.node.side [] 0 refl (λ line fits. fits) (omega arith)
    by (Some demand) is = at demand demand.ordered is
