-- A request that is delivered to the cache side adds at most one answer to what its unit has still to do, and that only where
-- the node owns the line and the request is a get or the own write-back.
use Rattle.std.proofs.Common.{◌≡◌, ℕ, ◌+◌, ◌<◌, ◌≤◌, Bool, true, false, cond, List, [], ◌∷◌, ◌++◌, Option, Some, None, refl, sym, ◌∙◌, ap, arith, eq-eqb, eqb-true, subst}
use Rattle.std.specs.Prelude.{is_some, ◌==◌, ◌||◌, if◌then◌else◌}
use Rattle.std.proofs.lemmas.Bool.{cond_both}
use Rattle.std.proofs.lemmas.Option.{same_Some}
use Rattle.std.proofs.lemmas.List.Sums.{sum_by_push}
use Rattle.mesh_gen.specs.declared.kind.Kind.{Kind}
use Rattle.mesh_gen.specs.declared.kind.Kind.TheVariants.{GetS, GetM, PutM}
use Rattle.mesh_gen.specs.declared.msg_kind.MsgKind.TheVariants.{Back}
use Rattle.mesh_gen.specs.declared.request.Request.{Request}
use Rattle.mesh_gen.specs.Grid.{distance}
use Rattle.mesh_gen.specs.Routes.{HasTiles}
use Rattle.chip_model.specs.declared.line_state.State.TheVariants.{O}
use Rattle.chip_model.specs.declared.waiting.Waiting.{Waiting}
use Rattle.chip_model.specs.Chip.{Chip, tile_count, home}
use Rattle.chip_model.specs.Cache.{Cache, lookup, without_line}
use Rattle.chip_model.specs.Misses.{Demand, WriteBack}
use Rattle.chip_model.specs.Snoop.{CacheSide, Outcome, Holding, OwnedCopy, LiveBack, OpenWrite, OpenRead, SharedCopy, Nothing, quiet, supplies, line_gone, made_owned, stale_back, made_stale, deferred_to_demand, with_back, with_cache, holding, snooped_with, data_to, words_here, ordered_with, own_get, own_put, own_request, after_snoop}
use Rattle.chip_model.specs.Units.{UnitState}
use Rattle.chip_model.specs.Ownership.{is_owned_copy, is_live_back, is_open_write, owns}
use Rattle.snoop_core.specs.Requests.{MeetsOwn, OwnRequestFits}
use Rattle.snoop_core.proofs.CacheMaps.{fits-without_line, fits-installed}
use Rattle.snoop_core.proofs.HoldingCases.{holding_forms, ordered_is}
use Rattle.chip_laws.proofs.SupplySends.{is_owned_holding, owns_holding}
use Rattle.mesh_gen.specs.Limits.{AreTiles}
use Rattle.chip_laws.proofs.NodeMessages.{home_inside}
use Rattle.bound_laws.specs.Measure.{per_answer, demand_promises, unsent_demand, unsent_back, unsent_to_go}
use Rattle.bound_laws.proofs.CoreToGo.{TakesAll}
use Rattle.bound_laws.proofs.SideSteps.{near, SideGrows, side_stays, Waits, completes, demand_changes}

-- ---- the own request
own_get_comes : (unit : UnitState) (place : ℕ) → Waits unit → SideGrows unit (own_get unit.node.chip unit.node.side place unit.node.side.misses.demand) 0
own_get_comes unit place waits = by unit.node.side.misses.demand refl
  where
    ordered : (demand : Demand) (words : Option (List ℕ)) → unit.node.side.misses.demand ≡ Some demand
        → SideGrows unit (ordered_with unit.node.chip unit.node.side place demand words) 0
    ordered demand (Some words) stands = completes unit demand place words waits stands
    ordered demand None stands =
        demand_changes unit demand (record demand { ordered = Some place }) unit.node.side.cache 0 stands (λ line fits. fits) refl (omega arith)

    by : (entry : Option Demand) → unit.node.side.misses.demand ≡ entry → SideGrows unit (own_get unit.node.chip unit.node.side place entry) 0
    by None is = side_stays unit unit.node.side [] 0 refl (λ line fits. fits) (omega arith)
    by (Some demand) is = ordered demand (words_here unit.node.chip unit.node.side demand demand.early) is

-- where a unit's tile and the tiles of its messages stand
pub record IsInside (unit : UnitState) : Type 0 where
  pub tiles : HasTiles unit.node.chip.grid
  pub tile : unit.node.tile < tile_count unit.node.chip
  pub controllers : AreTiles (tile_count unit.node.chip) unit.node.chip.controllers

-- the write-back sends its words to the home of its line where its node owns the line
own_put_comes : (unit : UnitState) (line : ℕ) → IsInside unit → ((back : WriteBack) → unit.node.side.misses.back ≡ Some back → back.line ≡ line)
    → SideGrows unit (own_put unit.node.chip unit.node.side unit.node.side.misses.back)
    (cond (is_live_back line unit.node.side.misses.back) (per_answer unit.node.chip) 0)
own_put_comes unit line inside of = by unit.node.side.misses.back refl
  where
    sent : (back : WriteBack) (live : Bool) → SideGrows unit
        (record {
          side = with_back None unit.node.side;
          sends = if live then record { to = home unit.node.chip back.line; kind = Back; line = back.line; words = back.words } ∷ [] else [];
          done = None;
        })
        (cond live (per_answer unit.node.chip) 0)
    sent back true =
        side_stays unit (with_back None unit.node.side)
        (record { to = home unit.node.chip back.line; kind = Back; line = back.line; words = back.words } ∷ []) (per_answer unit.node.chip) refl
        (λ l fits. fits)
        (let far =
        near unit.node.chip unit.node.tile (home unit.node.chip back.line) inside.tiles inside.tile
        (home_inside unit.node.chip back.line inside.controllers) in omega arith)
    sent back false = side_stays unit (with_back None unit.node.side) [] 0 refl (λ l fits. fits) (omega arith)

    by : (entry : Option WriteBack) → unit.node.side.misses.back ≡ entry
        → SideGrows unit (own_put unit.node.chip unit.node.side entry) (cond (is_live_back line entry) (per_answer unit.node.chip) 0)
    by None is = side_stays unit unit.node.side [] 0 refl (λ l fits. fits) (omega arith)
    by (Some back) is = rw (eq-eqb back.line line (of back is)) (sent back back.live)

-- ---- the request of another tile
-- one message to the tile that asked
supplies_costs : (unit : UnitState) (q : Request) (words : List ℕ) (side : CacheSide) → IsInside unit → q.source < tile_count unit.node.chip
    → unsent_to_go unit.node.chip side.misses ≡ unsent_to_go unit.node.chip unit.node.side.misses → side.misses.demand ≡ unit.node.side.misses.demand
    → TakesAll unit.node.chip unit.node.side.cache side.cache → SideGrows unit (supplies q words side) (per_answer unit.node.chip)
supplies_costs unit q words side inside source unsent demand takes =
    side_stays unit side (data_to q.source q.line words ∷ []) (per_answer unit.node.chip) (ap is_some demand) takes
    (let far = near unit.node.chip unit.node.tile q.source inside.tiles inside.tile source in
    let promised = ap (demand_promises unit.node.chip.grid unit.node.tile) demand in
    omega arith)

-- the tile that asked waits for the demand
listed_costs : (unit : UnitState) (q : Request) (demand : Demand) (cache : Cache) → IsInside unit → q.source < tile_count unit.node.chip
    → unit.node.side.misses.demand ≡ Some demand
    → TakesAll unit.node.chip unit.node.side.cache cache
    → SideGrows unit (quiet (deferred_to_demand q demand (with_cache cache unit.node.side))) (per_answer unit.node.chip)
listed_costs unit q demand cache inside source stands takes =
    let waiting : Waiting = record { tile = q.source; kind = q.kind } in
    demand_changes unit demand (record demand { list = demand.list ++ waiting ∷ [] }) cache (per_answer unit.node.chip) stands takes refl
    (let far = near unit.node.chip unit.node.tile q.source inside.tiles inside.tile source in
    omega (arith, sum_by_push (λ (waiting : Waiting). 2 + distance unit.node.chip.grid unit.node.tile waiting.tile) demand.list waiting))

-- nothing is sent, and the cache takes what it took
nothing_costs : (unit : UnitState) (cache : Cache) → TakesAll unit.node.chip unit.node.side.cache cache
    → SideGrows unit (quiet (with_cache cache unit.node.side)) 0
nothing_costs unit cache takes = side_stays unit (with_cache cache unit.node.side) [] 0 refl takes (omega arith)

stale_unsent : (chip : Chip) (entry : Option WriteBack) → unsent_back chip (stale_back entry) ≡ unsent_back chip entry
stale_unsent chip None = refl
stale_unsent chip (Some back) = refl

-- what a node holds of a line: an answer where it owns the line
abbrev HeldGrows : UnitState → Request → Kind → Holding → Type 0
HeldGrows unit q kind h = SideGrows unit (snooped_with unit.node.chip q unit.node.side h kind) (cond (is_owned_holding h) (per_answer unit.node.chip) 0)

read_comes : (unit : UnitState) (q : Request) → IsInside unit → q.source < tile_count unit.node.chip
    → HeldGrows unit q GetS (holding unit.node.chip unit.node.side q.line)
read_comes unit q inside source = holding_forms chip side q.line (HeldGrows unit q GetS) (record {
  owned = λ held there owned. supplies_costs unit q held.words (made_owned chip q.line held.words side) inside source refl refl
      (λ line. fits-installed chip side.cache (record { line = q.line; state = O; words = held.words }) line (ap is_some there));
  live = λ copy back is. supplies_costs unit q back.words side inside source refl refl (λ line fits. fits);
  write = λ copy back demand is writes goes_on. listed_costs unit q demand side.cache inside source (ordered_is q.line side.misses.demand demand is).stands
      (λ line fits. fits);
  read = λ copy back demand is reads. nothing_costs unit side.cache (λ line fits. fits);
  ended = λ copy back demand is writes ends. nothing_costs unit side.cache (λ line fits. fits);
  shared = λ copy back demand. nothing_costs unit side.cache (λ line fits. fits);
  absent = λ copy back demand. nothing_costs unit side.cache (λ line fits. fits);
})
  where
    chip : Chip
    chip = unit.node.chip

    side : CacheSide
    side = unit.node.side

write_comes : (unit : UnitState) (q : Request) → IsInside unit → q.source < tile_count unit.node.chip
    → HeldGrows unit q GetM (holding unit.node.chip unit.node.side q.line)
write_comes unit q inside source = holding_forms chip side q.line (HeldGrows unit q GetM) (record {
  owned = λ held there owned. supplies_costs unit q held.words (line_gone chip q.line side) inside source refl refl (fits-without_line chip side.cache q.line);
  live = λ copy back is. supplies_costs unit q back.words (made_stale side) inside source
      (ap (λ (n : ℕ). unsent_demand chip side.misses.demand + n) (stale_unsent chip side.misses.back)) refl
      (λ line fits. fits);
  write = λ copy back demand is writes goes_on. listed_costs unit q demand (without_line chip q.line side.cache) inside source
      (ordered_is q.line side.misses.demand demand is).stands
      (fits-without_line chip side.cache q.line);
  read = λ copy back demand is reads. demand_changes unit demand (record demand { once = true }) side.cache 0
      (ordered_is q.line side.misses.demand demand is).stands (λ line fits. fits) refl (omega arith);
  ended = λ copy back demand is writes ends. nothing_costs unit side.cache (λ line fits. fits);
  shared = λ copy back demand. nothing_costs unit (without_line chip q.line side.cache) (fits-without_line chip side.cache q.line);
  absent = λ copy back demand. nothing_costs unit side.cache (λ line fits. fits);
})
  where
    chip : Chip
    chip = unit.node.chip

    side : CacheSide
    side = unit.node.side

put_comes : (unit : UnitState) (q : Request) (h : Holding) → SideGrows unit (snooped_with unit.node.chip q unit.node.side h PutM) 0
put_comes unit q (OwnedCopy words) = nothing_costs unit unit.node.side.cache (λ line fits. fits)
put_comes unit q (LiveBack words) = nothing_costs unit unit.node.side.cache (λ line fits. fits)
put_comes unit q (OpenWrite demand) = nothing_costs unit unit.node.side.cache (λ line fits. fits)
put_comes unit q (OpenRead demand) = nothing_costs unit unit.node.side.cache (λ line fits. fits)
put_comes unit q SharedCopy = nothing_costs unit unit.node.side.cache (λ line fits. fits)
put_comes unit q Nothing = nothing_costs unit unit.node.side.cache (λ line fits. fits)

-- ---- any request: one answer at most, where the node owns the line and it is a get or the own write-back
abbrev pub side_price : UnitState → Request → Kind → ℕ
side_price unit q GetS = per_answer unit.node.chip
side_price unit q GetM = per_answer unit.node.chip
side_price unit q PutM = cond (q.source == unit.node.tile) (per_answer unit.node.chip) 0

abbrev pub side_more : UnitState → Request → Kind → ℕ
side_more unit q kind = cond (owns unit.node.chip unit.node.side q.line) (side_price unit q kind) 0

more_too : (unit : UnitState) (outcome : Outcome) (less more : ℕ) → less ≤ more → SideGrows unit outcome less → SideGrows unit outcome more
more_too unit outcome less more le is = record { grows = let grows = is.grows in omega arith }

live_owns : (a b c : Bool) (n : ℕ) → cond b n 0 ≤ cond (a || b || c) n 0
live_owns true true c n = omega arith
live_owns true false c n = omega arith
live_owns false true c n = omega arith
live_owns false false c n = omega arith

live_price : (unit : UnitState) (line : ℕ)
    → cond (is_live_back line unit.node.side.misses.back) (per_answer unit.node.chip) 0 ≤ cond (owns unit.node.chip unit.node.side line)
    (per_answer unit.node.chip) 0
unfolding owns
live_price unit line =
    live_owns (is_owned_copy (lookup unit.node.chip unit.node.side.cache line)) (is_live_back line unit.node.side.misses.back)
    (is_open_write line unit.node.side.misses.demand) (per_answer unit.node.chip)

own_comes : (unit : UnitState) (place : ℕ) (q : Request) (kind : Kind) → IsInside unit → Waits unit → (q.source == unit.node.tile) ≡ true
    → MeetsOwn unit.node.side q kind
    → SideGrows unit (own_request unit.node.chip unit.node.side place kind) (side_more unit q kind)
own_comes unit place q GetS inside waits own meets = more_too unit _ 0 (side_more unit q GetS) (omega arith) (own_get_comes unit place waits)
own_comes unit place q GetM inside waits own meets = more_too unit _ 0 (side_more unit q GetM) (omega arith) (own_get_comes unit place waits)
own_comes unit place q PutM inside waits own meets =
    more_too unit _ (cond (is_live_back q.line unit.node.side.misses.back) (per_answer unit.node.chip) 0) (side_more unit q PutM)
    (rw own (live_price unit q.line))
    (own_put_comes unit q.line inside (λ back stands. ap (λ (b : WriteBack). b.line) (same_Some back meets.0 (sym stands ∙ meets.1)) ∙ meets.2.line))

other_comes : (unit : UnitState) (q : Request) (kind : Kind) → IsInside unit → q.source < tile_count unit.node.chip
    → SideGrows unit (snooped_with unit.node.chip q unit.node.side (holding unit.node.chip unit.node.side q.line) kind) (side_more unit q kind)
other_comes unit q GetS inside source =
    subst (λ (b : Bool). SideGrows unit (snooped_with unit.node.chip q unit.node.side (holding unit.node.chip unit.node.side q.line) GetS)
    (cond b (per_answer unit.node.chip) 0))
    (sym (owns_holding unit.node.chip unit.node.side q.line)) (read_comes unit q inside source)
other_comes unit q GetM inside source =
    subst (λ (b : Bool). SideGrows unit (snooped_with unit.node.chip q unit.node.side (holding unit.node.chip unit.node.side q.line) GetM)
    (cond b (per_answer unit.node.chip) 0))
    (sym (owns_holding unit.node.chip unit.node.side q.line)) (write_comes unit q inside source)
other_comes unit q PutM inside source =
    more_too unit _ 0 (side_more unit q PutM) (omega arith) (put_comes unit q (holding unit.node.chip unit.node.side q.line))

-- a request is delivered to the cache side
pub request_comes : (unit : UnitState) (place : ℕ) (q : Request) → IsInside unit → q.source < tile_count unit.node.chip → Waits unit
    → OwnRequestFits unit.node.tile unit.node.side q
    → SideGrows unit (after_snoop unit.node.chip unit.node.tile unit.node.side place q) (side_more unit q q.kind)
unfolding after_snoop
request_comes unit place q inside source waits meets =
    cond_both (q.source == unit.node.tile) (own_request unit.node.chip unit.node.side place q.kind)
    (snooped_with unit.node.chip q unit.node.side (holding unit.node.chip unit.node.side q.line) q.kind)
    (λ outcome. SideGrows unit outcome (side_more unit q q.kind))
    (λ own. own_comes unit place q q.kind inside waits own (meets (eqb-true q.source unit.node.tile own)))
    (λ other. other_comes unit q q.kind inside source)
