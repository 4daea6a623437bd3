-- An access that the core of a unit tries lowers what the unit has still to do: it hits, or starts a demand or a write-back.
use Rattle.std.proofs.Common.{◌≡◌, ◌⊎◌, ℕ, ◌+◌, ◌<◌, ◌≤◌, Bool, true, false, cond, [], ◌∷◌, Option, Some, None, length, get_or, set, refl, ◌∙◌, ap, inl, inr, arith, eq-eqb, get_or-set_same}
use Rattle.std.specs.Prelude.{is_some, not, ◌||◌}
use Rattle.std.proofs.lemmas.Bool.{cases_lt}
use Rattle.std.proofs.lemmas.List.{get_or_past}
use Rattle.mesh_gen.specs.Partial.{when}
use Rattle.core_isa.specs.Core.{effect_of, instr_at}
use Rattle.report_text.specs.Accesses.{writes}
use Rattle.chip_model.specs.declared.done.Done.{Done}
use Rattle.chip_model.specs.declared.line_state.State.{State}
use Rattle.chip_model.specs.declared.line_state.State.TheVariants.{M, O, S}
use Rattle.chip_model.specs.declared.pending.Pending.{Pending}
use Rattle.chip_model.specs.Chip.{Chip, line_of, set_number}
use Rattle.chip_model.specs.Cache.{Cache, Ways, Held, found, has_empty, emptied, fits, lookup, has_room, without_line, without_shared, installed, lowest, lowest_for}
use Rattle.chip_model.specs.Misses.{WriteBack, new_back, is_written_back}
use Rattle.chip_model.specs.Snoop.{with_cache, written_by, done_by}
use Rattle.chip_model.specs.Node.{Node, Performed, holds_back, accessed_with, missed, victim_evicted, back_started, demand_started, load_hit, store_hit, store_to}
use Rattle.chip_model.specs.NodeShape.{IsCache}
use Rattle.chip_model.specs.Units.{UnitState, performed, access_of}
use Rattle.net_iface.proofs.Binds.{made}
use Rattle.bound_laws.specs.Measure.{per_request, per_instruction, demand_promises, unsent_demand, unsent_back, node_to_go, access_to_go, effect_to_go, next_to_go, unit_to_go}
use Rattle.bound_laws.proofs.CoreToGo.{core_runs, core_goes_on, IsDoneAt}

-- ---- the way of a line that leaves is empty
found_first : (held : Held) (rest : Ways) → is_some (found held.line (Some held ∷ rest)) ≡ true
found_first held rest = rw (eq-eqb held.line held.line refl) refl

empty_first : (held : Held) (rest : Ways) → has_empty (emptied held.line (Some held ∷ rest)) ≡ true
empty_first held rest = rw (eq-eqb held.line held.line refl) refl

room_after : (chip : Chip) (cache : Cache) (line : ℕ) (held : Held) → IsCache chip cache → lowest_for chip line cache ≡ Some held
    → has_room chip (without_line chip held.line cache) line ≡ true
unfolding lowest_for has_room without_line
room_after chip cache line held fits = by (get_or cache (set_number chip line) []) refl
  where
    inside : (rest : Ways) → get_or cache (set_number chip line) [] ≡ Some held ∷ rest
        → (set_number chip line < length cache) ⊎ (length cache ≤ set_number chip line) → set_number chip line < length cache
    inside rest is (inl within) = within
    inside rest is (inr past) = let none = get_or_past cache (set_number chip line) [] past in cc

    first : (rest : Ways) → get_or cache (set_number chip line) [] ≡ Some held ∷ rest
        → has_empty
        (get_or (set cache (set_number chip held.line) (emptied held.line (get_or cache (set_number chip held.line) []))) (set_number chip line) []) ≡ true
    first rest is =
        let own : set_number chip held.line ≡ set_number chip line =
        fits.placed (set_number chip line) held.line (ap (λ (ways : Ways). is_some (found held.line ways)) is ∙ found_first held rest) in
        let within = inside rest is (cases_lt (set_number chip line) (length cache)) in
        rw own (ap has_empty (get_or-set_same cache (set_number chip line) (emptied held.line (get_or cache (set_number chip line) [])) [] within)
        ∙ ap (λ (ways : Ways). has_empty (emptied held.line ways)) is ∙ empty_first held rest)

    by : (ways : Ways) → get_or cache (set_number chip line) [] ≡ ways → lowest ways ≡ Some held
        → has_empty
        (get_or (set cache (set_number chip held.line) (emptied held.line (get_or cache (set_number chip held.line) []))) (set_number chip line) []) ≡ true
    by [] is low = cc
    by (None ∷ rest) is low = cc
    by (Some held_first ∷ rest) is low = first rest (is ∙ ap (λ (way : Option Held). way ∷ rest) low)

-- ---- what an access costs
access_here : (chip : Chip) (cache : Cache) (line : ℕ) (held : Held) → lookup chip cache line ≡ Some held
    → access_to_go chip cache line ≡ 1 + per_request chip
unfolding fits
access_here chip cache line held is = rw is refl

access_room : (chip : Chip) (cache : Cache) (line : ℕ) → has_room chip cache line ≡ true → access_to_go chip cache line ≡ 1 + per_request chip
unfolding fits
access_room chip cache line room = rw room (by (is_some (lookup chip cache line)))
  where
    by : (here : Bool) → cond (here || true) (1 + per_request chip) (per_instruction chip) ≡ 1 + per_request chip
    by true = refl
    by false = refl

access_full : (chip : Chip) (cache : Cache) (line : ℕ) → lookup chip cache line ≡ None → has_room chip cache line ≡ false
    → access_to_go chip cache line ≡ per_instruction chip
unfolding fits
access_full chip cache line is full = rw (is, full) refl

cost_some : (b : Bool) (m n : ℕ) → 0 < m → 0 < n → 0 < cond b m n
cost_some true m n first second = first
cost_some false m n first second = second

-- ---- an access of a core
-- what a step of the core leaves
pub record Steps (unit new : UnitState) : Type 0 where
  pub delivered : new.node.delivered ≡ unit.node.delivered
  pub falls : unit_to_go unit.node.chip new < unit_to_go unit.node.chip unit

-- a core that runs and waits for nothing is about to do this access
pub record Tries (unit : UnitState) (access : Pending) : Type 0 where
  pub running : unit.halted ≡ false
  pub demand : unit.node.side.misses.demand ≡ None
  pub cache : IsCache unit.node.chip unit.node.side.cache
  pub costs : (cache : Cache)
      → effect_to_go unit.node.chip cache (effect_of (instr_at unit.program unit.core.place) unit.core) ≡ access_to_go unit.node.chip cache
      (line_of access.address)
  pub done : IsDoneAt unit.program unit.core access.kind

pub next_is : (unit : UnitState) → unit.node.side.misses.demand ≡ None
    → next_to_go unit.node.chip unit ≡ effect_to_go unit.node.chip unit.node.side.cache (effect_of (instr_at unit.program unit.core.place) unit.core)
next_is unit none = rw none refl

-- it is done at once, and changes the cache alone
hit_steps : (unit : UnitState) (access : Pending) (done : Done) (cache : Cache) → done.kind ≡ access.kind → Tries unit access
    → Steps unit (performed unit (record unit.node { side = with_cache cache unit.node.side }, Some done)).0
unfolding node_to_go
hit_steps unit access done cache kind tries =
    let place = tries.done.place (access_of unit done) kind in
    let new = (performed unit (record unit.node { side = with_cache cache unit.node.side }, Some done)).0 in
    let core = core_goes_on unit.node.chip unit new tries.running refl tries.done.inside (omega arith) in
    let next = next_is unit tries.demand in
    let costs = tries.costs unit.node.side.cache in
    let some : 0 < access_to_go unit.node.chip unit.node.side.cache (line_of access.address) =
    cost_some (fits unit.node.chip unit.node.side.cache (line_of access.address)) (1 + per_request unit.node.chip) (per_instruction unit.node.chip)
    (omega arith) (omega arith) in
    record { delivered = refl; falls = omega arith }

-- it starts a demand
demand_steps : (unit : UnitState) (access : Pending) (cache : Cache) → Tries unit access
    → per_request unit.node.chip < access_to_go unit.node.chip unit.node.side.cache (line_of access.address)
    → Steps unit (performed unit (demand_started access (with_cache cache unit.node.side) unit.node)).0
unfolding node_to_go
demand_steps unit access cache tries cost =
    let chip = unit.node.chip in
    let new = (performed unit (demand_started access (with_cache cache unit.node.side) unit.node)).0 in
    let was = core_runs chip unit tries.running tries.done.inside in
    let now = core_runs chip new tries.running tries.done.inside in
    let next = next_is unit tries.demand in
    let costs = tries.costs unit.node.side.cache in
    let unsent = ap (unsent_demand chip) tries.demand in
    let promised = ap (demand_promises chip.grid unit.node.tile) tries.demand in
    record { delivered = refl; falls = omega arith }

none_stands : (a : Bool) (entry : Option WriteBack) → not (a || is_some entry) ≡ true → entry ≡ None
none_stands true entry is = cc
none_stands false None is = refl
none_stands false (Some back) is = cc

pub when_some : {X : Type 0} (b : Bool) (o : Option X) (x : X) → when b o ≡ Some x → (b ≡ true) × (o ≡ Some x)
when_some true o x is = (refl, is)
when_some false o x is = cc

-- it starts a write-back
back_steps : (unit : UnitState) (access : Pending) (held : Held) → Tries unit access
    → lookup unit.node.chip unit.node.side.cache (line_of access.address) ≡ None
    → has_room unit.node.chip unit.node.side.cache (line_of access.address) ≡ false
    → lowest_for unit.node.chip (line_of access.address) unit.node.side.cache ≡ Some held
    → (out : Performed) → back_started unit.node (Some held) ≡ Some out → Steps unit (performed unit out).0
unfolding node_to_go
back_steps unit access held tries absent full low out is =
    let parts = when_some (not (holds_back unit.node.out || is_some unit.node.side.misses.back)) (Some (node, None)) out is in
    made (λ (out : Performed). Steps unit (performed unit out).0) (node, None) out
    (steps (none_stands (holds_back unit.node.out) unit.node.side.misses.back parts.0)) parts.1
  where
    cache : Cache
    cache = without_line unit.node.chip held.line unit.node.side.cache

    node : Node
    node = record unit.node { side = record { cache = cache; misses = record unit.node.side.misses { back = Some (new_back held.line held.words) } } }

    steps : unit.node.side.misses.back ≡ None → Steps unit (record unit { node = node })
    steps none =
        let chip = unit.node.chip in
        let was = core_runs chip unit tries.running tries.done.inside in
        let now = core_runs chip (record unit { node = node }) tries.running tries.done.inside in
        let next = next_is unit tries.demand in
        let later = next_is (record unit { node = node }) tries.demand in
        let costs = tries.costs unit.node.side.cache in
        let costs_then = tries.costs cache in
        let price = access_full chip unit.node.side.cache (line_of access.address) absent full in
        let price_then = access_room chip cache (line_of access.address) (room_after chip unit.node.side.cache (line_of access.address) held tries.cache low) in
        let unsent = ap (unsent_back chip) none in
        record { delivered = refl; falls = omega arith }

-- a miss
misses_step : (unit : UnitState) (access : Pending) → Tries unit access → lookup unit.node.chip unit.node.side.cache (line_of access.address) ≡ None
    → (out : Performed) → missed access unit.node ≡ Some out → Steps unit (performed unit out).0
misses_step unit access tries absent out = room_by (has_room unit.node.chip unit.node.side.cache (line_of access.address)) refl
  where
    P : Performed → Type 0
    P out = Steps unit (performed unit out).0

    victim_by : has_room unit.node.chip unit.node.side.cache (line_of access.address) ≡ false → (victim : Option Held)
        → lowest_for unit.node.chip (line_of access.address) unit.node.side.cache ≡ victim
        → back_started unit.node victim ≡ Some out → P out
    victim_by full None low is = cc
    victim_by full (Some held) low is = back_steps unit access held tries absent full low out is

    shared_by : has_room unit.node.chip unit.node.side.cache (line_of access.address) ≡ false → (shared : Option Cache)
        → victim_evicted access unit.node shared ≡ Some out → P out
    shared_by full (Some cache) is =
        let cost = access_full unit.node.chip unit.node.side.cache (line_of access.address) absent full in
        made P (demand_started access (with_cache cache unit.node.side) unit.node) out (demand_steps unit access cache tries (omega arith)) is
    shared_by full None is = victim_by full (lowest_for unit.node.chip (line_of access.address) unit.node.side.cache) refl is

    room_by : (room : Bool) → has_room unit.node.chip unit.node.side.cache (line_of access.address) ≡ room
        → cond room (Some (demand_started access unit.node.side unit.node))
        (victim_evicted access unit.node (without_shared unit.node.chip (line_of access.address) unit.node.side.cache)) ≡ Some out → P out
    room_by true room is =
        let cost = access_room unit.node.chip unit.node.side.cache (line_of access.address) room in
        made P (demand_started access unit.node.side unit.node) out (demand_steps unit access unit.node.side.cache tries (omega arith)) is
    room_by false full is = shared_by full (without_shared unit.node.chip (line_of access.address) unit.node.side.cache) is

-- an access of whatever kind
pub access_steps : (unit : UnitState) (access : Pending) → Tries unit access → (out : Performed)
    → accessed_with access unit.node (lookup unit.node.chip unit.node.side.cache (line_of access.address)) ≡ Some out → Steps unit (performed unit out).0
access_steps unit access tries out = by (lookup unit.node.chip unit.node.side.cache (line_of access.address)) refl
  where
    P : Performed → Type 0
    P out = Steps unit (performed unit out).0

    hit : (held : Held) (cache : Cache)
        → P (record unit.node { side = with_cache cache unit.node.side }, Some (done_by access unit.node.delivered held.words))
    hit held cache = hit_steps unit access (done_by access unit.node.delivered held.words) cache refl tries

    upgrades : (held : Held) → lookup unit.node.chip unit.node.side.cache (line_of access.address) ≡ Some held
        → when (not (is_written_back (line_of access.address) unit.node.side.misses.back)) (Some (demand_started access unit.node.side unit.node)) ≡ Some out
        → P out
    upgrades held there is =
        let cost = access_here unit.node.chip unit.node.side.cache (line_of access.address) held there in
        made P (demand_started access unit.node.side unit.node) out (demand_steps unit access unit.node.side.cache tries (omega arith))
        (when_some (not (is_written_back (line_of access.address) unit.node.side.misses.back)) (Some (demand_started access unit.node.side unit.node)) out is).1

    stores : (held : Held) (state : State) → lookup unit.node.chip unit.node.side.cache (line_of access.address) ≡ Some held
        → store_to access held unit.node state ≡ Some out → P out
    stores held M there is =
        made P (store_hit access held unit.node) out
        (hit held (installed unit.node.chip (record held { words = written_by access held.words }) unit.node.side.cache)) is
    stores held O there is = upgrades held there is
    stores held S there is = upgrades held there is

    here : (held : Held) (writing : Bool) → lookup unit.node.chip unit.node.side.cache (line_of access.address) ≡ Some held
        → cond writing (store_to access held unit.node held.state) (Some (load_hit access held unit.node)) ≡ Some out → P out
    here held true there is = stores held held.state there is
    here held false there is = made P (load_hit access held unit.node) out (hit held unit.node.side.cache) is

    by : (held : Option Held) → lookup unit.node.chip unit.node.side.cache (line_of access.address) ≡ held → accessed_with access unit.node held ≡ Some out
        → P out
    by None absent is =
        misses_step unit access tries absent out
        (when_some (not (is_written_back (line_of access.address) unit.node.side.misses.back)) (missed access unit.node) out is).1
    by (Some held) there is = here held (writes access.kind) there is
