-- An in-order core that has not halted and waits for nothing can do its next instruction.
use Rattle.std.proofs.Common.{◌≡◌, ℕ, ◌%◌, ◌<◌, Bool, true, false, Option, Some, None, [], ◌∷◌, length, get_or, refl, sym, ◌∙◌, ap, arith}
use Rattle.std.specs.Prelude.{is_some, option_map, not, ◌||◌, if◌then◌else◌}
use Rattle.std.proofs.lemmas.Bool.{false≢true}
use Rattle.std.proofs.lemmas.Option.{slice_get-get_or}
use Rattle.core_isa.specs.Core.{Effect, Becomes, Loads, Stores, Swaps, Adds, Halts, effect_of, instr_at}
use Rattle.report_text.specs.declared.access.AccessKind.{AccessKind}
use Rattle.report_text.specs.declared.access.AccessKind.TheVariants.{Load, Store, Swap, Add}
use Rattle.report_text.specs.Accesses.{writes}
use Rattle.chip_model.specs.declared.line_state.State.{State}
use Rattle.chip_model.specs.declared.line_state.State.TheVariants.{M, O, S}
use Rattle.chip_model.specs.declared.pending.Pending.{Pending}
use Rattle.chip_model.specs.Partial.{when}
use Rattle.chip_model.specs.Chip.{address_in, line_of, set_number}
use Rattle.chip_model.specs.Cache.{Cache, Ways, Held, has_empty, lookup, has_room, without_shared, lowest, lowest_for}
use Rattle.chip_model.specs.Misses.{Demand, WriteBack, is_written_back}
use Rattle.chip_model.specs.Node.{Node, Performed, waits_for_any, has_entry, holds_back, load_hit, store_to, unless_written_back, node_after_access, accessed_with, missed, victim_evicted, back_started, demand_started}
use Rattle.chip_model.specs.Units.{UnitState, performed, executed, core_event}
use Rattle.chip_model.specs.BehaviourLaws.{HasWays}

-- the lowest way of a full set has a line
lowest_is : (ways : Ways) → 0 < length ways → has_empty ways ≡ false → is_some (lowest ways) ≡ true
lowest_is [] some full = absurd (omega arith)
lowest_is (None ∷ ways) some full = cc
lowest_is (Some held ∷ ways) some full = refl

set_below : (line sets : ℕ) → 0 < sets → line % sets < sets
set_below line sets some = omega arith

lowest_there : (node : Node) (line : ℕ) → HasWays node → has_room node.chip node.side.cache line ≡ false → is_some (lowest_for node.chip line node.side.cache) ≡ true
unfolding lowest_for has_room set_number
lowest_there node line is full =
    let set = line % node.chip.sets in
    let within : set < length node.side.cache = omega (arith, set_below line node.chip.sets is.sets, is.cache.sets) in
    let ways = get_or node.side.cache set [] in
    let long = is.cache.ways set ways (slice_get-get_or node.side.cache set [] within) in
    lowest_is ways (omega (arith, long, is.ways)) full

-- nothing waits to be written back
pub record IsFree (node : Node) : Type 0 where
  pub demand : node.side.misses.demand ≡ None
  pub back : node.side.misses.back ≡ None
  pub out : holds_back node.out ≡ false

unguarded : {X : Type 0} (guard : Bool) (o : Option X) → guard ≡ false → is_some o ≡ true → is_some (when (not guard) o) ≡ true
unguarded true o is some = absurd (false≢true (sym is))
unguarded false o is some = some

neither : (a b : Bool) → a ≡ false → b ≡ false → (a || b) ≡ false
neither true b is also = is
neither false b is also = also

can_start : (node : Node) (held : Option Held) → IsFree node → is_some held ≡ true → is_some (back_started node held) ≡ true
can_start node None free is = cc
can_start node (Some held) free is =
    unguarded (holds_back node.out || is_some node.side.misses.back) _ (neither (holds_back node.out) (is_some node.side.misses.back) free.out (ap is_some free.back)) refl

can_miss : (access : Pending) (node : Node) → HasWays node → IsFree node → is_some (missed access node) ≡ true
can_miss access node ways free = by (has_room node.chip node.side.cache (line_of access.address)) refl (without_shared node.chip (line_of access.address) node.side.cache)
  where
    by : (room : Bool) → has_room node.chip node.side.cache (line_of access.address) ≡ room → (cache : Option Cache)
        → is_some (if room then Some (demand_started access node.side node) else victim_evicted access node cache) ≡ true
    by true room_is cache = refl
    by false room_is (Some cache) = refl
    by false room_is None = can_start node (lowest_for node.chip (line_of access.address) node.side.cache) free (lowest_there node (line_of access.address) ways room_is)

can_unless : (access : Pending) (node : Node) (miss : Option Performed) → IsFree node → is_some miss ≡ true → is_some (unless_written_back access node miss) ≡ true
can_unless access node miss free some =
    unguarded (is_written_back (line_of access.address) node.side.misses.back) miss (ap (is_written_back (line_of access.address)) free.back) some

can_store : (access : Pending) (held : Held) (node : Node) (state : State) → IsFree node → is_some (store_to access held node state) ≡ true
can_store access held node M free = refl
can_store access held node O free = can_unless access node (Some (demand_started access node.side node)) free refl
can_store access held node S free = can_unless access node (Some (demand_started access node.side node)) free refl

can_access : (access : Pending) (node : Node) → HasWays node → IsFree node → is_some (node_after_access access node) ≡ true
unfolding node_after_access
can_access access node ways free =
    unguarded (has_entry node) (accessed_with access node (lookup node.chip node.side.cache (line_of access.address))) (ap is_some free.demand)
    (with_copy (lookup node.chip node.side.cache (line_of access.address)))
  where
    with_held : (changes : Bool) (held : Held) → is_some (if changes then store_to access held node held.state else Some (load_hit access held node)) ≡ true
    with_held true held = can_store access held node held.state free
    with_held false held = refl

    with_copy : (copy : Option Held) → is_some (accessed_with access node copy) ≡ true
    with_copy None = can_unless access node (missed access node) free (can_miss access node ways free)
    with_copy (Some held) = with_held (writes access.kind) held

mapped : {X Y : Type 0} (f : X → Y) (o : Option X) → is_some o ≡ true → is_some (option_map f o) ≡ true
mapped f None is = cc
mapped f (Some x) is = refl

can_try : (unit : UnitState) (kind : AccessKind) (sum value : ℕ) → HasWays unit.node → IsFree unit.node
    → is_some (option_map (performed unit) (node_after_access (record { kind = kind; address = address_in unit.node.chip sum; value = value }) unit.node)) ≡ true
can_try unit kind sum value ways free =
    mapped (performed unit) (node_after_access (record { kind = kind; address = address_in unit.node.chip sum; value = value }) unit.node)
    (can_access (record { kind = kind; address = address_in unit.node.chip sum; value = value }) unit.node ways free)

can_execute : (unit : UnitState) (effect : Effect) → HasWays unit.node → IsFree unit.node → is_some (executed unit effect) ≡ true
can_execute unit (Becomes core) ways free = refl
can_execute unit (Loads register sum) ways free = can_try unit Load sum 0 ways free
can_execute unit (Stores sum value) ways free = can_try unit Store sum value ways free
can_execute unit (Swaps register sum value) ways free = can_try unit Swap sum value ways free
can_execute unit (Adds register sum value) ways free = can_try unit Add sum value ways free
can_execute unit Halts ways free = refl

can_step : (unit : UnitState) → HasWays unit.node → unit.halted ≡ false → IsFree unit.node → is_some (core_event unit) ≡ true
unfolding core_event
can_step unit ways running free =
    let effect = effect_of (instr_at unit.program unit.core.place) unit.core in
    unguarded (unit.halted || has_entry unit.node) (executed unit effect) (neither unit.halted (has_entry unit.node) running (ap is_some free.demand))
    (can_execute unit effect ways free)

pub in_order_waits : (unit : UnitState) → HasWays unit.node → unit.halted ≡ false → is_some (core_event unit) ≡ false → (waits_for_any unit.node || holds_back unit.node.out) ≡ true
in_order_waits unit ways running unready = by unit.node.side.misses.demand unit.node.side.misses.back (holds_back unit.node.out) refl refl refl
  where
    by : (demand : Option Demand) (back : Option WriteBack) (held : Bool) → unit.node.side.misses.demand ≡ demand → unit.node.side.misses.back ≡ back → holds_back unit.node.out ≡ held
        → ((is_some demand || is_some back) || held) ≡ true
    by (Some demand) back held demand_is back_is out = refl
    by None (Some back) held demand_is back_is out = refl
    by None None true demand_is back_is out = refl
    by None None false demand_is back_is out = absurd (false≢true (sym unready ∙ can_step unit ways running (record { demand = demand_is; back = back_is; out = out })))
