-- An event of an in-order core whose program goes forward lowers what its unit has still to do.
use Rattle.std.proofs.Common.{◌≡◌, ℕ, ◌+◌, ◌<◌, Bool, true, false, cond, List, [], ◌∷◌, Option, Some, None, refl, sym, ◌∙◌, ap, subst, arith}
use Rattle.std.specs.Prelude.{slice_get, is_some, not, ◌||◌, ◌==◌, option_map, unwrap_or, Contains}
use Rattle.core_isa.specs.declared.instr.Instr.{Instr}
use Rattle.core_isa.specs.declared.instr.Instr.TheVariants.{Li, Add, Sub, Addi, Ld, St, Swap, Fadd, Beq, Bne, Jmp, Tid, Halt}
use Rattle.core_isa.specs.Core.{CoreState, register, Effect, Becomes, Loads, Stores, Swaps, Adds, Halts, effect_of, instr_at}
use Rattle.report_text.specs.declared.access.AccessKind.TheVariants as access
use Rattle.chip_model.specs.declared.pending.Pending.{Pending}
use Rattle.chip_model.specs.Chip.{address_in, line_of}
use Rattle.chip_model.specs.Cache.{Cache, lookup}
use Rattle.chip_model.specs.Node.{has_entry, node_after_access, accessed_with}
use Rattle.chip_model.specs.NodeShape.{IsCache}
use Rattle.chip_model.specs.Units.{UnitState, Acted, performed, executed, core_event, in_order}
use Rattle.chip_model.specs.UnitShape.{IsAccess}
use Rattle.chip_model.specs.Schedules.{targets}
use Rattle.net_iface.proofs.Binds.{made}
use Rattle.bound_laws.specs.Measure.{access_to_go, effect_to_go, instructions_to_go, core_to_go}
use Rattle.bound_laws.proofs.CoreToGo.{core_goes_on, in_program, access_done}
use Rattle.bound_laws.proofs.AccessSteps.{Steps, Tries, next_is, when_some, access_steps}

-- ---- a core event
-- each branch and jump of a program goes to a later place
abbrev pub GoesForward : List Instr → Type 0
GoesForward program = (place target : ℕ) (instr : Instr) → slice_get program place ≡ Some instr → Contains (targets instr) target → place < target

-- a register instruction at a place of the program leads to a later one
same_core : (a b : CoreState) → Becomes a ≡ Becomes b → a.place ≡ b.place
same_core a b same = cc

choice : (b : Bool) (m n k : ℕ) → k < m → k < n → k < cond b m n
choice true m n k first second = first
choice false m n k first second = second

one : (target : ℕ) → Contains (target ∷ []) target
one target = (0, omega arith, refl)

later_by : (instr : Instr) (core new : CoreState) → effect_of instr core ≡ Becomes new
    → ((target : ℕ) → Contains (targets instr) target → core.place < target) → core.place < new.place
later_by (Li rd n) core new is forward = let place = same_core _ new is in omega arith
later_by (Add rd ra rb) core new is forward = let place = same_core _ new is in omega arith
later_by (Sub rd ra rb) core new is forward = let place = same_core _ new is in omega arith
later_by (Addi rd ra n) core new is forward = let place = same_core _ new is in omega arith
later_by (Ld rd ra n) core new is forward = cc
later_by (St rs ra n) core new is forward = cc
later_by (Swap rd ra n) core new is forward = cc
later_by (Fadd rd ra n) core new is forward = cc
later_by (Beq ra rb target) core new is forward =
    let place = same_core _ new is in
    let more = choice (register ra core == register rb core) target (core.place + 1) core.place (forward target (one target)) (omega arith) in omega arith
later_by (Bne ra rb target) core new is forward =
    let place = same_core _ new is in
    let more = choice (register ra core == register rb core) (core.place + 1) target core.place (omega arith) (forward target (one target)) in omega arith
later_by (Jmp target) core new is forward = let place = same_core _ new is in let more = forward target (one target) in omega arith
later_by (Tid rd) core new is forward = let place = same_core _ new is in omega arith
later_by Halt core new is forward = cc

goes_later : (program : List Instr) (core new : CoreState) → GoesForward program → effect_of (instr_at program core.place) core ≡ Becomes new
    → core.place < new.place
goes_later program core new forward = by (slice_get program core.place) refl
  where
    by : (o : Option Instr) → slice_get program core.place ≡ o → effect_of (unwrap_or o Halt) core ≡ Becomes new → core.place < new.place
    by None there is = cc
    by (Some instr) there is = later_by instr core new is (λ target among. forward core.place target instr there among)

-- what a core event asks for
pub record MayStep (unit : UnitState) : Type 0 where
  pub cache : IsCache unit.node.chip unit.node.side.cache
  pub forward : GoesForward unit.program

none_is : {X : Type 0} (o : Option X) → is_some o ≡ false → o ≡ None
none_is None is = refl
none_is (Some x) is = cc

of_map : {X Y : Type 0} (P : Y → Type 0) (f : X → Y) (o : Option X) → ((x : X) → o ≡ Some x → P (f x)) → (y : Y) → option_map f o ≡ Some y → P y
of_map P f None each y is = cc
of_map P f (Some x) each y is = made P (f x) y (each x refl) is

both_false : (a b : Bool) → not (a || b) ≡ true → (a ≡ false) × (b ≡ false)
both_false true b is = cc
both_false false true is = cc
both_false false false is = (refl, refl)

halt_steps : (unit : UnitState) → unit.halted ≡ false → Steps unit (record unit { halted = true })
unfolding core_to_go
halt_steps unit running =
    let was : core_to_go unit.node.chip unit ≡ 1 + instructions_to_go unit.node.chip unit = rw running refl in
    record { delivered = refl; falls = omega arith }

becomes_steps : (unit : UnitState) (core : CoreState) → unit.halted ≡ false → unit.node.side.misses.demand ≡ None → GoesForward unit.program
    → effect_of (instr_at unit.program unit.core.place) unit.core ≡ Becomes core
    → Steps unit (record unit { core = core })
becomes_steps unit core running none forward is =
    let inside = in_program unit.program unit.core (λ halts. cc) in
    let later = goes_later unit.program unit.core core forward is in
    let on = core_goes_on unit.node.chip unit (record unit { core = core }) running refl inside later in
    let next = next_is unit none in
    let cost : effect_to_go unit.node.chip unit.node.side.cache (effect_of (instr_at unit.program unit.core.place) unit.core) ≡ 1 =
    ap (effect_to_go unit.node.chip unit.node.side.cache) is in
    record { delivered = refl; falls = omega arith }

pub core_steps : (unit : UnitState) (acted : Acted) → MayStep unit → core_event unit ≡ Some acted → Steps unit acted.0
unfolding core_event node_after_access
core_steps unit acted may is =
    let parts = when_some (not (unit.halted || has_entry unit.node)) (executed unit (effect_of (instr_at unit.program unit.core.place) unit.core)) acted is in
    let tests = both_false unit.halted (is_some unit.node.side.misses.demand) parts.0 in
    by tests.0 (none_is unit.node.side.misses.demand tests.1) (effect_of (instr_at unit.program unit.core.place) unit.core) refl parts.1
  where
    P : Acted → Type 0
    P acted = Steps unit acted.0

    tried : (access : Pending) → Tries unit access → option_map (performed unit) (node_after_access access unit.node) ≡ Some acted → P acted
    tried access tries = of_map P (performed unit) (node_after_access access unit.node)
        (λ out is. access_steps unit access tries out
        (when_some (not (has_entry unit.node))
        (accessed_with access unit.node (lookup unit.node.chip unit.node.side.cache (line_of access.address))) out is).1) acted

    -- an access as the next instruction
    as_next : (access : Pending) (effect : Effect) → unit.halted ≡ false → unit.node.side.misses.demand ≡ None
        → effect_of (instr_at unit.program unit.core.place) unit.core ≡ effect
        → IsAccess unit.node.chip access effect
        → ((cache : Cache) → effect_to_go unit.node.chip cache effect ≡ access_to_go unit.node.chip cache (line_of access.address)) → Tries unit access
    as_next access effect running demand is of costs = record {
      running = running;
      demand = demand;
      cache = may.cache;
      costs = λ cache. ap (effect_to_go unit.node.chip cache) is ∙ costs cache;
      done = access_done unit.node.chip unit.program unit.core access (subst (IsAccess unit.node.chip access) (sym is) of);
    }

    by : unit.halted ≡ false → unit.node.side.misses.demand ≡ None → (effect : Effect) → effect_of (instr_at unit.program unit.core.place) unit.core ≡ effect
        → executed unit effect ≡ Some acted → P acted
    by running demand (Becomes core) effect is = made P (record unit { core = core }, None) acted (becomes_steps unit core running demand may.forward effect) is
    by running demand Halts effect is = made P (record unit { halted = true }, None) acted (halt_steps unit running) is
    by running demand (Loads register sum) effect is =
        let access : Pending = record { kind = access.Load; address = address_in unit.node.chip sum; value = 0 } in
        tried access (as_next access (Loads register sum) running demand effect (refl, refl) (λ cache. refl)) is
    by running demand (Stores sum value) effect is =
        let access : Pending = record { kind = access.Store; address = address_in unit.node.chip sum; value = value } in
        tried access (as_next access (Stores sum value) running demand effect (refl, refl, refl) (λ cache. refl)) is
    by running demand (Swaps register sum value) effect is =
        let access : Pending = record { kind = access.Swap; address = address_in unit.node.chip sum; value = value } in
        tried access (as_next access (Swaps register sum value) running demand effect (refl, refl, refl) (λ cache. refl)) is
    by running demand (Adds register sum value) effect is =
        let access : Pending = record { kind = access.Add; address = address_in unit.node.chip sum; value = value } in
        tried access (as_next access (Adds register sum value) running demand effect (refl, refl, refl) (λ cache. refl)) is

pub stepped_falls : (unit : UnitState) → MayStep unit → in_order.ready unit ≡ true → Steps unit (in_order.stepped unit).0
unfolding in_order
stepped_falls unit may = by (core_event unit) refl
  where
    by : (o : Option Acted) → core_event unit ≡ o → is_some o ≡ true → Steps unit (unwrap_or o (unit, None)).0
    by None is ready = cc
    by (Some acted) is ready = core_steps unit acted may is
