-- What a core has still to do: less at a later place, and no more where its cache takes as many lines as before.
use Rattle.std.proofs.Common.{◌≡◌, ℕ, ◌+◌, ◌-◌, ◌*◌, ◌<◌, ◌≤◌, Bool, true, false, cond, List, Option, Some, None, length, refl, ap, arith, lt-ltb, ltb-true}
use Rattle.std.specs.Prelude.{slice_get, is_some, nat_lt}
use Rattle.std.proofs.Math.Nat.{mul-add, mul-le-mul_left}
use Rattle.std.proofs.lemmas.Option.{slice_get_within}
use Rattle.core_isa.specs.declared.instr.Instr.{Instr}
use Rattle.core_isa.specs.Core.{CoreState, Effect, Becomes, Loads, Stores, Swaps, Adds, Halts, effect_of, instr_at, loaded}
use Rattle.report_text.specs.declared.access.Access.{Access}
use Rattle.report_text.specs.declared.access.AccessKind.{AccessKind}
use Rattle.chip_model.specs.declared.pending.Pending.{Pending}
use Rattle.chip_model.specs.Chip.{Chip}
use Rattle.chip_model.specs.Cache.{Cache, fits}
use Rattle.chip_model.specs.Snoop.{CacheSide}
use Rattle.chip_model.specs.Node.{with_side}
use Rattle.chip_model.specs.Units.{UnitState, core_after}
use Rattle.chip_model.specs.UnitShape.{IsAccess}
use Rattle.bound_laws.specs.Measure.{per_request, per_instruction, access_to_go, effect_to_go, next_to_go, instructions_to_go, core_to_go}

-- ---- what an instruction costs at most
cond_below : (b : Bool) (m n k : ℕ) → m ≤ k → n ≤ k → cond b m n ≤ k
cond_below true m n k first second = first
cond_below false m n k first second = second

access_le : (chip : Chip) (cache : Cache) (line : ℕ) → access_to_go chip cache line ≤ per_instruction chip
access_le chip cache line = cond_below (fits chip cache line) (1 + per_request chip) (per_instruction chip) (per_instruction chip) (omega arith) (omega arith)

effect_le : (chip : Chip) (cache : Cache) (effect : Effect) → effect_to_go chip cache effect ≤ per_instruction chip
effect_le chip cache (Becomes core) = omega arith
effect_le chip cache (Loads register sum) = access_le chip cache _
effect_le chip cache (Stores sum value) = access_le chip cache _
effect_le chip cache (Swaps register sum value) = access_le chip cache _
effect_le chip cache (Adds register sum value) = access_le chip cache _
effect_le chip cache Halts = omega arith

next_le : (chip : Chip) (unit : UnitState) → next_to_go chip unit ≤ per_instruction chip
next_le chip unit =
    cond_below (is_some unit.node.side.misses.demand) 0 (effect_to_go chip unit.node.side.cache (effect_of (instr_at unit.program unit.core.place) unit.core))
    (per_instruction chip) (omega arith)
    (effect_le chip unit.node.side.cache _)

pub instructions_le : (chip : Chip) (unit : UnitState) → instructions_to_go chip unit ≤ per_instruction chip * (length unit.program - unit.core.place)
instructions_le chip unit = by (nat_lt unit.core.place (length unit.program)) refl
  where
    by : (inside : Bool) → nat_lt unit.core.place (length unit.program) ≡ inside
        → cond inside (per_instruction chip * (length unit.program - unit.core.place - 1) + next_to_go chip unit) 0 ≤ per_instruction chip *
        (length unit.program - unit.core.place)
    by false is = omega arith
    by true is =
        let less = ltb-true unit.core.place (length unit.program) is in
        let split : length unit.program - unit.core.place ≡ (length unit.program - unit.core.place - 1) + 1 = omega arith in
        let whole = ap (λ (n : ℕ). per_instruction chip * n) split in
        let next = next_le chip unit in
        omega (arith, mul-add (per_instruction chip) (length unit.program - unit.core.place - 1) 1)

-- ---- a core that goes on
-- what is left of a core that runs
pub core_runs : (chip : Chip) (unit : UnitState) → unit.halted ≡ false → unit.core.place < length unit.program
    → core_to_go chip unit ≡ 1 + (per_instruction chip * (length unit.program - unit.core.place - 1) + next_to_go chip unit)
unfolding core_to_go
core_runs chip unit running inside = rw (running, lt-ltb unit.core.place (length unit.program) inside) refl

-- a core at a later place has no more to do than before, and less by what its next instruction still needed
pub core_goes_on : (chip : Chip) (old new : UnitState) → old.halted ≡ false → new.program ≡ old.program → old.core.place < length old.program
    → old.core.place < new.core.place
    → core_to_go chip new + next_to_go chip old ≤ core_to_go chip old
unfolding core_to_go
core_goes_on chip old new running program inside later =
    let was = core_runs chip old running inside in
    let rest = instructions_le chip new in
    let size = ap length program in
    let less : length new.program - new.core.place ≤ length old.program - old.core.place - 1 = omega arith in
    let price = mul-le-mul_left (per_instruction chip) less in
    let now : core_to_go chip new ≤ 1 + instructions_to_go chip new =
    cond_below new.halted 0 (1 + instructions_to_go chip new) (1 + instructions_to_go chip new) (omega arith) (omega arith) in
    omega arith

-- the next instruction stands in the program, where it is not a halt
pub in_program : (program : List Instr) (core : CoreState) → ((effect_of (instr_at program core.place) core ≡ Halts) → ⊥) → core.place < length program
in_program program core runs = by (slice_get program core.place) refl
  where
    by : (o : Option Instr) → slice_get program core.place ≡ o → core.place < length program
    by None is = absurd (runs (rw is refl))
    by (Some instr) is = slice_get_within program core.place instr is

-- an access of this kind is the next instruction, and the core goes on to the one after it once it is performed
pub record IsDoneAt (program : List Instr) (core : CoreState) (kind : AccessKind) : Type 0 where
  pub inside : core.place < length program
  pub place : (access : Access) → access.kind ≡ kind → (core_after program access core).place ≡ core.place + 1

pub access_done : (chip : Chip) (program : List Instr) (core : CoreState) (pending : Pending)
    → IsAccess chip pending (effect_of (instr_at program core.place) core)
    → IsDoneAt program core pending.kind
unfolding loaded
access_done chip program core pending access = by (effect_of (instr_at program core.place) core) refl access
  where
    by : (effect : Effect) → effect_of (instr_at program core.place) core ≡ effect → IsAccess chip pending effect → IsDoneAt program core pending.kind
    by (Loads register sum) is access = record { inside = in_program program core (λ halts. cc); place = λ a kind. rw (kind, access.0, is) refl }
    by (Stores sum stored) is access = record { inside = in_program program core (λ halts. cc); place = λ a kind. rw (kind, access.0) refl }
    by (Swaps register sum value) is access = record { inside = in_program program core (λ halts. cc); place = λ a kind. rw (kind, access.0, is) refl }
    by (Adds register sum value) is access = record { inside = in_program program core (λ halts. cc); place = λ a kind. rw (kind, access.0, is) refl }
    by (Becomes later) is access = absurd access
    by Halts is access = absurd access

-- ---- a core that stays where it is
-- a cache that takes all the lines that another one takes
abbrev pub TakesAll : Chip → Cache → Cache → Type 0
TakesAll chip old new = (line : ℕ) → fits chip old line ≡ true → fits chip new line ≡ true

access_mono : (chip : Chip) (old new : Cache) (line : ℕ) → TakesAll chip old new → access_to_go chip new line ≤ access_to_go chip old line
access_mono chip old new line takes = by (fits chip old line) (fits chip new line) (takes line)
  where
    by : (was is : Bool) → (was ≡ true → is ≡ true)
        → cond is (1 + per_request chip) (per_instruction chip) ≤ cond was (1 + per_request chip) (per_instruction chip)
    by true true more = omega arith
    by true false more = let no = more refl in cc
    by false true more = omega arith
    by false false more = omega arith

effect_mono : (chip : Chip) (old new : Cache) (effect : Effect) → TakesAll chip old new → effect_to_go chip new effect ≤ effect_to_go chip old effect
effect_mono chip old new (Becomes core) takes = omega arith
effect_mono chip old new (Loads register sum) takes = access_mono chip old new _ takes
effect_mono chip old new (Stores sum value) takes = access_mono chip old new _ takes
effect_mono chip old new (Swaps register sum value) takes = access_mono chip old new _ takes
effect_mono chip old new (Adds register sum value) takes = access_mono chip old new _ takes
effect_mono chip old new Halts takes = omega arith

mono : (halted inside waits : Bool) (rest less more : ℕ) → less ≤ more
    → cond halted 0 (1 + cond inside (rest + cond waits 0 less) 0) ≤ cond halted 0 (1 + cond inside (rest + cond waits 0 more) 0)
mono true inside waits rest less more le = omega arith
mono false true true rest less more le = omega arith
mono false true false rest less more le = omega arith
mono false false waits rest less more le = omega arith

-- a core whose demand stands as before has no more to do where the cache takes what it took
pub core_side : (chip : Chip) (unit : UnitState) (side : CacheSide) → is_some side.misses.demand ≡ is_some unit.node.side.misses.demand
    → TakesAll chip unit.node.side.cache side.cache
    → core_to_go chip (record unit { node = with_side side unit.node }) ≤ core_to_go chip unit
unfolding core_to_go
core_side chip unit side same takes =
    let effect = effect_of (instr_at unit.program unit.core.place) unit.core in
    let rest = per_instruction chip * (length unit.program - unit.core.place - 1) in
    let less =
    mono unit.halted (nat_lt unit.core.place (length unit.program)) (is_some unit.node.side.misses.demand) rest (effect_to_go chip side.cache effect)
    (effect_to_go chip unit.node.side.cache effect)
    (effect_mono chip unit.node.side.cache side.cache effect takes) in
    rw same less
