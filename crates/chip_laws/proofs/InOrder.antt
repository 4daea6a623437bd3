-- In-order cores keep the laws of a behaviour.
use Rattle.std.proofs.Common.{◌≡◌, ℕ, ◌+◌, ◌*◌, ◌<◌, Bool, true, false, refl, sym, ◌∙◌, ap, subst, inl, inr, arith, Option, Some, None, List, [], length}
use Rattle.std.specs.Prelude.{◌%◌, ◌==◌, not, ◌&&◌, ◌||◌, nat_lt, is_some, unwrap_or}
use Rattle.std.proofs.lemmas.Bool.{cond_both, false≢true, not-true, or_parts, lt-ltb, ltb-true, eqb-true}
use Rattle.std.proofs.lemmas.List.{nil_from_length, length-set}
use Rattle.std.proofs.lemmas.Option.{same_Some}
use Rattle.mesh_gen.specs.declared.request.Request.{Request}
use Rattle.mesh_gen.specs.declared.msg.Msg.{Msg}
use Rattle.core_isa.specs.declared.instr.Instr.{Instr}
use Rattle.core_isa.specs.declared.instr.Instr.TheVariants.{Li, Add as AddInstr, Sub, Addi, Ld, St, Swap as SwapInstr, Fadd, Beq, Bne, Jmp, Tid, Halt}
use Rattle.core_isa.specs.Core.{CoreState, Effect, Becomes, Loads, Stores, Swaps, Adds, Halts, effect_of, instr_at, received, loaded, stored}
use Rattle.report_text.specs.declared.access.Access.{Access}
use Rattle.report_text.specs.declared.access.AccessKind.{AccessKind}
use Rattle.report_text.specs.declared.access.AccessKind.TheVariants.{Load, Store, Swap, Add}
use Rattle.report_text.specs.Accesses.{reads, read_by}
use Rattle.chip_model.specs.declared.done.Done.{Done}
use Rattle.chip_model.specs.declared.pending.Pending.{Pending}
use Rattle.chip_model.specs.Chip.{Chip, address_in}
use Rattle.chip_model.specs.Misses.{Demand}
use Rattle.chip_model.specs.Node.{Node, Performed, has_entry, node_after_access, node_after_request, node_after_message, after_request_sent, after_message_sent}
use Rattle.chip_model.specs.Units.{UnitState, BufferedStore, Acted, opening_unit, core_after, access_of, performed, access_tried, executed, core_event}
use Rattle.chip_model.specs.BehaviourLaws.{SameUnit, GoesOn, Receives, Works}
use Rattle.chip_laws.specs.InOrderUnits.{next_effect, takes_word, reads_for, is_in_order}
use Rattle.chip_laws.proofs.Options.{none_some, when_some, option_map_some}
use Rattle.chip_laws.proofs.StepAccesses.{Waits, free_of, StepGoesOn, delivered_goes, arrived_goes, request_waits, access_goes}

-- ---- the units that they come to, as propositions

-- an access of this kind reads only for an instruction that takes the word
abbrev ReadsFor : Effect → Pending → Type 0
ReadsFor effect access = reads access.kind ≡ true → takes_word effect ≡ true

pub record InOrderUnit (unit : UnitState) : Type 0 where
  pub lines : 0 < unit.node.chip.lines
  pub buffered : unit.buffered ≡ []
  pub waits : Waits (ReadsFor (next_effect unit)) unit.node.side.misses.demand

parts_of : (a b : Bool) → (a && b) ≡ true → (a ≡ true) × (b ≡ true)
parts_of true b e = (refl, e)
parts_of false b e = absurd (false≢true e)

both : (a b : Bool) → a ≡ true → b ≡ true → (a && b) ≡ true
both true b is also = also
both false b is also = is

reads_by : (effect : Effect) (demand : Demand) (r : Bool) → (not r || takes_word effect) ≡ true → r ≡ true → takes_word effect ≡ true
reads_by effect demand true e is = e
reads_by effect demand false e is = absurd (false≢true is)

waits_of : (effect : Effect) (entry : Option Demand) → reads_for effect entry ≡ true → Waits (ReadsFor effect) entry
waits_of effect None e demand is = none_some demand is
waits_of effect (Some demand) e other is = subst (λ (d : Demand). ReadsFor effect d.pending) (same_Some demand other is) (reads_by effect demand (reads demand.pending.kind) e)

reads_from : (effect : Effect) (r : Bool) → (r ≡ true → takes_word effect ≡ true) → (not r || takes_word effect) ≡ true
reads_from effect true takes = takes refl
reads_from effect false takes = refl

waits_from : (effect : Effect) (entry : Option Demand) → Waits (ReadsFor effect) entry → reads_for effect entry ≡ true
waits_from effect None waits = refl
waits_from effect (Some demand) waits = reads_from effect (reads demand.pending.kind) (waits demand refl)

nil_of : {X : Type 0} (xs : List X) → (length xs == 0) ≡ true → xs ≡ []
nil_of xs e = nil_from_length xs (eqb-true (length xs) 0 e)

unit_of : (unit : UnitState) → is_in_order unit ≡ true → InOrderUnit unit
unit_of unit e =
    let first = parts_of (nat_lt 0 unit.node.chip.lines && (length unit.buffered == 0)) (reads_for (next_effect unit) unit.node.side.misses.demand) e in
    let second = parts_of (nat_lt 0 unit.node.chip.lines) (length unit.buffered == 0) first.0 in
    record {
      lines = ltb-true 0 unit.node.chip.lines second.0;
      buffered = nil_of unit.buffered second.1;
      waits = waits_of (next_effect unit) unit.node.side.misses.demand first.1;
    }

unit_from : (unit : UnitState) → InOrderUnit unit → is_in_order unit ≡ true
unit_from unit is =
    both (nat_lt 0 unit.node.chip.lines && (length unit.buffered == 0)) (reads_for (next_effect unit) unit.node.side.misses.demand)
    (both (nat_lt 0 unit.node.chip.lines) (length unit.buffered == 0) (lt-ltb 0 unit.node.chip.lines is.lines) (ap (λ (xs : List BufferedStore). length xs == 0) is.buffered))
    (waits_from (next_effect unit) unit.node.side.misses.demand is.waits)

-- ---- the core goes on with an access
pub record CoreGoesOn (core new : CoreState) : Type 0 where
  pub tile : new.tile ≡ core.tile
  pub registers : length new.registers ≡ length core.registers
  pub steps : new.steps ≡ core.steps + 1

receives_goes : (effect : Effect) (value : ℕ) (core : CoreState) → takes_word effect ≡ true → CoreGoesOn core (received effect value core)
receives_goes (Loads register sum) word core takes = record { tile = refl; registers = length-set core.registers register word; steps = refl }
receives_goes (Swaps register sum value) word core takes = record { tile = refl; registers = length-set core.registers register word; steps = refl }
receives_goes (Adds register sum value) word core takes = record { tile = refl; registers = length-set core.registers register word; steps = refl }
receives_goes (Stores sum value) word core takes = absurd (false≢true takes)
receives_goes (Becomes new) word core takes = absurd (false≢true takes)
receives_goes Halts word core takes = absurd (false≢true takes)

loaded_goes : (program : List Instr) (value : ℕ) (core : CoreState) → takes_word (effect_of (instr_at program core.place) core) ≡ true → CoreGoesOn core (loaded program value core)
unfolding loaded
loaded_goes program value core takes = receives_goes (effect_of (instr_at program core.place) core) value core takes

pub access_core : (program : List Instr) (access : Access) (core : CoreState) → (reads access.kind ≡ true → takes_word (effect_of (instr_at program core.place) core) ≡ true) → CoreGoesOn core (core_after program access core)
access_core program access core for =
    cond_both (reads access.kind) (loaded program (read_by access) core) (stored core) (CoreGoesOn core)
    (λ reads. loaded_goes program (read_by access) core (for reads))
    (λ writes. record { tile = refl; registers = refl; steps = refl })

-- ---- a unit goes on with a step of its node
pub record UnitGoesOn (unit : UnitState) (step : Performed) (acted : Acted) : Type 0 where
  pub fits : is_in_order acted.0 ≡ true
  pub goes : GoesOn unit step acted
  pub halted : acted.0.halted ≡ unit.halted

lines_still : (unit : UnitState) (node : Node) → node.chip ≡ unit.node.chip → 0 < unit.node.chip.lines → 0 < node.chip.lines
lines_still unit node same some = subst (λ (c : Chip). 0 < c.lines) (sym same) some

unit_goes : (unit : UnitState) (node : Node) (done : Option Done) → InOrderUnit unit → StepGoesOn (ReadsFor (next_effect unit)) unit.node (node, done) → UnitGoesOn unit (node, done) (performed unit (node, done))
unit_goes unit node None is step = record {
  fits = unit_from (record unit { node = node }) (record { lines = lines_still unit node step.chip is.lines; buffered = is.buffered; waits = step.goes.waits });
  goes = record { same = record { program = refl; tile = refl; registers = refl; steps = omega arith }; node = refl; answers = (refl, inl refl) };
  halted = refl;
}
unit_goes unit node (Some done) is step =
    let access = access_of unit done in
    let was = step.goes.was done refl in
    let goes = access_core unit.program access unit.core (λ read. was.is (sym (ap reads was.kind) ∙ read)) in
    let less : unit.core.steps < (core_after unit.program access unit.core).steps = omega (arith, goes.steps) in
    let after : UnitState = record unit { node = node; core = core_after unit.program access unit.core } in
    let none : node.side.misses.demand ≡ None = step.goes.alone done refl in
    record {
      fits = unit_from after (record {
        lines = lines_still unit node step.chip is.lines;
        buffered = is.buffered;
        waits = λ demand stands. none_some demand (sym none ∙ stands);
      });
      goes = record {
        same = record { program = refl; tile = goes.tile; registers = goes.registers; steps = omega arith };
        node = refl;
        answers = (unit.core.steps, refl, inl (record { number = refl; counts = less; buffered = refl; writes_last = λ writes. is.buffered }));
      };
      halted = refl;
    }

abbrev Law : UnitState → Performed → Acted → Type 0
Law unit step acted = (is_in_order acted.0 ≡ true) × Receives unit step acted

law_of : (unit : UnitState) (step : Performed) (acted : Acted) → UnitGoesOn unit step acted → Law unit step acted
law_of unit step acted goes = (goes.fits, record { goes_on = goes.goes; halted = goes.halted })

pub in_order_delivered : (q : Request) (unit : UnitState) → is_in_order unit ≡ true → Law unit (node_after_request q unit.node) (performed unit (node_after_request q unit.node))
in_order_delivered q unit fits =
    let is = unit_of unit fits in
    let step = node_after_request q unit.node in
    law_of unit step (performed unit step) (unit_goes unit step.0 step.1 is (delivered_goes (ReadsFor (next_effect unit)) q unit.node is.waits))

pub in_order_received : (msg : Msg) (unit : UnitState) → is_in_order unit ≡ true → Law unit (node_after_message msg unit.node) (performed unit (node_after_message msg unit.node))
in_order_received msg unit fits =
    let is = unit_of unit fits in
    let step = node_after_message msg unit.node in
    law_of unit step (performed unit step) (unit_goes unit step.0 step.1 is (arrived_goes (ReadsFor (next_effect unit)) msg unit.node is.waits))

-- ---- a core event
abbrev CoreLaw : UnitState → Acted → Type 0
CoreLaw unit acted = (is_in_order acted.0 ≡ true) × Works unit acted

below : (sum lines : ℕ) → 0 < lines → sum % (4 * lines) < 4 * lines
below sum lines some = omega arith

tried_law : (unit : UnitState) (kind : AccessKind) (sum value : ℕ) (acted : Acted) → InOrderUnit unit → (reads kind ≡ true → takes_word (next_effect unit) ≡ true) → access_tried unit kind sum value ≡ Some acted → CoreLaw unit acted
tried_law unit kind sum value acted is for e =
    let access : Pending = record { kind = kind; address = address_in unit.node.chip sum; value = value } in
    option_map_some (performed unit) (node_after_access access unit.node) acted e (λ step tried same.
    subst (CoreLaw unit) same (
    let goes = unit_goes unit step.0 step.1 is (access_goes (ReadsFor (next_effect unit)) access unit.node step for tried) in
    (goes.fits, inr (record { access = access; left = step; address = below sum unit.node.chip.lines is.lines; tried = tried; goes_on = goes.goes }))
    ))

-- an instruction that takes no access
pub becomes_goes : (instr : Instr) (core new : CoreState) → effect_of instr core ≡ Becomes new → CoreGoesOn core new
becomes_goes (Li rd n) core new e = grind (arith, length-set {A = ℕ})
becomes_goes (AddInstr rd ra rb) core new e = grind (arith, length-set {A = ℕ})
becomes_goes (Sub rd ra rb) core new e = grind (arith, length-set {A = ℕ})
becomes_goes (Addi rd ra n) core new e = grind (arith, length-set {A = ℕ})
becomes_goes (Ld rd ra n) core new e = cc
becomes_goes (St rs ra n) core new e = cc
becomes_goes (SwapInstr rd ra n) core new e = cc
becomes_goes (Fadd rd ra n) core new e = cc
becomes_goes (Beq ra rb target) core new e = grind arith
becomes_goes (Bne ra rb target) core new e = grind arith
becomes_goes (Jmp target) core new e = grind arith
becomes_goes (Tid rd) core new e = grind (arith, length-set {A = ℕ})
becomes_goes Halt core new e = cc

alone_law : (unit after : UnitState) → InOrderUnit after → SameUnit unit after → after.node ≡ unit.node → unit.node.side.misses.demand ≡ None
    → after.buffered ≡ unit.buffered → CoreLaw unit (after, None)
alone_law unit after is same node free buffered = (unit_from after is, inl (record { same = same; node = node; no_demand = free; reads = _; buffers = λ none. inl buffered }))

executed_law : (unit : UnitState) (effect : Effect) (acted : Acted) → InOrderUnit unit → unit.node.side.misses.demand ≡ None → next_effect unit ≡ effect → executed unit effect ≡ Some acted → CoreLaw unit acted
executed_law unit (Becomes core) acted is free next e =
    let goes = becomes_goes (instr_at unit.program unit.core.place) unit.core core next in
    let after : UnitState = record unit { core = core } in
    subst (CoreLaw unit) (same_Some {A = Acted} (after, None) acted e)
    (alone_law unit after
    (record { lines = is.lines; buffered = is.buffered; waits = λ demand stands. none_some demand (sym free ∙ stands) })
    (record { program = refl; tile = goes.tile; registers = goes.registers; steps = omega (arith, goes.steps) }) refl free refl)
executed_law unit Halts acted is free next e =
    subst (CoreLaw unit) (same_Some {A = Acted} (record unit { halted = true }, None) acted e)
    (alone_law unit (record unit { halted = true })
    (record { lines = is.lines; buffered = is.buffered; waits = λ demand stands. none_some demand (sym free ∙ stands) })
    (record { program = refl; tile = refl; registers = refl; steps = omega arith }) refl free refl)
executed_law unit (Loads register sum) acted is free next e = tried_law unit Load sum 0 acted is (λ reads. ap takes_word next) e
executed_law unit (Stores sum value) acted is free next e = tried_law unit Store sum value acted is (λ reads. absurd (false≢true reads)) e
executed_law unit (Swaps register sum value) acted is free next e = tried_law unit Swap sum value acted is (λ reads. ap takes_word next) e
executed_law unit (Adds register sum value) acted is free next e = tried_law unit Add sum value acted is (λ reads. ap takes_word next) e

core_law : (unit : UnitState) (acted : Acted) → InOrderUnit unit → core_event unit ≡ Some acted → CoreLaw unit acted
unfolding core_event
core_law unit acted is e =
    when_some (not (unit.halted || has_entry unit.node)) (executed unit (next_effect unit)) acted e (λ free does.
    executed_law unit (next_effect unit) acted is
    (free_of unit.node.side.misses.demand (ap not (or_parts unit.halted (has_entry unit.node) (not-true (unit.halted || has_entry unit.node) free)).1)) refl does)

pub in_order_stepped : (unit : UnitState) → is_in_order unit ≡ true → is_some (core_event unit) ≡ true → CoreLaw unit (unwrap_or (core_event unit) (unit, None))
in_order_stepped unit fits ready = by (core_event unit) refl ready where
  by : (o : Option Acted) → core_event unit ≡ o → is_some o ≡ true → CoreLaw unit (unwrap_or o (unit, None))
  by None is ready = absurd (false≢true ready)
  by (Some acted) is ready = core_law unit acted (unit_of unit fits) is

pub in_order_halted : (unit : UnitState) → unit.halted ≡ true → is_some (core_event unit) ≡ false
unfolding core_event
in_order_halted unit is = rw is refl

-- ---- what is no step of the core
pub in_order_opened : (chip : Chip) (tile : ℕ) (program : List Instr) (memory : List ℕ) → 0 < chip.lines → is_in_order (opening_unit chip tile program memory) ≡ true
in_order_opened chip tile program memory some =
    unit_from (opening_unit chip tile program memory) (record { lines = some; buffered = refl; waits = λ demand stands. none_some demand stands })

pub in_order_asked : (unit : UnitState) → is_in_order unit ≡ true → is_in_order (record unit { node = after_request_sent unit.node }) ≡ true
unfolding after_request_sent
in_order_asked unit fits =
    let is = unit_of unit fits in
    unit_from (record unit { node = after_request_sent unit.node })
    (record { lines = is.lines; buffered = is.buffered; waits = request_waits (ReadsFor (next_effect unit)) unit.node is.waits })

pub in_order_sent : (unit : UnitState) → is_in_order unit ≡ true → is_in_order (record unit { node = after_message_sent unit.node }) ≡ true
unfolding after_message_sent
in_order_sent unit fits =
    let is = unit_of unit fits in
    unit_from (record unit { node = after_message_sent unit.node }) (record { lines = is.lines; buffered = is.buffered; waits = is.waits })
