use Rattle.std.proofs.Common.{◌≡◌, ℕ, true, false, Some, arith, sym, ◌∙◌, inl, inr, refl}
use Rattle.std.specs.Prelude.{slice_get}
use Rattle.std.proofs.lemmas.Bool.{true≢false}
use Rattle.std.proofs.lemmas.Option.{slice_get_within}
use Rattle.report_text.specs.declared.event.Event.{Event}
use Rattle.chip_model.specs.Chip.{chip_of}
use Rattle.chip_model.specs.ChipState.{finished}
use Rattle.chip_model.specs.Runs.{enabled}
use Rattle.chip_model.specs.Schedules.{slots}
use Rattle.machine_core.proofs.FirstEvents.{find_at, find_none, not_contained}
use Rattle.machine_core.proofs.machine.Machine.first_enabled.Goals as goal

pub returns-then-enabled-clause-first : goal.returns-then-enabled-clause-first
returns-then-enabled-clause-first g c =
    let m = c.args.self.now in
    find_at (enabled g.U.Unit.behaviour (chip_of m.document) m.state) (slots (chip_of m.document)) c.loop-k.k c.slot-e.result c.slot-e.ensures
    (sym c.enabled.ensures ∙ c.if-enabled.true) c.loop-k.invariant

pub returns-then-enabled-clause-none : goal.returns-then-enabled-clause-none
returns-then-enabled-clause-none g c = (
  λ none. cc,
  λ over. absurd (true≢false (sym c.if-enabled.true ∙ c.enabled.ensures ∙ c.progresses.ensures.stops over c.slot-e.result)),
)

pub returns-clause-first : goal.returns-clause-first
returns-clause-first g c =
    let m = c.args.self.now in
    find_none (enabled g.U.Unit.behaviour (chip_of m.document) m.state) (slots (chip_of m.document))
    (λ j e at. c.loop-k.invariant j e (omega (
      arith,
      slice_get_within (slots
          (chip_of m.document)) j e at,
      c.progresses.ensures.count,
      c.slots-k-end.ensures,
      c.loop-k-test.false,
    )) at)

pub returns-clause-none : goal.returns-clause-none
returns-clause-none g c =
    let m = c.args.self.now in
    let all : (j : ℕ) (e : Event) → slice_get (slots (chip_of m.document)) j ≡ Some e → enabled g.U.Unit.behaviour (chip_of m.document) m.state e ≡ false =
    λ j e at. c.loop-k.invariant j e (omega (
      arith,
      slice_get_within (slots
          (chip_of m.document)) j e at,
      c.progresses.ensures.count,
      c.slots-k-end.ensures,
      c.loop-k-test.false,
    )) at in
    let over : finished m.state ≡ true = elim c.progresses.ensures.moves [
      | inl ends ↦ ends
      | inr some ↦ absurd (true≢false (sym some.possible
          ∙ not_contained (enabled g.U.Unit.behaviour (chip_of m.document) m.state) (slots (chip_of m.document)) some.event all
          (c.progresses.ensures.slots some.event some.possible)))
    ] in
    (λ none. over, λ ends. refl)
