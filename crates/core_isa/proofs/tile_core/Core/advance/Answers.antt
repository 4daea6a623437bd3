use Rattle.std.proofs.Common.{ℕ, ◌≡◌, option_and_then, Some, sym, ap, ◌∙◌, subst, arith}
use Rattle.core_isa.specs.Core.{CoreState, DidMore, stepped}
use Rattle.core_isa.proofs.CoreSteps.{advanced-zero, advanced_more, DidMore-stepped, DidMore-advanced, advanced_stuck}
use Rattle.core_isa.proofs.tile_core.Core.advance.Goals as goal

pub loop-done-init : goal.loop-done-init
loop-done-init c = (advanced-zero _ _, omega arith)

pub loop-done-preserved : goal.loop-done-preserved
loop-done-preserved c =
    let stepped_to = c.if-not-step.ensures in
    let one = DidMore-stepped _ _ _ stepped_to in
    (advanced_more _ _ _ ∙ (ap (option_and_then (stepped c.args.program.now)) c.loop-done.invariant.0 ∙ stepped_to), omega (arith, one.steps))

pub returns-then-not-step-clause-more : goal.returns-then-not-step-clause-more
returns-then-not-step-clause-more c =
    DidMore-advanced c.args.program.now _ _ _ (c.loop-done.invariant.0 ∙ ap (λ (core : CoreState). Some core) (sym c.if-not-step.ensures.1))

pub returns-then-not-step-clause-short : goal.returns-then-not-step-clause-short
returns-then-not-step-clause-short c =
    λ less. advanced_stuck c.args.program.now _ _ _ _ c.loop-done.invariant.0 c.if-not-step.ensures.0 less

pub returns-clause-more : goal.returns-clause-more
returns-clause-more c =
    let all : c.loop-done.done ≡ c.args.n = omega arith in
    subst (λ (n : ℕ). DidMore n c.args.self.now c.loop-done.self) all (DidMore-advanced c.args.program.now _ _ _ c.loop-done.invariant.0)
