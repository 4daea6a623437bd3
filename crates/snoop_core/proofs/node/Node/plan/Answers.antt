use Rattle.std.proofs.Common.{ℕ, List, Option, sym, ◌∙◌, ap}
use Rattle.std.specs.Prelude.{option_map}
use Rattle.report_text.specs.declared.access.AccessKind.{AccessKind}
use Rattle.report_text.specs.Accesses.{writes}
use Rattle.chip_model.specs.declared.line_state.State.{State}
use Rattle.chip_model.specs.Cache.{lookup}
use Rattle.chip_model.specs.Node.{Node}
use Rattle.line_cache.specs.Sets.{copy_of}
use Rattle.snoop_core.proofs.Planning.{refused, loads, stores, misses}
use Rattle.snoop_core.proofs.node.Node.plan.Goals as goal

pub returns-then-has_entry-clause-plan : goal.returns-then-has_entry-clause-plan
returns-then-has_entry-clause-plan c = λ access kind at. refused access c.args.self.now (sym c.has_entry.ensures ∙ c.if-has_entry.true)

pub returns-else-writes-clause-plan : goal.returns-else-writes-clause-plan
returns-else-writes-clause-plan c = λ access kind at.
    loads access c.args.line c.args.self.now c.in-Some.copy (sym c.has_entry.ensures ∙ c.if-has_entry.false) at
    (ap (λ (node : Node). lookup node.chip node.side.cache c.args.line) (sym c.self.view_is) ∙ c.lookup.ensures.copy ∙ ap (λ (o : Option (State × List ℕ)). option_map (copy_of c.args.line) o) c.in-Some.is)
    (ap (λ (k : AccessKind). writes k) kind ∙ sym c.writes.ensures ∙ c.if-writes.false)

pub returns-then-writes-clause-plan : goal.returns-then-writes-clause-plan
returns-then-writes-clause-plan c = λ access kind at.
    stores access c.args.line c.args.self.now c.in-Some.copy c.plan_store.result (sym c.has_entry.ensures ∙ c.if-has_entry.false) at
    (ap (λ (node : Node). lookup node.chip node.side.cache c.args.line) (sym c.self.view_is) ∙ c.lookup.ensures.copy ∙ ap (λ (o : Option (State × List ℕ)). option_map (copy_of c.args.line) o) c.in-Some.is)
    (ap (λ (k : AccessKind). writes k) kind ∙ sym c.writes.ensures ∙ c.if-writes.true) (c.plan_store.ensures.plan access at)

pub returns-in-None-clause-plan : goal.returns-in-None-clause-plan
returns-in-None-clause-plan c = λ access kind at.
    misses access c.args.line c.args.self.now (sym c.has_entry.ensures ∙ c.if-has_entry.false) at
    (ap (λ (node : Node). lookup node.chip node.side.cache c.args.line) (sym c.self.view_is) ∙ c.lookup.ensures.copy ∙ ap (λ (o : Option (State × List ℕ)). option_map (copy_of c.args.line) o) c.in-None.is)
    ∙ c.plan_absent.ensures.plan access at
