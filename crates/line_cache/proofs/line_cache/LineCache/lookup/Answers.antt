use Rattle.std.proofs.Common.{ℕ, List, Option, Some, sym, ◌∙◌, ap}
use Rattle.std.specs.Prelude.{option_map}
use Rattle.chip_model.specs.declared.line_state.State.{State}
use Rattle.chip_model.specs.Cache.{Held}
use Rattle.line_cache.specs.Sets.{copy_of}
use Rattle.line_cache.proofs.Sets.{at_read, lookup-at, copy_of-found, Fits-held}
use Rattle.line_cache.proofs.line_cache.LineCache.lookup.Goals as goal

pub returns-in_err-held-clause-copy : goal.returns-in_err-held-clause-copy
returns-in_err-held-clause-copy c = λ chip sets.
    let at = at_read c.args.self.now c.self.inside.sets.items c.args.line c.set_number.result c.index.result.now c.self.view_is c.set_number.ensures.number c.set_number.ensures.there c.index.ensures in
    lookup-at chip c.args.self.now c.args.line c.set_number.result c.index.result.now sets at
    ∙ sym c.found.ensures
    ∙ c.in_err-held.was
    ∙ ap (λ (o : Option (State × List ℕ)). option_map (copy_of c.args.line) o) (sym c.from_residual.ensures)

pub returns-clause-copy : goal.returns-clause-copy
returns-clause-copy c = λ chip sets.
    let at = at_read c.args.self.now c.self.inside.sets.items c.args.line c.set_number.result c.index.result.now c.self.view_is c.set_number.ensures.number c.set_number.ensures.there c.index.ensures in
    let held = sym c.found.ensures ∙ c.in_ok-held.was in
    lookup-at chip c.args.self.now c.args.line c.set_number.result c.index.result.now sets at
    ∙ held
    ∙ ap (λ (copy : Held). Some copy) (copy_of-found c.args.line c.index.result.now c.in_ok-held.held c.copy.result held c.copy.ensures.state c.copy.ensures.words)

pub returns-clause-fits : goal.returns-clause-fits
returns-clause-fits c = λ some.
    let at = at_read c.args.self.now c.self.inside.sets.items c.args.line c.set_number.result c.index.result.now c.self.view_is c.set_number.ensures.number c.set_number.ensures.there c.index.ensures in
    Fits-held c.args.self.now c.args.line c.set_number.result c.index.result.now at c.in_ok-held.held (sym c.found.ensures ∙ c.in_ok-held.was)
