use Rattle.std.proofs.Common.{◌≡◌, true, sym, ◌∙◌, ap, subst}
use Rattle.std.specs.Prelude.{◌||◌, is_some}
use Rattle.chip_model.specs.Cache.{Ways, found, has_empty}
use Rattle.line_cache.proofs.Found.{found-emptied_there, found-emptied_other, fits-emptied}
use Rattle.line_cache.proofs.Sets.{at_read, drops, looks, keeps, stays, fits_still}
use Rattle.line_cache.proofs.line_cache.LineCache.drop_line.Goals as goal

pub invariant_of-self : goal.invariant_of-self
invariant_of-self c =
    let at = at_read c.args.self.now c.self.inside.sets.items c.args.line c.set_number-set.result c.index_mut.result.now c.self.view_is c.set_number-set.ensures.number c.set_number-set.ensures.there c.index_mut.ensures.value in
    stays c.args.self.now c.self.inside.sets.items c.args.line c.set_number-set.result c.index_mut.result.now c.empty.new.self c.self.view_is at c.self.invariant
    (λ m other. ap (found m) c.empty.ensures ∙ found-emptied_other c.args.line c.index_mut.result.now m other)

pub returns-clause-dropped : goal.returns-clause-dropped
returns-clause-dropped c = λ chip sets.
    let at = at_read c.args.self.now c.self.inside.sets.items c.args.line c.set_number-set.result c.index_mut.result.now c.self.view_is c.set_number-set.ensures.number c.set_number-set.ensures.there c.index_mut.ensures.value in
    drops chip c.args.self.now c.self.inside.sets.items c.args.line c.set_number-set.result c.index_mut.result.now c.empty.new.self c.self.view_is at c.empty.ensures sets

pub returns-clause-gone : goal.returns-clause-gone
returns-clause-gone c = λ chip sets.
    let at = at_read c.args.self.now c.self.inside.sets.items c.args.line c.set_number-set.result c.index_mut.result.now c.self.view_is c.set_number-set.ensures.number c.set_number-set.ensures.there c.index_mut.ensures.value in
    looks chip c.args.self.now c.self.inside.sets.items c.args.line c.set_number-set.result c.index_mut.result.now c.empty.new.self c.self.view_is at sets
    ∙ ap (found c.args.line) c.empty.ensures ∙ found-emptied_there c.args.line c.index_mut.result.now

pub returns-clause-others : goal.returns-clause-others
returns-clause-others c = λ chip sets other apart.
    let at = at_read c.args.self.now c.self.inside.sets.items c.args.line c.set_number-set.result c.index_mut.result.now c.self.view_is c.set_number-set.ensures.number c.set_number-set.ensures.there c.index_mut.ensures.value in
    keeps chip c.args.self.now c.self.inside.sets.items c.args.line c.set_number-set.result c.index_mut.result.now c.empty.new.self other c.self.view_is at
    (ap (found other) c.empty.ensures ∙ found-emptied_other c.args.line c.index_mut.result.now other apart)

pub returns-clause-room : goal.returns-clause-room
returns-clause-room c = λ chip sets other fit.
    let at = at_read c.args.self.now c.self.inside.sets.items c.args.line c.set_number-set.result c.index_mut.result.now c.self.view_is c.set_number-set.ensures.number c.set_number-set.ensures.there c.index_mut.ensures.value in
    fits_still chip c.args.self.now c.self.inside.sets.items c.args.line c.set_number-set.result c.index_mut.result.now c.empty.new.self other c.self.view_is at
    (λ before. subst (λ (ws : Ways). (is_some (found other ws) || has_empty ws) ≡ true) (sym c.empty.ensures) (fits-emptied c.args.line other c.index_mut.result.now before)) fit
